use Rattle.std.proofs.Common.{◌≡◌, ◌+◌, ◌*◌, length}
use Rattle.pair_filters.specs.Intakes.{bytes_left}
use Rattle.pair_filters.specs.inner.TableSteps.{columns_left, PoursCells}
use Rattle.pair_filters.proofs.table.put_rows.Given as goal

abbrev pub invariant-loop-place : goal.invariant-loop-place
invariant-loop-place l =
    record {
      poured : PoursCells l.delimiters l.columns l.fn.intakes l.intakes l.fn.place l.place l.fn.made
          l.made l.fn.out l.out;
      block : l.out.block ≡ l.fn.out.block;
    }

abbrev pub decreases-loop-place : goal.decreases-loop-place
decreases-loop-place l = bytes_left l.intakes * (2 * length l.columns + 2) + columns_left
    (length l.columns) l.place
