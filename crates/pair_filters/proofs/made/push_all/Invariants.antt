use Rattle.std.proofs.Common.{◌≡◌, ◌++◌, length}
use Rattle.machine.specs.Pieces.{contents}
use Rattle.pair_filters.proofs.made.push_all.Given as goal

abbrev pub invariant-loop-piece : goal.invariant-loop-piece
invariant-loop-piece l =
    record {
      moved : contents l.to ++ contents l.from ≡ contents l.fn.to ++ contents l.fn.from;
      block : l.to.block ≡ l.fn.to.block;
    }

abbrev pub decreases-loop-piece : goal.decreases-loop-piece
decreases-loop-piece l = length l.from.pieces
