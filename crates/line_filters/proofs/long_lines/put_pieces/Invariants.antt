use Rattle.std.proofs.Common.{◌≡◌, ◌++◌, length}
use Rattle.std.specs.List.{concat}
use Rattle.machine.specs.Pieces.{contents}
use Rattle.line_filters.proofs.long_lines.put_pieces.Given as goal

abbrev pub invariant-loop-piece : goal.invariant-loop-piece
invariant-loop-piece l =
    record {
      moved : contents l.out ++ concat l.pieces.items
          ≡ contents l.fn.out ++ concat l.fn.pieces.items;
      block : l.out.block ≡ l.fn.out.block;
    }

abbrev pub decreases-loop-piece : goal.decreases-loop-piece
decreases-loop-piece l = length l.pieces.items
