use Rattle.std.proofs.Common.{arith}
use Rattle.tr_filter.specs.Moves.{moved}
use Rattle.tr_words.proofs.TableLaws.{entries_are}
use Rattle.tr_filter.proofs.moves.are_moves.Goals as goal

pub returns : goal.returns
returns c = λ _. entries_are (moved c.args.moves) c.args.table.now 0 (omega arith)
    (λ x h. c.loop-index.invariant x (omega arith))
