use Rattle.std.proofs.Common.{◌++◌, take, rules}
use Rattle.std.specs.List.{concat}
use Rattle.waiting_outputs.proofs.lemmas.Pieces.{noted_more}
use Rattle.waiting_outputs.proofs.passed.note_pieces.Goals as goal

pub loop-first-preserved : goal.loop-first-preserved
loop-first-preserved c = noted_more c.loop-first.passed.bytes c.note.new.self.bytes
    c.prefix.result.now c.in-Some.first.now
    (c.args.passed.now.bytes ++ take c.args.count (concat c.args.pieces.now))
    c.loop-first.left.now c.in-Some.after.now c.loop-first.count c.saturating_sub-count.result
    c.in-Some.ensures c.note.ensures (search rules) (search rules) c.loop-first.invariant
