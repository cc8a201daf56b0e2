use Rattle.std.proofs.Common.{rules}
use Rattle.waiting_outputs.proofs.lemmas.Pieces.{front_taken, piece_taken}
use Rattle.waiting_outputs.proofs.thread.write_pieces.Goals as goal

pub returns-then-is_some-clause-written : goal.returns-then-is_some-clause-written
returns-then-is_some-clause-written g c = front_taken c.args.pieces.now c.loop-first.left.now
    c.loop-first.taken (g.F.Write.contents c.args.file.now)
    (g.F.Write.contents c.loop-first.file) (g.F.Write.contents c.write_whole-count.new.file)
    c.bytes.result.now c.in-Some.after.now c.write_whole-count.result.0
    (search rules) c.loop-first.invariant c.write_whole-count.ensures.count
    c.write_whole-count.ensures.written

pub loop-first-preserved : goal.loop-first-preserved
loop-first-preserved g c = piece_taken c.args.pieces.now c.loop-first.left.now
    c.loop-first.taken (g.F.Write.contents c.args.file.now)
    (g.F.Write.contents c.loop-first.file) (g.F.Write.contents c.write_whole-count.new.file)
    c.bytes.result.now c.in-Some.after.now c.write_whole-count.result.0
    (search rules) c.loop-first.invariant c.write_whole-count.ensures.count
    c.write_whole-count.ensures.written (c.write_whole-count.ensures.whole (search rules))
    (search rules)
