use Rattle.std.proofs.Common.{rules}
use Rattle.waiting_outputs.proofs.lemmas.Grown.{appends_more}
use Rattle.waiting_outputs.proofs.thread.write_whole.Goals as goal

pub loop-at-preserved : goal.loop-at-preserved
loop-at-preserved g c = (
  search rules,
  appends_more (g.F.Write.contents c.args.file.now) (g.F.Write.contents c.loop-at.file)
      (g.F.Write.contents c.write.new.self) c.loop-at.at c.in-Ok.count c.args.bytes.now
      c.loop-at.invariant.1 c.in-Ok.ensures.bytes,
)
