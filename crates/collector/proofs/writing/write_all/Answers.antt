use Rattle.collector.proofs.Logs.{written_more, written_front}
use Rattle.collector.proofs.Results.{on_err}
use Rattle.collector.proofs.writing.write_all.Goals as goal

pub returns-in_err-at-clause-err : goal.returns-in_err-at-clause-err
returns-in_err-at-clause-err g c = on_err c.from_residual.result
    (written_front c.args.file c.args.bytes.now (g.F.Files.shows c.args.files.now) c.loop-at.at
    (g.F.Files.shows c.loop-at.files)
    (g.F.Files.shows c.write.new.self) c.in_err-at.ensures.failed.0 c.loop-at.invariant)

pub loop-at-preserved : goal.loop-at-preserved
loop-at-preserved g c =
    written_more c.args.file c.args.bytes.now
    (g.F.Files.shows c.args.files.now) c.loop-at.at c.in_ok-at.field-0
    (g.F.Files.shows c.loop-at.files) (g.F.Files.shows c.write.new.self)
    c.in_ok-at.ensures.count.0 c.in_ok-at.ensures.only c.in_ok-at.ensures.told
    c.in_ok-at.ensures.out
    c.in_ok-at.ensures.failures c.loop-at.invariant
