use Rattle.plrun.specs.Process.{names_file}
use Rattle.plrun.proofs.lemmas.EndLaws.{ends_process, exit_status}
use Rattle.plrun.proofs.lemmas.ReportLaws.{opens_no_other}
use Rattle.plrun.proofs.process.serve.Goals as goal

pub returns-clause-ends : goal.returns-clause-ends
returns-clause-ends g c =
    let old = g.F.Files.shows c.args.files.now in
    let mid = g.F.Files.shows c.answer-came_to.new.files in
    let new_files = c.end-reader_is_gone.new.self in
    let new = g.F.Files.shows new_files in
    let wishes = c.of-wishes.result in
    ends_process wishes.quiet_pipe c.end-reader_is_gone.result
    (names_file wishes.stats) (g.P.Report.failed c.conclude.new.file) wishes.check
    (g.L.LooksAtFiles.looks c.args.look.now) (g.L.LooksAtFiles.looks c.conclude.new.look)
    c.conclude.result
    g.F.Files.contents_known c.args.request old mid new
    c.end-reader_is_gone.ensures.same (g.F.RunFiles.gone new_files)
    c.end-reader_is_gone.ensures.gone c.of-wishes.ensures.quiet c.of-wishes.ensures.check
    c.of-wishes.ensures.report
    c.answer-came_to.result
    c.conclude.ensures.ended c.conclude.ensures.refused c.conclude.ensures.unlooked
    c.answer-came_to.ensures.ended
    c.answer-came_to.ensures.cause c.answer-came_to.ensures.kept

pub returns-clause-status : goal.returns-clause-status
returns-clause-status g c =
    let wishes = c.of-wishes.result in
    exit_status wishes.quiet_pipe c.end-reader_is_gone.result
    (names_file wishes.stats) (g.P.Report.failed c.conclude.new.file) wishes.check
    (g.L.LooksAtFiles.looks c.args.look.now) (g.L.LooksAtFiles.looks c.conclude.new.look)
    c.conclude.result
    c.answer-came_to.result
    c.conclude.ensures.ended c.conclude.ensures.refused

pub returns-clause-opens : goal.returns-clause-opens
returns-clause-opens g c =
    opens_no_other c.args.request (g.P.Report.opened c.args.file.now)
    (g.P.Report.opened c.answer-came_to.new.file) (g.P.Report.opened c.conclude.new.file)
    c.conclude.ensures.same c.answer-came_to.result
    c.answer-came_to.ensures.reports c.answer-came_to.ensures.may_report
