use Rattle.program.proofs.lemmas.ReportLaws.{not_apart, not_reported}
use Rattle.program.proofs.answering.open_files.Goals as goal

pub returns-in-Err-clause-cause : goal.returns-in-Err-clause-cause
returns-in-Err-clause-cause g c =
    not_apart g.F.Files.contents_known c.args.script c.args.strict c.args.placing c.args.stats_to
    c.args.plan.now (g.F.Files.shows c.args.files.now) c.in-Err.why c.in-Err.ensures.cause

pub returns-in-Err-open_report-clause-cause : goal.returns-in-Err-open_report-clause-cause
returns-in-Err-open_report-clause-cause g c =
    let opens = c.in-Ok.ensures.opens in
    not_reported g.F.Files.contents_known c.args.script c.args.strict c.args.placing c.args.stats_to
    c.args.plan.now (g.F.Files.shows c.args.files.now) (g.F.Files.shows c.open_placing.new.files)
    (g.F.Files.shows c.leave_outputs.new.self) c.in-Ok.opened opens c.leave_outputs.ensures
    c.in-Err-open_report.why _ _ c.in-Err-open_report.ensures.cause
