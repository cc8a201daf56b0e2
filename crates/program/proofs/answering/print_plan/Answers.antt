use Rattle.std.proofs.Common.{subst, sym}
use Rattle.program.specs.Runs.{IsNoShowing}
use Rattle.program.proofs.lemmas.ShowLaws.{unprinted}
use Rattle.program.proofs.answering.print_plan.Goals as goal

pub returns-in-Err-clause-cause : goal.returns-in-Err-clause-cause
returns-in-Err-clause-cause g c =
    let files = g.F.Files.shows c.args.files.now in
    subst (IsNoShowing c.args.form c.args.text.items files files) (sym c.refused.ensures)
    (unprinted c.args.form c.args.text.items c.in_ok-planned.planned.script
    c.in_ok-planned.planned.plan files c.in-Err.why
    c.in_ok-planned.ensures.script.0 c.in_ok-planned.ensures.script.1 c.in-Err.ensures.cause)
