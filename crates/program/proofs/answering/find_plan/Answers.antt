use Rattle.std.proofs.Common.{inr}
use Rattle.std.proofs.lemmas.Result.{err_from_is_err_and}
use Rattle.program.proofs.lemmas.RunLaws.{unfound}
use Rattle.program.proofs.answering.find_plan.Goals as goal

pub returns-in_err-found-clause-cause : goal.returns-in_err-found-clause-cause
returns-in_err-found-clause-cause g c =
    let residual = c.from_residual-in_err-found in
    let r = err_from_is_err_and residual.result residual.ensures.1 in
    rw (r.1, r.2)
    (inr (unfound c.args.script c.in_ok-text.text.items
    (g.F.Files.shows c.args.files.now) (g.F.Files.shows c.text_from.new.files)
    c.in_ok-text.ensures.given c.in_err-found.field-0.0.why
    c.in_err-found.ensures.cause))
