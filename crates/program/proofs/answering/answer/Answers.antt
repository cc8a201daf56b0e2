use Rattle.std.proofs.Common.{◌≡◌, true, subst, sym}
use Rattle.std.specs.Prelude.{IfOk}
use Rattle.command_line.specs.declared.request.Request.{Request}
use Rattle.program.specs.Outputs.{KeepsUnless, StopsRequest, is_atomic}
use Rattle.program.proofs.answering.answer.Goals as goal

pub returns-in-Run-clause-all_or_nothing : goal.returns-in-Run-clause-all_or_nothing
returns-in-Run-clause-all_or_nothing g c = λ t atomic.
    let old = g.F.Files.shows c.args.files.now in
    let new = g.F.Files.shows c.run.new.files in
    subst (λ (r : Request). IfOk c.run.result
    (λ ran. KeepsUnless (StopsRequest r old new) old new ran.ending)) (sym c.in-Run.is)
    (c.run.ensures.all_or_nothing t
    (subst (λ (r : Request). is_atomic r ≡ true) c.in-Run.is atomic))
