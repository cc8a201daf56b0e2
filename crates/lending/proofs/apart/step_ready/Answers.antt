use Rattle.std.proofs.Common.{sym, subst}
use Rattle.collector.specs.Files.{FilesShown}
use Rattle.lending.specs.inner.Loans.{StepsApart}
use Rattle.lending.proofs.StepLaws.{steps_refl}
use Rattle.lending.proofs.apart.step_ready.Goals as goal

pub returns-else-is_ready-clause-steps : goal.returns-else-is_ready-clause-steps
returns-else-is_ready-clause-steps g c =
    let now = g.F.Files.shows c.args.files.now in
    subst (λ (f : FilesShown). StepsApart g.M.Machine.shows now f c.args.nodes.now c.args.nodes.now)
    (sym c.is_ready.ensures.same)
    (steps_refl g.M.Machine.shows now c.args.nodes.now)
