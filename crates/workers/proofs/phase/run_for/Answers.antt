use Rattle.workers.proofs.lemmas.Phases.{phases_ran}
use Rattle.workers.proofs.phase.run_for.Goals as goal

pub returns-then-phase-clause-phase : goal.returns-then-phase-clause-phase
returns-then-phase-clause-phase g c =
    let out = c.in_ok-phase.ensures in
    phases_ran g.M.Machine.shows (g.F.Files.shows c.args.files.now)
    (g.F.Files.shows c.run_out.new.files)
    (g.F.Files.shows c.pass_on.new.files) c.args.network c.in_ok-phase.phase.network
    c.pass_on.result.network
    out.phase (out.sound c.if-phase.true) c.pass_on.ensures
