use Rattle.openings.specs.inner.LeftParts.{LeavesParts}
use Rattle.openings.proofs.parts.leave_out_parts.Given as goal

abbrev pub invariant-loop-place : goal.invariant-loop-place
invariant-loop-place g l = LeavesParts l.plan l.answers l.place (g.F.Files.shows l.initial.files)
    (g.F.Files.shows l.files)
