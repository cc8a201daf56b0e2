use Rattle.std.proofs.Common.{map, take}
use Rattle.planner.specs.declared.plan.InOpening.{InOpening}
use Rattle.plrun.specs.Looks.{Input}
use Rattle.plrun.specs.inner.Seen.{GoesThrough}
use Rattle.plrun.proofs.looks.look_at_inputs.Given as goal

abbrev pub invariant-loop-opening : goal.invariant-loop-opening
invariant-loop-opening g l =
    GoesThrough (map (λ (o : InOpening). Input o.name) (take l.opening-index l.openings))
    l.initial.kept.items l.kept.items (g.L.LooksAtFiles.looks l.initial.look)
    (g.L.LooksAtFiles.looks l.look)
