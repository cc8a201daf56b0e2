use Rattle.std.proofs.Common.{◌≡◌, map, take}
use Rattle.plan_runs.proofs.placing.names_in.Given as goal

abbrev pub invariant-loop-opening : goal.invariant-loop-opening
invariant-loop-opening l = l.names.items ≡ map (λ o. o.name) (take l.opening-index l.openings)
