use Rattle.std.proofs.Common.{false, sym, subst}
use Rattle.stages.specs.Outlets.{Putting}
use Rattle.stages.specs.inner.Moves.{Serves}
use Rattle.stages.proofs.lemmas.ServeLaws.{serves_none}
use Rattle.stages.proofs.outlet.Outlet.close_gone.Goals as goal

pub returns-clause-serves : goal.returns-clause-serves
returns-clause-serves c = subst (λ (x : Putting). Serves false c.args.self.now x)
    (sym c.loop-k.invariant.same) (serves_none c.args.self.now)
