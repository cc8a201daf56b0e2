use Rattle.std.proofs.Common.{sym, subst}
use Rattle.lending.specs.inner.Loans.{GroupGoesOn}
use Rattle.lending.proofs.GoingOn.{group_refl}
use Rattle.workers.proofs.begun.Stayed.new.Goals as goal

pub invariant_of-result : goal.invariant_of-result
invariant_of-result g c = subst (λ x. GroupGoesOn g.M.Machine.shows x c.args.group)
    (sym c.of.ensures) (group_refl g.M.Machine.shows c.args.group)
