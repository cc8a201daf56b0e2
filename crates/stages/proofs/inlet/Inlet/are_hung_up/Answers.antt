use Rattle.std.proofs.Common.{◌≡◌, Bool, true, sym, subst}
use Rattle.std.specs.List.{AllByRecursion}
use Rattle.bounded_pipe.specs.Ends.{Reading}
use Rattle.stages.specs.inner.Moves.{AreTogether}
use Rattle.stages.proofs.lemmas.Inputs.{hung_each}
use Rattle.stages.proofs.inlet.Inlet.are_hung_up.Goals as goal

pub returns-then-self-clause-not_yet : goal.returns-then-self-clause-not_yet
returns-then-self-clause-not_yet c =
    λ no together.
    let ends = c.self.inside.ends.items in
    let hung : AllByRecursion (λ (r : Reading). r.hung_up ≡ true) ends =
    subst (λ (b : Bool). AllByRecursion (λ (r : Reading). r.hung_up ≡ b) ends) c.if-self.true
    (subst AreTogether (sym c.self.view_is) together) in
    absurd (cc (hung_each ends hung, c.each_hung_up.ensures, c.deref.ensures.value, no))
