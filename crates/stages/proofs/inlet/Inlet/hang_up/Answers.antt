use Rattle.std.proofs.Common.{◌≡◌, ◌<◌, Bool, false, length, map, refl, sym, ap, subst, ◌∙◌, arith}
use Rattle.std.specs.List.{AllByRecursion}
use Rattle.bounded_pipe.specs.Ends.{Reading}
use Rattle.bounded_pipe.specs.Events.{HangsUp}
use Rattle.bounded_pipe.specs.Pipes.{items_taken}
use Rattle.stages.specs.Inlets.{Taking, reads}
use Rattle.stages.specs.inner.Moves.{AreTogether}
use Rattle.stages.proofs.Lists.{zip_length}
use Rattle.stages.proofs.lemmas.Inputs.{all_hung, reads_hung}
use Rattle.stages.proofs.lemmas.StepLaws.{same_taken}
use Rattle.stages.proofs.inlet.Inlet.hang_up.Goals as goal

pub invariant_of-self : goal.invariant_of-self
invariant_of-self c =
    let i = c.self.inside in
    let news = c.hang_up_each.new.ends.items in
    let same : length i.ends.items ≡ length news =
    zip_length HangsUp i.ends.items news c.hang_up_each.ensures in
    (omega (arith, same, c.self.invariant.0), c.self.invariant.1 ∙ same)

pub returns-clause-event : goal.returns-clause-event
returns-clause-event c =
    λ together not_yet.
    let i = c.self.inside in
    let news = c.hang_up_each.new.ends.items in
    let before : AllByRecursion (λ (r : Reading). r.hung_up ≡ false) i.ends.items =
    subst (λ (b : Bool). AllByRecursion (λ (r : Reading). r.hung_up ≡ b) i.ends.items)
    (ap (λ (x : Taking). x.hung_up) c.self.view_is ∙ not_yet)
    (subst AreTogether (sym c.self.view_is) together) in
    subst (λ (x : Taking). reads x.ends < reads news) c.self.view_is
    (reads_hung i.ends.items news c.self.invariant.0 before c.hang_up_each.ensures)

pub returns-clause-all : goal.returns-clause-all
returns-clause-all c =
    (refl, all_hung c.self.inside.ends.items c.hang_up_each.new.ends.items c.hang_up_each.ensures)

pub returns-clause-takes : goal.returns-clause-takes
returns-clause-takes c =
    let i = c.self.inside in
    let news = c.hang_up_each.new.ends.items in
    subst (λ (x : Taking). map items_taken news ≡ map items_taken x.ends) c.self.view_is
    (same_taken HangsUp i.ends.items news (λ r s h. h.taken) c.hang_up_each.ensures)
