-- Nodes that are here step while groups are out.
use Rattle.std.proofs.Common.{ℕ, ◌<◌, List, set, refl, ap, ◌∙◌, sym, subst}
use Rattle.machine.specs.Law.{Shown}
use Rattle.collector.specs.Files.{FilesShown}
use Rattle.run_types.specs.declared.step.Step.{Step}
use Rattle.network_nodes.specs.declared.actor.Actor.{Actor}
use Rattle.network_nodes.specs.inner.Actors.{actor_at}
use Rattle.networks.specs.Networks.{IsHere, SameActor, Face}
use Rattle.networks.specs.inner.Steps.{Acts}
use Rattle.networks.proofs.Acted.{each_node}
use Rattle.networks.proofs.Same.{same_actor_refl, same_actor_trans, acts_same, acts_own}
use Rattle.networks.proofs.Touched.{own_touches, nodes_touch_nothing, touches_then, touches_by}
use Rattle.lending.specs.inner.Loans.{fill, NodesGoOn, StepsApart}
use Rattle.lending.proofs.KeptNodes.{nodes_refl, nodes_trans, step_goes, step_opened, goes_apart}
use Rattle.lending.proofs.FillLaws.{all_out, fill_at, fill_count, fill_set, free_set, here_within}
use Rattle.lending.proofs.FillLaws.{other_place}
use Rattle.lending.proofs.lemmas.FaultLaws.{acts_reaches, step_faults}

module _ {M : Type 0} (shows : M → Shown) where
  -- one step
  pub steps_one : (f g : FilesShown) (st : Step) (nodes : List (Actor M)) (k : ℕ) (actor : Actor M)
      → IsHere (actor_at nodes k) → Acts shows (actor_at nodes k) actor f g st
      → StepsApart shows f g nodes (set nodes k actor)
  steps_one f g st nodes k actor here acts =
      let lt = here_within nodes k here in
      record {
        out = all_out nodes (set nodes k actor)
            (λ p free. free_set nodes k actor p (other_place nodes k p here free) free);
        go_on = λ groups out apart.
            subst (λ (xs : List (Actor M)). NodesGoOn shows f g (fill groups nodes) xs)
            (sym (fill_set nodes k actor here groups out))
            (step_goes shows f g st (fill groups nodes) k actor
            (subst (λ (n : ℕ). k < n) (sym (fill_count groups nodes)) lt)
            (subst (λ (a : Actor M). Acts shows a actor f g st)
            (sym (fill_at nodes k here groups out)) acts) apart);
        opened = step_opened shows f g st nodes k actor lt acts;
        same = each_node (λ j a. SameActor (actor_at nodes j) a) nodes k actor lt
            (acts_same shows f g st (actor_at nodes k) actor acts)
            (λ j ne. same_actor_refl (actor_at nodes j));
        touches = own_touches nodes k (actor_at nodes k) f g refl
            (acts_own shows f g st (actor_at nodes k) actor acts);
        counts =
            λ before reach. (
              acts_reaches shows f g st before reach (actor_at nodes k) actor acts,
              step_faults shows f g st before reach nodes k actor lt acts,
            );
      }

  -- none
  pub steps_refl : (f : FilesShown) (nodes : List (Actor M)) → StepsApart shows f f nodes nodes
  steps_refl f nodes = record {
    out = λ groups h. h;
    go_on = λ groups h apart. nodes_refl shows f (fill groups nodes);
    opened = λ h. h;
    same = λ k. same_actor_refl (actor_at nodes k);
    touches = nodes_touch_nothing nodes f f refl;
    counts = λ before reach. (reach, λ h. h);
  }

  -- some, and then some
  pub steps_trans : (f g h : FilesShown) (a b c : List (Actor M)) → StepsApart shows f g a b
      → StepsApart shows g h b c → StepsApart shows f h a c
  steps_trans f g h a b c p q = record {
    out = λ groups x. q.out groups (p.out groups x);
    go_on = λ groups x apart.
        let first = p.go_on groups x apart in
        nodes_trans shows f g h (fill groups a) (fill groups b) (fill groups c) first
        (q.go_on groups (p.out groups x)
        (goes_apart shows f g (fill groups a) (fill groups b) first apart));
    opened = λ x. q.opened (p.opened x);
    same = λ k. same_actor_trans (actor_at a k) (actor_at b k) (actor_at c k) (p.same k) (q.same k);
    touches = touches_then a f g h p.touches
        (touches_by a b g h (λ k file e. let t = p.same k in sym (ap (λ (f : Face). f.in_file) t)
        ∙ e) (λ k file e. let t = p.same k in sym (ap (λ (f : Face). f.out_file) t) ∙ e) q.touches);
    counts = λ before reach.
        let first = p.counts before reach in
        let then = q.counts before first.0 in
        (then.0, λ true_. then.1 (first.1 true_));
  }
