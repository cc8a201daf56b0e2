-- From the parts of a lent network, as its code holds them, to the network.
use Rattle.std.proofs.Common.{◌≡◌, ℕ, List, ap, ◌∙◌, sym, subst, subst₂, refl}
use Rattle.std.specs.List.{AllByRecursion}
use Rattle.machine.specs.Law.{Shown}
use Rattle.collector.specs.Files.{FilesShown}
use Rattle.network_nodes.specs.declared.actor.Actor.{Actor}
use Rattle.network_nodes.specs.declared.actor.Link.{Link}
use Rattle.network_nodes.specs.inner.Actors.{actor_at}
use Rattle.networks.specs.Networks.{Networked, HasFile, IsHere, HasOpened, AreBeside}
use Rattle.networks.specs.inner.Steps.{Sees}
use Rattle.lending.specs.inner.Loans.{Grouped, IsFree, put_all, fill, with_nodes, filled, Lends}
use Rattle.lending.specs.inner.Loans.{Settles, StepsApart, RunsFiles}

-- `start` is what the code held of the nodes of `m`, the network `now`, and `later` what it left of
-- them
module _ {M : Type 0} (m now : Networked M) (start later items : List (Actor M)) (is : m ≡ now)
    (n : start ≡ m.nodes) (e : items ≡ later) where
  -- all stages are back, and all pipes were looked at
  pub settles : (result : Networked M) → result ≡ with_nodes m items
      → (groups : List (Grouped M)) (pipes : List Link) → pipes ≡ m.pipes
      → Sees pipes (fill groups start) later → AreBeside later pipes
      → Settles (filled now groups) result
  settles result r groups pipes p sees beside =
      subst (λ (x : Networked M). Settles (filled now groups) x) (sym r)
      (subst₂ (λ (x : Networked M) (xs : List (Actor M)). Settles (filled x groups)
      (with_nodes m xs)) is (sym e)
      (record {
        only = refl;
        sees = subst₂ (λ (ps : List Link) (xs : List (Actor M)). Sees ps (fill groups xs) later) p n
            sees;
        beside = subst (λ (ps : List Link). AreBeside later ps) p beside;
      }))

  -- stages were taken out
  pub lends : (places : List ℕ) (g : Grouped M) → g.places ≡ places
      → AllByRecursion (IsFree later) places → put_all places g.stages later ≡ start
      → Lends places g now (with_nodes m items)
  lends places g same free back =
      subst₂ (λ (x : Networked M) (xs : List (Actor M)). Lends places g x (with_nodes m xs)) is
      (sym e)
      (record {
        places_are = same;
        free = free;
        back = ap (λ (xs : List (Actor M)). with_nodes m xs)
            (ap (λ (ps : List ℕ). put_all ps g.stages later) same ∙ (back ∙ n));
      })

  -- nodes that are here stepped
  pub runs : (shows : M → Shown) (f g : FilesShown) → HasOpened now f
      → StepsApart shows f g start later → RunsFiles shows f g now (with_nodes m items)
  runs shows f g opened s =
      let t : StepsApart shows f g m.nodes items =
      subst₂ (λ (xs ys : List (Actor M)). StepsApart shows f g xs ys) n (sym e) s in
      subst (λ (x : Networked M). RunsFiles shows f g x (with_nodes m items)) is
      (record {
        steps = t;
        tables = refl;
        opened =
            t.opened (subst (λ (x : Networked M). HasOpened x f) (sym is) opened);
      })

module _ {M : Type 0} (m now : Networked M) (start : List (Actor M)) (is : m ≡ now)
    (n : start ≡ m.nodes) where
  -- its nodes are those that the code held
  begins : now.nodes ≡ start
  begins = sym (n ∙ ap (λ (x : Networked M). x.nodes) is)

  -- so their files are open
  pub held_opened : (f : FilesShown) → HasOpened now f → (k : ℕ) → HasFile f (actor_at start k)
  held_opened f h = subst (λ (xs : List (Actor M)). (k : ℕ) → HasFile f (actor_at xs k)) begins h

  -- and those that are here are here
  pub held_here : (k : ℕ) → IsHere (actor_at now.nodes k) → IsHere (actor_at start k)
  held_here k h = subst (λ (xs : List (Actor M)). IsHere (actor_at xs k)) begins h
