-- A step of one node by itself leaves each pipe its two ends.
use Rattle.std.proofs.Common.{◌≡◌, ◌≢◌, ℕ, ◌<◌, List, get_or, set, length, refl, ap, ◌∙◌, sym}
use Rattle.std.proofs.Common.{subst, subst₂, ⊎_elim, get_or-set_other, get_or-set_same, length-set}
use Rattle.std.proofs.lemmas.Bool.{cases_eq}
use Rattle.std.proofs.lemmas.List.{get_or_default}
use Rattle.machine.specs.Law.{Shown}
use Rattle.collector.specs.Files.{FilesShown}
use Rattle.run_types.specs.declared.step.Step.{Step}
use Rattle.network_nodes.specs.declared.actor.Actor.{Actor}
use Rattle.network_nodes.specs.declared.actor.Actor.TheVariants as an
use Rattle.network_nodes.specs.declared.actor.Link.{Link}
use Rattle.network_nodes.specs.inner.Actors.{out_end, in_end, actor_at}
use Rattle.networks.specs.Networks.{AreWired, AreEndsOf}
use Rattle.networks.specs.inner.Steps.{Acts, SeesEach, StepsAt}
use Rattle.networks.proofs.ActLaws.{SameTables, same_tables_refl, same_wired, acts_tables}
use Rattle.networks.proofs.ActLaws.{acts_writes, acts_reads}

module _ {M : Type 0} where
  -- one node is another
  pub at_same : (nodes : List (Actor M)) (k : ℕ) (a : Actor M) → k < length nodes
      → actor_at (set nodes k a) k ≡ a
  at_same nodes k a lt = get_or-set_same nodes k a an.Lent lt

  pub at_else : (nodes : List (Actor M)) (k j : ℕ) (a : Actor M) → j ≢ k
      → actor_at (set nodes k a) j ≡ actor_at nodes j
  at_else nodes k j a ne = get_or-set_other nodes k j a an.Lent ne

  -- what is so of the new node and of each other one is so of each
  pub each_node : (P : ℕ → Actor M → Type 0) (nodes : List (Actor M)) (k : ℕ) (a : Actor M)
      → k < length nodes → P k a → ((j : ℕ) → j ≢ k → P j (actor_at nodes j)) → (j : ℕ)
      → P j (actor_at (set nodes k a) j)
  each_node P nodes k a lt own other j = ⊎_elim
      (λ e. subst₂ P (sym e) (sym (ap (λ (i : ℕ). actor_at (set nodes k a) i) e
      ∙ at_same nodes k a lt)) own)
      (λ ne. subst (P j) (sym (at_else nodes k j a ne)) (other j ne))
      (cases_eq j k)

  module _ (shows : M → Shown) (nodes : List (Actor M)) (k : ℕ) (d actor : Actor M)
      (old new : FilesShown) (st : Step) (lt : k < length nodes)
      (given : Acts shows (get_or nodes k d) actor old new st) where
    pub acts_at : Acts shows (actor_at nodes k) actor old new st
    acts_at = subst (λ (a : Actor M). Acts shows a actor old new st)
        (get_or_default nodes k d an.Lent lt) given

    moved_tables : (j : ℕ) → SameTables (actor_at nodes j) (actor_at (set nodes k actor) j)
    moved_tables = each_node (λ j a. SameTables (actor_at nodes j) a) nodes k actor lt
        (acts_tables shows old new st (actor_at nodes k) actor acts_at)
        (λ j ne. same_tables_refl (actor_at nodes j))

    pub moved_wired : (pipes : List Link) → AreWired nodes pipes
        → AreWired (set nodes k actor) pipes
    moved_wired pipes wired = same_wired pipes nodes (set nodes k actor)
        (length-set nodes k actor) moved_tables wired

    out_pipe : (j b : ℕ) → (let w = out_end (actor_at (set nodes k actor) j) b in w.pipe)
        ≡ (let w = out_end (actor_at nodes j) b in w.pipe)
    out_pipe j b = each_node (λ i a. (let w = out_end a b in w.pipe)
        ≡ (let w = out_end (actor_at nodes i) b in w.pipe)) nodes k actor lt
        (let on = acts_writes shows old new st (actor_at nodes k) actor acts_at b in
        on.pipe) (λ i ne. refl) j

    in_pipe : (j b : ℕ) → (let r = in_end (actor_at (set nodes k actor) j) b in r.pipe)
        ≡ (let r = in_end (actor_at nodes j) b in r.pipe)
    in_pipe j b = each_node (λ i a. (let r = in_end a b in r.pipe)
        ≡ (let r = in_end (actor_at nodes i) b in r.pipe)) nodes k actor lt
        (let on = acts_reads shows old new st (actor_at nodes k) actor acts_at b in
        on.pipe) (λ i ne. refl) j

    pub moved_ends : (pipes : List Link) → AreEndsOf nodes pipes
        → AreEndsOf (set nodes k actor) pipes
    moved_ends pipes ends p l e = out_pipe l.writer l.branch
        ∙ (ends p l e ∙ sym (in_pipe l.reader l.input))

    pub moved_steps : (pipes : List Link) (wires : List ℕ) (later : List (Actor M))
        → SeesEach pipes wires (set nodes k actor) later
        → StepsAt shows k pipes wires nodes later old new st
    moved_steps pipes wires later sees = record { actor = actor; acts = acts_at; sees = sees }
