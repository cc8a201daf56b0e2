-- The files that a run of a network touches: those of its nodes.
use Rattle.std.proofs.Common.{◌≡◌, ℕ, Option, Some, None, ap, sym, ◌∙◌}
use Rattle.collector.specs.Files.{FilesShown}
use Rattle.collector.specs.Nodes.{ReadsOwn}
use Rattle.collector.proofs.TouchLaws.{touches_none, touches_nothing, touches_input, touches_output}
use Rattle.collector.proofs.TouchLaws.{touches_on, touches_more}
use Rattle.network_nodes.specs.declared.actor.Actor.{Actor}
use Rattle.network_nodes.specs.declared.actor.Actor.TheVariants as an
use Rattle.network_nodes.specs.inner.Actors.{actor_at}
use Rattle.networks.specs.Networks.{Networked, IsNetwork, IsReadBy, IsWrittenBy, TouchesNodes}
use Rattle.networks.specs.Networks.{TouchesOwn, in_file, out_file, Face}
use Rattle.std.specs.Prelude.{List}

module _ {M : Type 0} where
  reads_own : (nodes : List (Actor M)) (k : ℕ) (own : Option ℕ) (old new : FilesShown)
      → in_file (actor_at nodes k) ≡ own → ReadsOwn own old new → TouchesNodes nodes old new
  reads_own nodes k None old new is h = touches_none (IsReadBy nodes) (IsWrittenBy nodes) old new h
  reads_own nodes k (Some file) old new is h =
      touches_input (IsReadBy nodes) (IsWrittenBy nodes) file old new (k, is) h

  -- a step of a node
  pub own_touches : (nodes : List (Actor M)) (k : ℕ) (a : Actor M) (old new : FilesShown)
      → actor_at nodes k ≡ a → TouchesOwn a old new → TouchesNodes nodes old new
  own_touches nodes k (an.Source x) old new is h =
      reads_own nodes k x.file old new (ap in_file is) h
  own_touches nodes k (an.Stage t) old new is h =
      touches_none (IsReadBy nodes) (IsWrittenBy nodes) old new h
  own_touches nodes k (an.Sink y) old new is h =
      touches_output (IsReadBy nodes) (IsWrittenBy nodes) y.file old new (k, ap out_file is) h
  own_touches nodes k an.Lent old new is h =
      touches_none (IsReadBy nodes) (IsWrittenBy nodes) old new h

  -- no step
  pub nodes_touch_nothing : (nodes : List (Actor M)) (old new : FilesShown) → new ≡ old
      → TouchesNodes nodes old new
  nodes_touch_nothing nodes old new e = touches_nothing (IsReadBy nodes)
      (IsWrittenBy nodes) old new e

  -- nodes whose files are among those of others
  pub touches_by : (nodes later : List (Actor M)) (old new : FilesShown) →
      ((k file : ℕ) → in_file (actor_at later k) ≡ Some file
      → in_file (actor_at nodes k) ≡ Some file) →
      ((k file : ℕ) → out_file (actor_at later k) ≡ Some file
      → out_file (actor_at nodes k) ≡ Some file) →
      TouchesNodes later old new → TouchesNodes nodes old new
  touches_by nodes later old new ins outs h =
      touches_more (IsReadBy later) (IsWrittenBy later) (IsReadBy nodes) (IsWrittenBy nodes) old new
      (λ file own. (own.0, ins own.0 file own.1)) (λ file own. (own.0, outs own.0 file own.1)) h

  pub touches_then : (nodes : List (Actor M)) (a b c : FilesShown) → TouchesNodes nodes a b
      → TouchesNodes nodes b c → TouchesNodes nodes a c
  touches_then nodes a b c g h = touches_on (IsReadBy nodes) (IsWrittenBy nodes) a b c g h

  -- a run of a network that is the same
  pub network_touches : (R : ℕ → ℕ → Type 0) (n m : Networked M) (a b c : FilesShown)
      → IsNetwork R n m → TouchesNodes n.nodes a b → TouchesNodes m.nodes b c
      → TouchesNodes n.nodes a c
  network_touches R n m a b c same g h = touches_then n.nodes a b c g
      (touches_by n.nodes m.nodes b c
      (λ k file e. let t = same.nodes k in sym (ap (λ (f : Face). f.in_file) t)
      ∙ e) (λ k file e. let t = same.nodes k in sym (ap (λ (f : Face). f.out_file) t) ∙ e) h)
