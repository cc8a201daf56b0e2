-- A network that was made and not run yet.
use Rattle.std.proofs.Common.{◌≡◌, ℕ, Option, None, refl, ap, subst, sym, ◌∙◌}
use Rattle.machine.specs.Law.{Shown}
use Rattle.collector.specs.Files.{FilesShown}
use Rattle.graphs.specs.Graph.{GraphNode, node_at}
use Rattle.network_laws.specs.Start.{IsNew, IsNewPart, NoPart, NewPartOfSource, NewPartOfStage}
use Rattle.network_laws.specs.Start.{NewPartOfSink}
use Rattle.network_laws.specs.State.{Part, Setup, IsFailed, node_state_of}
use Rattle.run_types.specs.declared.node_state.NodeState.TheVariants.{Running}
use Rattle.network_nodes.specs.declared.actor.Actor.{Actor}
use Rattle.network_nodes.specs.inner.Actors.{actor_at}
use Rattle.networks.specs.Networks.{Networked, FitsAt, IsRight, network_state, FitsSource}
use Rattle.networks.specs.Networks.{FitsStage, FitsSink}
use Rattle.networks.specs.Turns.{NoneFailed}
use Rattle.networks.proofs.EndLaws.{state_is}

-- a new node of the graph runs
new_part_runs : (s : Setup) (k : ℕ) (o : Option GraphNode) (part : Part) → (o ≡ None → ⊥)
    → IsNewPart s k o part → node_state_of part ≡ Running
new_part_runs s k _ _ some NoPart = absurd (some refl)
new_part_runs s k _ _ some (NewPartOfSource new) = ap (λ y. y.state) new
new_part_runs s k _ _ some (NewPartOfStage new) = new.state
new_part_runs s k _ _ some (NewPartOfSink new) = ap (λ y. y.state) new

-- what fits is a node of the graph
fits_some : {M : Type 0} (shows : M → Shown) (s : Setup) (files : FilesShown) (k : ℕ)
    (o : Option GraphNode) (a : Actor M) → FitsAt shows s files k o a → o ≡ None → ⊥
fits_some shows s files k _ _ (FitsSource file fits block) none = absurd (cc none)
fits_some shows s files k _ _ (FitsStage ins outs case block) none = absurd (cc none)
fits_some shows s files k _ _ (FitsSink fits unended) none = absurd (cc none)

-- no node of a new network has failed
pub new_unfailed : {M : Type 0} (shows : M → Shown) (s : Setup) (files : FilesShown)
    (n : Networked M) → IsRight shows s n files → IsNew s (network_state shows n files)
    → NoneFailed n
new_unfailed shows s files n right new k lt failed =
    let runs = new_part_runs s k (node_at s.graph k) _
    (fits_some shows s files k (node_at s.graph k) (actor_at n.nodes k) (right.fits k lt))
    (new.parts k) in
    subst IsFailed (sym (state_is shows files (actor_at n.nodes k)) ∙ runs) failed
