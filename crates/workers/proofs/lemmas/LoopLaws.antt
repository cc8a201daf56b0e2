-- What one phase after another keeps.
use Rattle.std.proofs.Common.{◌≡◌, ℕ, ◌<◌, ◌≤◌, length, sym, subst, ⊎_elim}
use Rattle.std.specs.Prelude.{Ok}
use Rattle.std.proofs.lemmas.Bool.{cases_lt}
use Rattle.std.proofs.lemmas.List.{get_or_past}
use Rattle.network_laws.specs.State.{IsFailed}
use Rattle.network_laws.specs.declared.outcome.Outcome.{Outcome}
use Rattle.network_laws.specs.declared.outcome.Outcome.TheVariants as outcome
use Rattle.network_nodes.specs.declared.actor.Actor.{Actor}
use Rattle.network_nodes.specs.declared.actor.Actor.TheVariants as an
use Rattle.network_nodes.specs.inner.Actors.{actor_at, node_state_at}
use Rattle.networks.proofs.FaultLaws.{faults_kept}
use Rattle.networks.specs.declared.faults.FileFaults.{FileFaults}
use Rattle.networks.specs.Networks.{Networked, SameNetwork, GrownNetwork}
use Rattle.networks.specs.Turns.{AreFaultsOf, FaultsAreTrue, HasFaulted, HasFileFault, IsSound}
use Rattle.networks.specs.Turns.{NoneFailed}

-- an outcome is a fault, or it is none
pub not_both : (o : Outcome) → IsSound o → HasFaulted (Ok o) → ⊥
not_both (outcome.Finished status) sound faulted = faulted
not_both (outcome.Stalled waits) sound faulted = faulted
not_both (outcome.Faulted fault) sound faulted = sound

module _ {M : Type 0} where
  -- a node that failed in a read or a write has failed
  file_failed : (a : Actor M) → HasFileFault a → IsFailed (node_state_at a)
  file_failed (an.Source x) h = subst IsFailed (sym h) tt
  file_failed (an.Sink y) h = subst IsFailed (sym h) tt
  file_failed _ h = absurd h

  -- if no node has failed, no read and no write of one has
  pub none_untrue : (before now : ℕ) (n : Networked M) → NoneFailed n
      → FaultsAreTrue before now n.nodes
  none_untrue before now n none k h = ⊎_elim
      (λ (lt : k < length n.nodes). absurd (none k lt (file_failed (actor_at n.nodes k) h)))
      (λ (ge : length n.nodes ≤ k). absurd (subst (λ (a : Actor M). HasFileFault a)
      (get_or_past n.nodes k an.Lent ge) h))
      (cases_lt k (length n.nodes))

  -- the list of faults is still that of the nodes after a phase and rounds that left it
  pub faults_after : (old mid new : Networked M) (had has : FileFaults) → SameNetwork old mid
      → GrownNetwork mid new → has ≡ had → AreFaultsOf old.nodes had → AreFaultsOf new.nodes has
  faults_after old mid new had has same grown kept are =
      subst (λ (f : FileFaults). AreFaultsOf new.nodes f) (sym kept)
      (faults_kept (λ c d. c ≤ d) mid new had grown
      (faults_kept (λ c d. d ≡ c) old mid had same are))
