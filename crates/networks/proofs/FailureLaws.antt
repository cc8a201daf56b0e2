-- The counter of failures, over the steps of a round.
use Rattle.std.proofs.Common.{◌≡◌, ◌≢◌, ℕ, ◌+◌, ◌-◌, ◌<◌, ◌≤◌, refl, sym, ap, ◌∙◌, subst, inl, inr}
use Rattle.std.proofs.Common.{⊎_elim, arith}
use Rattle.std.specs.Prelude.{◌^◌, ◌⊎◌, min}
use Rattle.std.proofs.lemmas.Bool.{cases_lt}
use Rattle.collector.specs.Files.{one_more}
use Rattle.collector.specs.Nodes.{failures_after}
use Rattle.run_types.specs.declared.node_state.NodeFault.{NodeFault}
use Rattle.run_types.specs.declared.node_state.NodeFault.TheVariants.{ReadFault, WriteFault}
use Rattle.run_types.specs.declared.node_state.NodeFault.TheVariants.{CountTooLarge, NoMemory}
use Rattle.run_types.specs.declared.node_state.NodeState.{NodeState}
use Rattle.run_types.specs.declared.node_state.NodeState.TheVariants.{Running, Ended, Broken}
use Rattle.run_types.specs.declared.node_state.NodeState.TheVariants.{Failed}
use Rattle.graphs.specs.Graph.{Graph}
use Rattle.network_laws.specs.State.{State, node_state_of, IsFailed}
use Rattle.network_laws.specs.Steps.{SameState, IsStep}
use Rattle.networks.specs.Turns.{Reaches}

-- the counter has risen from one number to the other, or is at its last value
abbrev pub Rises : ℕ → ℕ → Type 0
Rises before now = (before < now) ⊎ (now ≡ 2 ^ 64 - 1)

risen : (before now last : ℕ) → (before ≤ now) ⊎ (now ≡ last)
    → (before < min (now + 1) last) ⊎ (min (now + 1) last ≡ last)
risen before now last h =
    ⊎_elim (λ (l : now + 1 < last). inl
    (⊎_elim (λ (b : before ≤ now). omega arith) (λ (e : now ≡ last). omega arith) h))
    (λ (g : last ≤ now + 1). inr (omega arith))
    (cases_lt (now + 1) last)

pub one_more_rises : (before now : ℕ) → Reaches before now → Rises before (one_more now)
one_more_rises before now h = risen before now (2 ^ 64 - 1) h

rises_reaches : (before now : ℕ) → Rises before now → Reaches before now
rises_reaches before now h = ⊎_elim (λ (l : before < now). inl (omega arith))
    (λ (e : now ≡ 2 ^ 64 - 1). inr e) h

-- a counter that goes on, or rises by one
after_cases : (P : ℕ → Type 0) (x y : NodeState) (now : ℕ) → P now → P (one_more now)
    → P (failures_after x y now)
after_cases P Running Running now same more = same
after_cases P Running Ended now same more = same
after_cases P Running Broken now same more = same
after_cases P Running (Failed ReadFault) now same more = more
after_cases P Running (Failed WriteFault) now same more = more
after_cases P Running (Failed CountTooLarge) now same more = same
after_cases P Running (Failed NoMemory) now same more = same
after_cases P Ended y now same more = same
after_cases P Broken y now same more = same
after_cases P (Failed fault) y now same more = same

pub reaches_after : (before : ℕ) (x y : NodeState) (now : ℕ) → Reaches before now
    → Reaches before (failures_after x y now)
reaches_after before x y now h = after_cases (Reaches before) x y now h
    (rises_reaches before (one_more now) (one_more_rises before now h))

pub rises_after : (before : ℕ) (x y : NodeState) (now : ℕ) → Rises before now
    → Rises before (failures_after x y now)
rises_after before x y now h = after_cases (Rises before) x y now h
    (one_more_rises before now (rises_reaches before now h))

-- a read or a write
abbrev pub IsByFile : NodeFault → Type 0
IsByFile ReadFault = Unit {0}
IsByFile WriteFault = Unit {0}
IsByFile CountTooLarge = ⊥
IsByFile NoMemory = ⊥

by_file : (fault : NodeFault) (now : ℕ) → IsByFile fault
    → failures_after Running (Failed fault) now ≡ one_more now
by_file ReadFault now h = refl
by_file WriteFault now h = refl
by_file _ now h = absurd h

not_failed : (state : NodeState) (fault : NodeFault) → IsFailed (Failed fault)
    → state ≡ Failed fault → IsFailed state
not_failed state fault f e = subst IsFailed (sym e) f

ended_runs : Ended ≡ Running → ⊥
ended_runs e = absurd (cc)

broken_runs : Broken ≡ Running → ⊥
broken_runs e = absurd (cc)

-- a step in which a node came to fail by its file
pub fails_by_file : (g : Graph) (k : ℕ) (a b : State) (failed more before : ℕ) (fault : NodeFault)
    → IsStep g k a b failed more → (IsFailed (node_state_of (a.part k)) → ⊥) → IsByFile fault
    → node_state_of (b.part k) ≡ Failed fault → Reaches before failed → Rises before more
fails_by_file g k a b failed more before fault t sound file in_state h =
    by_case (node_state_of (a.part k)) refl
  where
    stays : node_state_of (a.part k) ≢ Running → ⊥
    stays r =
        let same : SameState a b = t.halted r in
        sound (not_failed (node_state_of (a.part k)) fault tt (sym (ap node_state_of (same.parts k))
        ∙ in_state))

    by_case : (x : NodeState) → node_state_of (a.part k) ≡ x → Rises before more
    by_case Running e =
        let after : more ≡ one_more failed = t.failures
        ∙ (ap (λ (s : NodeState). failures_after s (node_state_of (b.part k)) failed) e
        ∙ (ap (λ (s : NodeState). failures_after Running s failed) in_state
        ∙ by_file fault failed file)) in
        subst (Rises before) (sym after) (one_more_rises before failed h)
    by_case Ended e = absurd (stays (λ r. ended_runs (sym e ∙ r)))
    by_case Broken e = absurd (stays (λ r. broken_runs (sym e ∙ r)))
    by_case (Failed other) e = absurd (sound (not_failed (node_state_of (a.part k)) other tt e))
