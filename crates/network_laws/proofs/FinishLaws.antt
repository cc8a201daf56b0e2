-- What the outcomes rest on.
use Rattle.std.proofs.Common.{◌≡◌, ℕ, ◌+◌, ◌<◌, Bool, true, false, List, [], ◌∷◌, length, map}
use Rattle.std.proofs.Common.{Option, Some, None, refl, sym, ap, ◌∙◌, subst}
use Rattle.std.specs.Prelude.{if◌then◌else◌}
use Rattle.machine.specs.Whole.{inputs_from, is_some_missing, status_of, WholeAnswer}
use Rattle.bounded_pipe.specs.Ends.{Reading}
use Rattle.graphs.specs.Graph.{Stage, Sink, writer, IsNode, Reads, present}
use Rattle.network_laws.specs.Sequential.{is_missing, status_at}
use Rattle.collector.specs.Sources.{SinkPart, SinkCase}
use Rattle.stages.specs.Stages.{StageCase, IsCountTooLarge}
use Rattle.network_laws.specs.State.{Part, Setup, State, NodeCase, node_state_of, IsDone}
use Rattle.network_laws.specs.State.{presence_of, told, answer_of, CaseOfStage, CaseOfSink}
use Rattle.network_laws.specs.Outcome.{IsCountTooLargeAt}
use Rattle.network_laws.specs.Laws.{LawfulOutputsBegin, DoneOutputsAre, StatusIsFixed}
use Rattle.network_laws.specs.Laws.{CountFaultIsTrue}
use Rattle.run_types.specs.declared.node_state.NodeFault.TheVariants as node
use Rattle.run_types.specs.declared.node_state.NodeState.{NodeState}
use Rattle.run_types.specs.declared.node_state.NodeState.TheVariants.{Ended, Broken, Failed}
use Rattle.network_laws.proofs.lemmas.DeterminacyLaws.{outputs_determined, same_inputs}

pub outputs_begin : LawfulOutputsBegin
outputs_begin s st run plan lawful reads writes contents agree k p e r =
    (outputs_determined s st run contents plan lawful reads writes agree k p e r).0

-- a sink that is done has ended
sink_ended : (x : SinkPart) (r : Reading) (state : NodeState) → SinkCase x state r → IsDone state
    → state ≡ Ended
sink_ended x r Ended c d = refl
sink_ended x r Broken c d = absurd c
sink_ended x r _ c d = absurd d

part_ended : (s : Setup) (st : State) (k p : ℕ) → Reads s.graph k p → (part : Part)
    → NodeCase s st k (Some Sink) part → IsDone (node_state_of part) → node_state_of part ≡ Ended
part_ended s st k p r _ (CaseOfSink {x} c) d = sink_ended x (st.reading p) x.state (c p r) d

pub done_outputs : DoneOutputsAre
done_outputs s st run contents plan lawful reads writes agree done k p e r =
    let is : IsNode s.graph k = subst (λ j. j < length s.graph.nodes) r.1 (plan.within p r.0) in
    let end = part_ended s st k p r (st.part k)
    (subst (λ o. NodeCase s st k o (st.part k)) e (lawful.nodes k)) (done k is) in
    (outputs_determined s st run contents plan lawful reads writes agree k p e r).1 end

-- which inputs are missing does not depend on what is on the others
pub missing_by_pipe : (missing : ℕ → Bool) (list : ℕ → List ℕ) (i : ℕ) (inputs : List ℕ) (ys : ℕ
    → List ℕ) →
    is_some_missing (map (λ p. if missing p then None else Some (list p)) inputs)
    ≡ is_some_missing (inputs_from i (map (λ p. presence_of (missing p)) inputs) ys)
missing_by_pipe missing list i [] ys = refl
missing_by_pipe missing list i (q ∷ inputs) ys =
    by_case (missing q) (missing_by_pipe missing list (i + 1) inputs ys)
  where
    by_case : (m : Bool)
        → is_some_missing (map (λ p. if missing p then None else Some (list p)) inputs)
        ≡ is_some_missing (inputs_from (i + 1) (map (λ p. presence_of (missing p)) inputs) ys) →
        is_some_missing ((if m then None else Some (list q)) ∷ map
        (λ p. if missing p then None else Some (list p)) inputs)
        ≡ is_some_missing
        (inputs_from i (presence_of m ∷ map (λ p. presence_of (missing p)) inputs) ys)
    by_case true ih = refl
    by_case false ih = ih

pub status_fixed : StatusIsFixed
status_fixed s run contents agree k filter inputs branches held ys e =
    ap (status_at s.graph contents held) e
    ∙ ap status_of (same_inputs s run contents agree held inputs)
    ∙ ap (λ (b : Bool). if b then 1 else 0)
    (missing_by_pipe (λ p. is_missing s.graph s.missing (writer s.graph p)) held 0 inputs ys)

-- the stage that failed for a count
count_case : (s : Setup) (st : State) (k : ℕ) (filter : WholeAnswer) (inputs : List ℕ)
    (branches : List (Option ℕ)) (part : Part) →
    NodeCase s st k (Some (Stage filter inputs branches)) part
    → node_state_of part ≡ Failed node.CountTooLarge
    → IsCountTooLarge (answer_of filter (told s inputs)) (map st.reading inputs)
count_case s st k filter inputs branches _ (CaseOfStage {x = x} c) e =
    let f = subst (λ d. StageCase s.block (answer_of filter (told s inputs)) x d
    (map st.reading inputs) (map st.writing (present branches))) e c in
    f.count refl

pub count_fault : CountFaultIsTrue
count_fault s st run lawful reads k filter inputs branches e f =
    let c = count_case s st k filter inputs branches (st.part k)
    (subst (λ o. NodeCase s st k o (st.part k)) e (lawful.nodes k)) f in
    (st, lawful, reads, subst (λ o. IsCountTooLargeAt s st o) (sym e) c)
