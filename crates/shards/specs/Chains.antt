-- Plans that are chains: a source, stages one after another, and a sink.
--
-- The commands of a pipeline are joined by pipes, the standard output of each to the standard input
-- of the next (POSIX.1-2017 XCU 2.9.2).
use Rattle.std.specs.Prelude.{◌≡◌, ℕ, zero, suc, ◌-◌, false, List, [], ◌∷◌, ◌++◌, length, Some}
use Rattle.commands.specs.declared.spec.FilterSpec.{FilterSpec}
use Rattle.network_laws.specs.Sequential.{answer, answer_status}
use Rattle.planner.specs.Planned.{Planned, graph_of}
use Rattle.planner.specs.declared.plan.Node.{Node}
use Rattle.planner.specs.declared.plan.Node.TheVariants.{Source, Stage, Sink}
use Rattle.run_types.specs.declared.names.InName.{InName}
use Rattle.run_types.specs.declared.names.OutName.{OutName}

-- the stages of these filters after this many others: each reads the pipe of the node before it and
-- writes one pipe to the next
abbrev pub chained : ℕ → List FilterSpec → List Node
chained before [] = []
chained before (f ∷ fs) =
    Stage (suc before) f (before ∷ []) (Some (suc before) ∷ []) ∷ chained (suc before) fs

-- the filters of nodes that are stages
abbrev pub filters_of : List Node → List FilterSpec
filters_of [] = []
filters_of (Stage number f inputs branches ∷ nodes) = f ∷ filters_of nodes
filters_of (Source name ∷ nodes) = filters_of nodes
filters_of (Sink name ∷ nodes) = filters_of nodes

-- these many pipes, each from a node to the next, the first one from this node
abbrev pub joints : ℕ → ℕ → List (ℕ × ℕ)
joints node zero = []
joints node (suc count) = (node, suc node) ∷ joints (suc node) count

-- A plan is the chain of these filters: it reads this input alone, and writes this output alone.
-- Its exit status is that of the last filter, without `!`.
pub record IsChain (plan : Planned) (from : InName) (fs : List FilterSpec) (to : OutName) : Type 0
  where
    pub nodes : plan.nodes ≡ Source (Some from) ∷ (chained 0 fs ++ Sink to ∷ [])
    pub pipes : plan.pipes ≡ joints 0 (suc (length fs))
    pub inputs : length plan.inputs ≡ 1
    pub outputs : length plan.outputs ≡ 1
    pub result : plan.result ≡ (length fs, false)

-- what the last pipe of a plan carries in its sequential answer, if each source holds these bytes
abbrev pub output_for : Planned → List ℕ → List ℕ
output_for plan x = answer (graph_of plan) (λ source. Some x) (length plan.pipes - 1)

-- the exit status of the sequential answer to the same
abbrev pub status_for : Planned → List ℕ → ℕ
status_for plan x = answer_status (graph_of plan) (λ source. Some x)
