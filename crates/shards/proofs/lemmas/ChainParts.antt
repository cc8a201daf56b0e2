-- A plan is a chain just if the nodes between its source and its sink are one.
use Rattle.std.proofs.Common.{◌≡◌, ℕ, suc, false, List, [], ◌∷◌, ◌++◌, length, drop, Some, ap, ◌∙◌}
use Rattle.std.proofs.Common.{sym}
use Rattle.commands.specs.declared.spec.FilterSpec.{FilterSpec}
use Rattle.planner.specs.Planned.{Planned}
use Rattle.planner.specs.declared.plan.Node.{Node}
use Rattle.planner.specs.declared.plan.Node.TheVariants.{Source, Sink}
use Rattle.run_types.specs.declared.names.InName.{InName}
use Rattle.run_types.specs.declared.names.OutName.{OutName}
use Rattle.shards.specs.Chains.{IsChain, chained, filters_of, joints}
use Rattle.shards.specs.inner.Links.{HasEnds, IsChained}
use Rattle.shards.proofs.lemmas.ChainLists.{chained_length, filters_chained, same_front}

pub chain_between : (plan : Planned) (nodes : List Node) (from : InName) (between : List Node)
    (to : OutName) → nodes ≡ plan.nodes
    → HasEnds nodes from between to → IsChained plan between
    → IsChain plan from (filters_of between) to
chain_between plan nodes from between to same ends k =
    let count : length between ≡ length (filters_of between) = ap length k.stages
    ∙ chained_length 0 (filters_of between) in
    record {
      nodes = sym same
          ∙ (ends ∙ ap (λ (ns : List Node). Source (Some from) ∷ (ns ++ Sink to ∷ [])) k.stages);
      pipes = k.pipes ∙ ap (λ (n : ℕ). joints 0 (suc n)) count;
      inputs = k.inputs;
      outputs = k.outputs;
      result = k.result ∙ ap (λ (n : ℕ). (n, false)) count;
    }

pub between_of_chain : (plan : Planned) (nodes : List Node) (from : InName) (between : List Node)
    (to : OutName) → nodes ≡ plan.nodes
    → HasEnds nodes from between to → (first : InName) (fs : List FilterSpec) (last : OutName)
    → IsChain plan first fs last → IsChained plan between
between_of_chain plan nodes from between to same ends first fs last c =
    let whole : Source (Some from) ∷ (between ++ Sink to ∷ [])
    ≡ Source (Some first) ∷ (chained 0 fs ++ Sink last ∷ []) = sym ends ∙ (same ∙ c.nodes) in
    let alike : between ≡ chained 0 fs = same_front between (chained 0 fs) (Sink to) (Sink last)
    (ap (drop 1) whole) in
    let filters : filters_of between ≡ fs = ap filters_of alike ∙ filters_chained 0 fs in
    let count : length fs ≡ length between = sym (ap length alike ∙ chained_length 0 fs) in
    record {
      stages = alike ∙ ap (chained 0) (sym filters);
      pipes = c.pipes ∙ ap (λ (n : ℕ). joints 0 (suc n)) count;
      inputs = c.inputs;
      outputs = c.outputs;
      result = c.result ∙ ap (λ (n : ℕ). (n, false)) count;
    }
