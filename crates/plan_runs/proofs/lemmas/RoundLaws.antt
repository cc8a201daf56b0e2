-- How many rounds are enough for a run of a plan.
use Rattle.std.proofs.Common.{◌≡◌, ℕ, zero, suc, ◌+◌, ◌*◌, ◌<◌, ◌≤◌, List, Option, Some, None}
use Rattle.std.proofs.Common.{length, map, sym, ap, ◌∙◌, subst, arith}
use Rattle.std.specs.Prelude.{IfSome}
use Rattle.std.proofs.lemmas.List.{length-map}
use Rattle.network_laws.specs.Bounds.{most_events_below}
use Rattle.network_laws.specs.Sequential.{Contents, answer}
use Rattle.planner.specs.Planned.{Planned, graph_node, graph_of}
use Rattle.planner.specs.declared.plan.Node.{Node}
use Rattle.plan_runs.specs.Rounds.{CarriesAtMost, plan_rounds, rounds_for}

module _
    (plan : Planned) (contents : Contents) (bytes : ℕ)
    (few : CarriesAtMost plan contents bytes) where
  -- each of the pipes below a number has the events of a pipe with this many bytes at most
  events_few : (n : ℕ) → n ≤ length plan.pipes
      → most_events_below n (graph_of plan) contents ≤ n * (2 * bytes + 4)
  events_few zero le = omega arith
  events_few (suc n) le =
      let rest : most_events_below n (graph_of plan) contents ≤ n * (2 * bytes + 4) =
      events_few n (omega (arith, le)) in
      let here : length (answer (graph_of plan) contents n) ≤ bytes = few n (omega (arith, le)) in
      omega (arith, rest, here)

  -- so the rounds for this many bytes are more than the run can have
  pub rounds_enough : plan_rounds plan contents < rounds_for plan bytes
  rounds_enough =
      let pipes = length plan.pipes in
      let events : most_events_below pipes (graph_of plan) contents ≤ pipes * (2 * bytes + 4) =
      events_few pipes (omega arith) in
      let nodes : length (map graph_node plan.nodes) ≡ length plan.nodes =
      length-map plan.nodes graph_node in
      omega (arith, events, nodes)

-- and so a number that is the rounds for this many bytes is enough
pub number_enough : (plan : Planned) (bytes : ℕ) (pipes : List (ℕ × ℕ)) (nodes : List Node)
    (number : Option ℕ) → pipes ≡ plan.pipes → nodes ≡ plan.nodes
    → IfSome number (λ rounds. rounds ≡ length pipes * (2 * bytes + 16) + length nodes + 1)
    → IfSome number (λ rounds. (contents : Contents) → CarriesAtMost plan contents bytes
    → plan_rounds plan contents < rounds)
number_enough plan bytes pipes nodes None of_pipes of_nodes is = tt
number_enough plan bytes pipes nodes (Some rounds) of_pipes of_nodes is = λ contents few.
    let same : rounds ≡ rounds_for plan bytes =
    is ∙ ap (λ (ps : List (ℕ × ℕ)). length ps * (2 * bytes + 16) + length nodes + 1) of_pipes
    ∙ ap (λ (ns : List Node). length plan.pipes * (2 * bytes + 16) + length ns + 1) of_nodes in
    subst (λ (n : ℕ). plan_rounds plan contents < n) (sym same)
    (rounds_enough plan contents bytes few)
