use Rattle.std.proofs.Common.{◌≡◌, ℕ, List, ◌++◌, map, take}
use Rattle.std.specs.List.{flat_map}
use Rattle.planner.specs.Tables.{stage_node, stage_at}
use Rattle.planner.proofs.lemmas.TakeLaws.{AreLeft}
use Rattle.planner.proofs.nodes.add_stages.Given as goal

abbrev pub invariant-loop-number : goal.invariant-loop-number
invariant-loop-number l =
    let taken = take l.number-index l.order in
    record {
      left : AreLeft l.fn.stages.items l.waiting.items taken;
      added : (fifos : List (List ℕ))
          → l.nodes.items
          ≡ l.initial.nodes.items
          ++ map (stage_node fifos l.pipes) (flat_map (stage_at l.fn.stages.items) taken);
    }
