use Rattle.std.proofs.Common.{length, ap, sym, ◌∙◌}
use Rattle.std.proofs.lemmas.List.{length-map}
use Rattle.file_stores.specs.inner.Memory.{shown_files}
use Rattle.planner.specs.Planned.{graph_node}
use Rattle.network_tests.proofs.tests.runs.start.Goals as goal

pub invariant_of-result : goal.invariant_of-result
invariant_of-result c =
    let old = shown_files c.args.files in
    let new = shown_files c.open.new.files in
    let opens = c.in_ok-opened.ensures.opens in (
      c.in_ok-network.ensures.opened old new opens,
      ap length c.order.ensures ∙ sym ((c.in_ok-network.ensures.right old new opens).graph.count
          ∙ length-map c.in_ok-plan.plan.nodes graph_node),
    )
