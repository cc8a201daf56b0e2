use Rattle.std.proofs.Common.{ap, subst, ◌∙◌, sym}
use Rattle.collector.specs.Nodes.{is_failed}
use Rattle.networks.specs.declared.faults.FileFaults.{FileFaults}
use Rattle.networks.specs.Turns.{AreFaultsOf}
use Rattle.networks.proofs.FaultLaws.{fault_at_node}
use Rattle.networks.proofs.lemmas.StatusLaws.{sound_next, fault_here}
use Rattle.networks.proofs.turns.fault_of.Goals as goal

pub loop-node-preserved : goal.loop-node-preserved
loop-node-preserved g c = (
  c.loop-node.invariant.0,
  sound_next c.args.nodes.now c.loop-node.node c.index-nodes-node.result c.loop-node-test.true
      c.index-nodes-node.is (ap is_failed (sym c.state.ensures)
      ∙ (sym c.is_failed.ensures ∙ c.if-is_failed.false)) c.loop-node.invariant.1,
)

pub take-requires-clause-failed : goal.take-requires-clause-failed
take-requires-clause-failed g c = ap is_failed (sym c.state.ensures)
    ∙ (sym c.is_failed.ensures ∙ c.if-is_failed.true)

pub take-requires-clause-file : goal.take-requires-clause-file
take-requires-clause-file g c =
    fault_at_node c.args.nodes.now c.loop-node.faults
    (subst (λ (f : FileFaults). AreFaultsOf c.args.nodes.now f)
    (sym c.loop-node.invariant.0) c.requires) c.loop-node.node c.index-nodes-node.result
    c.loop-node-test.true c.index-nodes-node.is

pub returns-then-is_failed-clause-some : goal.returns-then-is_failed-clause-some
returns-then-is_failed-clause-some g c =
    fault_here c.args.nodes.now c.loop-node.node c.index-nodes-node.result c.take.result
    c.loop-node-test.true c.index-nodes-node.is (ap is_failed (sym c.state.ensures)
    ∙ (sym c.is_failed.ensures ∙ c.if-is_failed.true)) c.take.ensures
