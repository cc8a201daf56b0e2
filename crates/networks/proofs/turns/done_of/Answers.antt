use Rattle.std.proofs.Common.{◌≡◌, ℕ, length, ap, ◌∙◌, arith}
use Rattle.run_types.specs.declared.node_state.NodeState.{NodeState}
use Rattle.network_laws.specs.Steps.{is_done, done_below}
use Rattle.networks.specs.Networks.{state_by}
use Rattle.networks.proofs.Progress.{bit_of}
use Rattle.networks.proofs.DecisionLaws.{bit_most, byte_bit}
use Rattle.networks.proofs.lemmas.StatusLaws.{done_next}
use Rattle.networks.proofs.turns.done_of.Goals as goal

pub loop-node-preserved : goal.loop-node-preserved
loop-node-preserved g c =
    let i = c.loop-node.invariant in
    let one : c.from-done.result ≡ bit_of (is_done c.state.result) = c.from-done.ensures
    ∙ (byte_bit c.is_done.result ∙ ap bit_of c.is_done.ensures) in (
      (let m = bit_most (is_done c.state.result) in omega (arith, i.0, one, m)),
      λ pipes files.
          done_next g.M.Machine.shows files c.args.nodes.now pipes c.loop-node.node
          c.index-nodes-node.result c.loop-node.done c.from-done.result c.loop-node-test.true
          c.index-nodes-node.is (i.1 pipes files)
          (one ∙ ap (λ (s : NodeState). bit_of (is_done s)) c.state.ensures),
    )

pub returns : goal.returns
returns g c =
    λ pipes files.
    let all : c.loop-node.node ≡ length c.args.nodes.now =
    omega (arith, c.loop-node-test.false, c.loop-node.auto.node-end) in
    c.loop-node.invariant.1 pipes files
    ∙ ap (λ (k : ℕ). done_below k (state_by g.M.Machine.shows c.args.nodes.now pipes files)) all
