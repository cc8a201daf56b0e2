use Rattle.std.proofs.Common.{◌≡◌, ◌++◌, ◌∷◌, [], ap, sym, append-nil, ◌∙◌}
use Rattle.planner.specs.Tables.{stage_node}
use Rattle.planner.proofs.lemmas.GatherLaws.{stages_more}
use Rattle.planner.proofs.lemmas.TakeLaws.{none_taken, next_is, next_waits, next_within}
use Rattle.planner.proofs.lemmas.TakeLaws.{others_left}
use Rattle.planner.proofs.nodes.add_stages.Goals as goal

pub loop-number-init : goal.loop-number-init
loop-number-init c = record {
  left = none_taken c.args.stages.items c.in_ok-waiting.waiting.items c.in_ok-waiting.ensures;
  added = λ fifos. sym (append-nil c.args.nodes.now.items);
}

pub take_stage-stage-requires : goal.take_stage-stage-requires
take_stage-stage-requires c =
    let at = c.loop-number in
    next_waits c.args.stages.items at.waiting.items c.requires.0 c.args.order.now c.requires.1
    at.number-index c.loop-number-test.true at.invariant.left

pub loop-number-preserved : goal.loop-number-preserved
loop-number-preserved c =
    let at = c.loop-number in
    let stages = c.args.stages.items in
    let order = c.args.order.now in
    let s = c.take_stage-stage.result in
    let below = c.loop-number-test.true in
    let left = at.invariant.left in
    let planned = c.requires.1 in
    record {
      left =
          others_left stages at.waiting.items c.requires.0 order planned at.number-index below left
          c.take_stage-stage.new.waiting.items c.take_stage-stage.ensures.rest;
      added = λ fifos.
          let g = stage_node fifos c.args.pipes.now in
          let one = ap (λ node. at.nodes.items ++ node ∷ []) (c.in_ok-node.ensures fifos) in
          let adds : c.push.new.self.items ≡ at.nodes.items ++ g s ∷ [] =
          c.in_ok-push.ensures.items ∙ one in
          let within =
          next_within stages at.waiting.items c.requires.0 order planned at.number-index below left
          in
          let is =
          next_is stages at.waiting.items c.requires.0 order planned at.number-index below left
          s c.take_stage-stage.ensures.stage in
          stages_more g stages order at.number-index s c.args.nodes.now.items at.nodes.items
          c.push.new.self.items below within is (at.invariant.added fifos) adds;
    }
