use Rattle.std.proofs.Common.{◌<◌, ℕ, List, length, get_or, Some, subst, sym, ◌∙◌, arith, false}
use Rattle.std.proofs.lemmas.List.{length-map, length-set, take_all}
use Rattle.graphs.specs.Graph.{IsPipe}
use Rattle.network_laws.specs.declared.outcome.Waiting.{Waiting}
use Rattle.planner.specs.Planned.{graph_node, graph_of}
use Rattle.step_scheduler.specs.inner.Follows.{Follows}
use Rattle.step_scheduler.proofs.lemmas.FollowLaws.{follows_more, waits_apart}
use Rattle.step_scheduler.proofs.circles.followed.Goals as goal

pub loop-wait-preserved : goal.loop-wait-preserved
loop-wait-preserved c =
    let plan = c.args.plan.now in
    let waits = c.args.waits.now in
    let i = c.loop-wait.wait-index in
    let next = c.loop-wait.next.items in
    let d : Waiting = record { node = 0; pipe = 0; full = false } in
    let l = c.loop-wait-test.true in
    let node = c.requires.nodes i d l in
    let count = length-map plan.nodes graph_node in
    let inside : (get_or waits i d).node < length next =
    omega (arith, node, count, c.loop-wait.invariant.count) in
    record {
      count = length-set next (get_or waits i d).node (Some c.other_end.result)
          ∙ c.loop-wait.invariant.count;
      follows = follows_more (graph_of plan) waits i d next c.other_end.result l c.requires.once
          inside (c.other_end.ensures (graph_of plan) (sym c.pipes-pipes.ensures.value))
          c.loop-wait.invariant.follows;
    }

pub returns-clause-table : goal.returns-clause-table
returns-clause-table c =
    let plan = c.args.plan.now in
    let now = λ (ws : List Waiting). Follows (graph_of plan) ws c.loop-wait.next.items in
    subst now (take_all c.loop-wait.wait-index c.args.waits.now (omega arith))
    c.loop-wait.invariant.follows

pub returns-clause-others : goal.returns-clause-others
returns-clause-others c k e =
    let plan = c.args.plan.now in
    let waits = c.args.waits.now in
    let next = c.loop-wait.next.items in
    let now = λ (ws : List Waiting). Follows (graph_of plan) ws next in
    let follows = subst now (take_all c.loop-wait.wait-index waits (omega arith))
    c.loop-wait.invariant.follows in
    let up = λ (p : ℕ) (is : IsPipe (graph_of plan) p).
    (c.pipes-pipes.ensures.forward p (0, 0) is).0 in
    waits_apart (graph_of plan) waits next follows up c.requires k ((follows k k).0 e)
