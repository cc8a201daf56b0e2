use Rattle.std.proofs.Common.{◌≤◌, List, subst, arith, false}
use Rattle.std.specs.List.{All}
use Rattle.std.proofs.lemmas.List.{take_all}
use Rattle.network_laws.specs.declared.outcome.Waiting.{Waiting}
use Rattle.step_scheduler.proofs.lemmas.Lowest.{lowest_more}
use Rattle.step_scheduler.proofs.circles.lowest.Goals as goal

pub loop-wait-preserved : goal.loop-wait-preserved
loop-wait-preserved c =
    let d : Waiting = record { node = 0; pipe = 0; full = false } in
    lowest_more c.args.waits.now c.loop-wait.wait-index d c.loop-wait.low c.min-low.result
    c.loop-wait-test.true c.min-low.ensures c.loop-wait.invariant

pub returns : goal.returns
returns c =
    let low = c.loop-wait.low in
    let each = λ (ws : List Waiting). All (λ w. low ≤ w.node) ws in
    record {
      named = c.loop-wait.invariant.named;
      lowest = subst each (take_all c.loop-wait.wait-index c.args.waits.now (omega arith))
          c.loop-wait.invariant.lowest;
    }
