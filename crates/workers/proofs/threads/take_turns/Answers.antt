use Rattle.lending.proofs.GoingOn.{group_refl, group_trans}
use Rattle.workers.proofs.threads.take_turns.Goals as goal

pub loop-turn-init : goal.loop-turn-init
loop-turn-init g c = group_refl g.M.Machine.shows c.args.group.now

pub loop-turn-preserved : goal.loop-turn-preserved
loop-turn-preserved g c =
    group_trans g.M.Machine.shows c.args.group.now c.loop-turn.group c.turn-moved.new.self
    c.loop-turn.invariant c.turn-moved.ensures.goes_on

pub returns-then-not-goes_on : goal.returns-then-not-goes_on
returns-then-not-goes_on g c =
    group_trans g.M.Machine.shows c.args.group.now c.loop-turn.group c.turn-moved.new.self
    c.loop-turn.invariant c.turn-moved.ensures.goes_on
