use Rattle.byte_filters.proofs.lemmas.LaneLaws.{short_run, whole_run}
use Rattle.byte_filters.proofs.lane.lane_run.Goals as goal

pub returns-then-movers-eq0 : goal.returns-then-movers-eq0
returns-then-movers-eq0 c =
    whole_run c.args.bytes.now c.args.at c.mover_mask-movers.result c.requires
    c.mover_mask-movers.ensures c.if-movers-eq0.true

pub returns : goal.returns
returns c =
    short_run c.args.bytes.now c.args.at c.mover_mask-movers.result c.requires
    c.mover_mask-movers.ensures c.if-movers-eq0.false
