use Rattle.std.proofs.Common.{◌^◌}
use Rattle.planner.proofs.lemmas.OrderedJoins.{channel_below}
use Rattle.planner.proofs.order.channels.Goals as goal

pub channel_number-requires : goal.channel_number-requires
channel_number-requires c = channel_below c.args.fifo_count
    (2 ^ 63) c.args.ends.now c.loop-end.end-index c.end-item.result c.in-Through.channel
    c.loop-end-test.true c.end-item.is c.in-Through.is c.requires
