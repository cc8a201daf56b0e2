use Rattle.std.proofs.Common.{◌≡◌, take}
use Rattle.std.specs.List.{flat_map}
use Rattle.planner.specs.inner.Ordered.{channel_of}
use Rattle.planner.proofs.order.channels.Given as goal

abbrev pub invariant-loop-end : goal.invariant-loop-end
invariant-loop-end l = l.found.items ≡ flat_map (channel_of l.fifo_count) (take l.end-index l.ends)
