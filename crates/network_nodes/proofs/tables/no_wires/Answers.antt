use Rattle.std.proofs.Common.{arith}
use Rattle.network_nodes.proofs.ShareLaws.{one_more_empty}
use Rattle.network_nodes.proofs.tables.no_wires.Goals as goal

pub loop-preserved : goal.loop-preserved
loop-preserved c = record {
  count = omega arith;
  room = omega arith;
  empty = one_more_empty c.loop.wires.items c.push_reserved.new.self.items c.new.result
      c.push_reserved.ensures.items c.new.ensures.items c.loop.invariant.empty;
}
