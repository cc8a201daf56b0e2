use Rattle.std.proofs.Common.{arith}
use Rattle.std.proofs.lemmas.Grind.{common_steps}
use Rattle.lending.proofs.lemmas.TakeLaws.{front_stage, taken_more}
use Rattle.lending.proofs.lent.take_all.Goals as goal

pub take_out-requires : goal.take_out-requires
take_out-requires g c =
    record {
      stage = front_stage c.loop-k.nodes c.args.wanted.now c.loop-k.k c.loop-k-test.true
          c.loop-k.invariant.taken.left;
    }

pub loop-k-preserved : goal.loop-k-preserved
loop-k-preserved g c =
    let i = c.loop-k.invariant in
    record {
      taken = taken_more c.args.wanted.now c.loop-k.places.items c.push_reserved.new.self.items
          c.loop-k.k c.loop-k.stages.items c.push_reserved-in-loop-k.new.self.items c.args.nodes.now
          c.loop-k.nodes c.take_out.new.nodes c.take_out.result c.loop-k-test.true i.taken
          c.take_out.ensures.stage c.take_out.ensures.nodes c.push_reserved.ensures.items
          c.push_reserved-in-loop-k.ensures.items;
      room = grind (arith, common_steps, i.room, c.push_reserved.ensures.capacity);
      more = grind (arith, common_steps, i.more, c.push_reserved-in-loop-k.ensures.capacity);
    }
