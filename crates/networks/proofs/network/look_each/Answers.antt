use Rattle.std.proofs.Common.{arith}
use Rattle.networks.proofs.LoopLaws.{ends_at, looked_more}
use Rattle.networks.proofs.network.look_each.Goals as goal

pub bounds-pipes-pipe : goal.bounds-pipes-pipe
bounds-pipes-pipe g c = c.requires.within c.loop-pipe.pipe-index c.loop-pipe-test.true

pub look_at-requires : goal.look_at-requires
look_at-requires g c =
    ends_at c.args.pipes.now c.args.wires.now c.args.nodes.now c.loop-pipe.nodes c.requires.wired
    c.requires.ends c.requires.within c.loop-pipe.invariant.sees c.loop-pipe.pipe-index
    c.loop-pipe-test.true _

pub loop-pipe-preserved : goal.loop-pipe-preserved
loop-pipe-preserved g c =
    looked_more c.args.pipes.now c.args.wires.now c.args.nodes.now c.loop-pipe.nodes
    c.requires.wired c.requires.ends c.requires.within c.loop-pipe.invariant.sees
    c.loop-pipe.pipe-index c.loop-pipe-test.true _ c.loop-pipe.invariant.each
    c.look_at.new.nodes c.look_at.ensures

pub returns : goal.returns
returns g c = record {
  sees = c.loop-pipe.invariant.sees;
  each = λ i lt. c.loop-pipe.invariant.each i (omega (arith, lt, c.loop-pipe-test.false));
}
