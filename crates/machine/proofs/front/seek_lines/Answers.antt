use Rattle.machine.proofs.FrontLaws.{fronted_more, fronted_open, fronted_all}
use Rattle.machine.proofs.front.seek_lines.Goals as goal

pub loop-left-preserved : goal.loop-left-preserved
loop-left-preserved c =
    let l = c.loop-left in
    fronted_more c.args.bytes.now c.args.n l.at l.left c.in-Some.end l.invariant c.in-Some.ensures
    c.loop-left-test.true

pub returns-in-None : goal.returns-in-None
returns-in-None c =
    let l = c.loop-left in
    fronted_open c.args.bytes.now c.args.n l.at l.left l.invariant c.in-None.ensures
    c.loop-left-test.true

pub returns : goal.returns
returns c =
    let l = c.loop-left in
    fronted_all c.args.bytes.now c.args.n l.at l.left l.invariant c.loop-left-test.false
