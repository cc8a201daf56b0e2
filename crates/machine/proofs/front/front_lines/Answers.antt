use Rattle.machine.proofs.FrontLaws.{front_all}
use Rattle.machine.proofs.front.front_lines.Goals as goal

pub returns-then-whole-n : goal.returns-then-whole-n
returns-then-whole-n c =
    front_all c.args.bytes.now c.args.n c.newlines-whole.result c.newlines-whole.ensures.value
    c.if-whole-n.true
