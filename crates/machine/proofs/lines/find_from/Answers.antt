use Rattle.machine.proofs.PlaceLaws.{first_from}
use Rattle.machine.proofs.lines.find_from.Goals as goal

pub returns-in-Some : goal.returns-in-Some
returns-in-Some c = first_from c.args.bytes.now c.args.byte c.args.at c.in-Some.k c.requires
    c.in-Some.ensures.0 c.in-Some.ensures.1
