use Rattle.std.proofs.Common.{arith}
use Rattle.lanes.proofs.lemmas.SameLaws.{bit_differs}
use Rattle.lanes.proofs.same.differences.Goals as goal

pub returns : goal.returns
returns c k small = bit_differs c.args.a.now c.args.b.now 64 k
    (omega arith) c.requires.a c.requires.b small
