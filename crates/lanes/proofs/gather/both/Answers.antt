use Rattle.std.proofs.Common.{arith}
use Rattle.std.proofs.lemmas.Nat.Bits.{bit_at_and, bit_at-lt}
use Rattle.lanes.proofs.gather.both.Goals as goal

pub returns-clause-set : goal.returns-clause-set
returns-clause-set c k h = omega (arith, h, bit_at_and c.args.a c.args.b k, bit_at-lt c.args.b k)

pub returns-clause-clear : goal.returns-clause-clear
returns-clause-clear c k h = omega (arith, h, bit_at_and c.args.a c.args.b k)
