use Rattle.std.proofs.Common.{arith}
use Rattle.std.proofs.lemmas.Nat.Bits.{bit_at_or, bit_at-lt}
use Rattle.lanes.proofs.span.either.Goals as goal

pub returns-clause-set : goal.returns-clause-set
returns-clause-set c k h = omega (arith, h, bit_at_or c.args.a c.args.b k, bit_at-lt c.args.b k)

pub returns-clause-set_too : goal.returns-clause-set_too
returns-clause-set_too c k h = omega (arith, h, bit_at_or c.args.a c.args.b k, bit_at-lt c.args.a k)

pub returns-clause-clear : goal.returns-clause-clear
returns-clause-clear c k h l = omega (arith, h, l, bit_at_or c.args.a c.args.b k)
