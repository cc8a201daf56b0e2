use Rattle.lanes.proofs.lemmas.BitLaws.{bit_at_shr}
use Rattle.lanes.proofs.bits.from_bit.Goals as goal

pub returns : goal.returns
returns c k = bit_at_shr c.args.mask c.args.bit k
