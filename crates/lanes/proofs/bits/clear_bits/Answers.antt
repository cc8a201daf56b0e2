use Rattle.lanes.proofs.lemmas.BitLaws.{clear_below}
use Rattle.lanes.proofs.bits.clear_bits.Goals as goal

pub returns-clause-clear : goal.returns-clause-clear
returns-clause-clear c k low = clear_below c.args.mask k c.ranges.mask.fits low
