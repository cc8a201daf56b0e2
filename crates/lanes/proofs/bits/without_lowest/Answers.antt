use Rattle.lanes.proofs.lemmas.BitLaws.{is_without_lowest}
use Rattle.lanes.proofs.bits.without_lowest.Goals as goal

pub returns : goal.returns
returns c = is_without_lowest c.args.mask c.requires c.ranges.mask.fits
