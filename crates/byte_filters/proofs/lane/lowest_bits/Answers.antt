use Rattle.byte_filters.proofs.lemmas.LaneLaws.{low_bit, high_bit}
use Rattle.byte_filters.proofs.lane.lowest_bits.Goals as goal

pub returns-clause-low : goal.returns-clause-low
returns-clause-low c k h = low_bit c.args.mask c.args.count k c.requires.1 h

pub returns-clause-high : goal.returns-clause-high
returns-clause-high c k h = high_bit c.args.mask c.args.count k c.requires.1 h
