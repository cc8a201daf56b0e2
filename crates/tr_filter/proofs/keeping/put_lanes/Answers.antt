use Rattle.std.proofs.Common.{◌+◌, arith}
use Rattle.std.proofs.lemmas.Simd.{take_more_put_chunk}
use Rattle.tr_filter.proofs.lemmas.LaneLaws.{after_eight}
use Rattle.tr_filter.proofs.keeping.put_lanes.Goals as goal

pub returns-clause-copied : goal.returns-clause-copied
returns-clause-copied c = take_more_put_chunk c.args.to c.args.bytes.now c.args.lanes
    (c.args.to + 8) (omega (arith, c.fits-lanes.0)) c.requires.room

pub returns-clause-rest : goal.returns-clause-rest
returns-clause-rest c n past within =
    after_eight c.args.bytes.now c.args.lanes c.args.to n c.fits-lanes.0 past within
