use Rattle.std.proofs.Common.{arith}
use Rattle.tr_filter.proofs.lemmas.LaneLaws.{eight_put}
use Rattle.tr_filter.proofs.keeping.put_eight.Goals as goal

pub returns-clause-put : goal.returns-clause-put
returns-clause-put c p is =
    eight_put p c.args.lanes c.front.result c.args.bytes.now c.put_lanes.new.bytes c.args.marks
    c.args.to c.fits-lanes.0 (omega (arith, c.requires.room)) is
    (c.front.ensures p is) c.put_lanes.ensures.copied
