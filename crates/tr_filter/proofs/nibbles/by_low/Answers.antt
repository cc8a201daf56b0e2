use Rattle.std.proofs.Common.{◌%◌, ◌∙◌, bit_and, replicate}
use Rattle.std.proofs.lemmas.Simd.{length-zip2}
use Rattle.std.specs.Simd.Lanes.{zip2}
use Rattle.tr_filter.proofs.lemmas.LaneLaws.{swz_ok, looked_up, low_small, lows}
use Rattle.tr_filter.proofs.nibbles.by_low.Goals as goal

pub swizzle : goal.swizzle
swizzle c =
    let v = c.args.lanes in
    swz_ok (zip2 bit_and v (replicate 16 15))
    (length-zip2 bit_and v (replicate 16 15) c.fits-lanes.0
    ∙ c.fits-lanes.0) (low_small v c.fits-lanes.0)

pub returns : goal.returns
returns c =
    let v = c.args.lanes in
    looked_up c.args.table.now v (zip2 bit_and v (replicate 16 15)) (λ x. x % 16) c.fits-lanes.0
    (lows v c.fits-lanes.0) (low_small v c.fits-lanes.0)
