use Rattle.std.proofs.Common.{◌/◌, ◌∙◌, replicate}
use Rattle.std.proofs.lemmas.Simd.{length-zip2, zip2_splat}
use Rattle.std.specs.Simd.Lanes.{zip2}
use Rattle.tr_filter.proofs.lemmas.LaneLaws.{down, swz_ok, looked_up, high_small}
use Rattle.tr_filter.proofs.nibbles.by_high.Goals as goal

pub swizzle : goal.swizzle
swizzle c =
    let v = c.args.lanes in
    swz_ok (zip2 down v (replicate 16 4)) (length-zip2 down v (replicate 16 4) c.fits-lanes.0
    ∙ c.fits-lanes.0) (high_small v c.fits-lanes.1)

pub returns : goal.returns
returns c =
    let v = c.args.lanes in
    looked_up c.args.table.now v (zip2 down v (replicate 16 4)) (λ x. x / 16) c.fits-lanes.0
    (zip2_splat down v 16 4 c.fits-lanes.0) (high_small v c.fits-lanes.1)
