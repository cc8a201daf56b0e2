use Rattle.std.proofs.Common.{◌≡◌, ◌/◌, ◌%◌, ◌∙◌, ℕ, ap, arith, bit_and, bit_or, eqb, get_or}
use Rattle.std.proofs.Common.{length, map, w8}
use Rattle.std.proofs.lemmas.List.{length-map}
use Rattle.std.proofs.lemmas.Simd.{bitmask_splat, map-map, zip2_of_maps}
use Rattle.std.specs.Simd.Lanes.{mask_l, zip2}
use Rattle.tr_filter.specs.declared.nibbles.TheConstants.{EARLY, LATE}
use Rattle.tr_filter.proofs.lemmas.LaneLaws.{lane_fits}
use Rattle.tr_filter.proofs.nibbles.left_marks.Goals as goal

pub returns-clause-marks : goal.returns-clause-marks
returns-clause-marks c =
    let v = c.args.lanes in
    let ns = c.args.nibbles.now in
    let early = λ (x : ℕ). bit_and (get_or ns.early (x % 16) 0) (get_or EARLY (x / 16) 0) in
    let late = λ (x : ℕ). bit_and (get_or ns.late (x % 16) 0) (get_or LATE (x / 16) 0) in
    let all = zip2 bit_or (zip2 bit_and c.by_low.result c.by_high.result)
    (zip2 bit_and c.by_low-2.result c.by_high-2.result) in
    let is : all ≡ map (λ x. bit_or (early x) (late x)) v =
    zip2_of_maps bit_or early late v
    (zip2_of_maps bit_and (λ x. get_or ns.early (x % 16) 0)
    (λ x. get_or EARLY (x / 16) 0) v c.by_low.ensures c.by_high.ensures)
    (zip2_of_maps bit_and (λ x. get_or ns.late (x % 16) 0)
    (λ x. get_or LATE (x / 16) 0) v c.by_low-2.ensures c.by_high-2.ensures) in
    bitmask_splat w8 eqb all 16 0 (ap length is
    ∙ (length-map v (λ x. bit_or (early x) (late x)) ∙ c.fits-lanes.0)) (omega arith)
    ∙ ap mask_l (ap (map (λ x. eqb x 0)) is
    ∙ map-map (λ x. eqb x 0) (λ x. bit_or (early x) (late x)) v)

pub returns-clause-fit : goal.returns-clause-fit
returns-clause-fit c k = lane_fits c.args.lanes k c.fits-lanes.1
