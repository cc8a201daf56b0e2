use Rattle.std.proofs.Common.{◌≡◌, ◌*◌, ◌∙◌, ℕ, List, ap, length, subst, sym, take, w8}
use Rattle.std.proofs.lemmas.Simd.{length-swz_l, swz_l, SwzOk}
use Rattle.std.specs.Int.RustNames.{count_ones}
use Rattle.std.specs.Simd.Lanes.{chunk}
use Rattle.tr_filter.specs.declared.places.TheConstants.{PLACES}
use Rattle.tr_filter.proofs.lemmas.LaneLaws.{first_eight, front_is, row_long, row_small, swz_ok}
use Rattle.tr_filter.proofs.keeping.front.Goals as goal

pub swizzle : goal.swizzle
swizzle c =
    let m = c.args.marks in
    subst (SwzOk w8 16 16 0) (sym c.places.ensures)
    (swz_ok (chunk (8 * m) 16 PLACES) (row_long m c.requires) (row_small m))

pub returns : goal.returns
returns c p is =
    let m = c.args.marks in
    let lanes = c.args.lanes in
    let found = swz_l w8 16 lanes 0 c.places.result in
    let long : length found ≡ 16 = length-swz_l w8 16 lanes 0 c.places.result
    ∙ (ap length c.places.ensures ∙ row_long m c.requires) in
    ap (take (count_ones m)) (first_eight found long)
    ∙ (ap (λ (js : List ℕ). take (count_ones m) (take 8 (swz_l w8 16 lanes 0 js))) c.places.ensures
    ∙ front_is p lanes m c.fits-lanes.0 c.requires is)
