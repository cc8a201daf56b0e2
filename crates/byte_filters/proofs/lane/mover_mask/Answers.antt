use Rattle.std.proofs.Common.{◌≡◌, cond, drop, eqb, leb, take, length}
use Rattle.std.specs.Int.Bits.{bit_and, bit_or}
use Rattle.std.proofs.lemmas.Simd.{zip2_of_maps, zip2_splat, zip2_splat_left}
use Rattle.byte_filters.proofs.lemmas.LaneLaws.{lane_long, movers_masked}
use Rattle.byte_filters.proofs.lane.mover_mask.Goals as goal

pub returns : goal.returns
returns c =
    let bytes = c.args.bytes.now in
    let lane = take 64 (drop c.args.at bytes) in
    let long : length lane ≡ 64 = lane_long bytes c.args.at c.requires in
    movers_masked bytes c.args.at _ c.requires
    (zip2_of_maps bit_or (λ x. bit_and (cond (leb 8 x) 255 0) (cond (leb x 10) 255 0))
    (λ x. cond (eqb x 13) 255 0) lane
    (zip2_of_maps bit_and (λ x. cond (leb 8 x) 255 0) (λ x. cond (leb x 10) 255 0) lane
    (zip2_splat_left (λ a b. cond (leb a b) 255 0) 8 64 lane long)
    (zip2_splat (λ a b. cond (leb a b) 255 0) lane 64 10 long))
    (zip2_splat (λ a b. cond (eqb a b) 255 0) lane 64 13 long))
