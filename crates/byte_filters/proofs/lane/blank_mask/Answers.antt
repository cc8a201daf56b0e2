use Rattle.std.proofs.Common.{◌≡◌, cond, drop, eqb, take, length}
use Rattle.std.specs.Int.Bits.{bit_or}
use Rattle.std.proofs.lemmas.Simd.{zip2_of_maps, zip2_splat}
use Rattle.byte_filters.proofs.lemmas.LaneLaws.{lane_long, blanks_masked}
use Rattle.byte_filters.proofs.lane.blank_mask.Goals as goal

pub returns : goal.returns
returns c =
    let bytes = c.args.bytes.now in
    let lane = take 64 (drop c.args.at bytes) in
    let long : length lane ≡ 64 = lane_long bytes c.args.at c.requires in
    blanks_masked bytes c.args.at _ c.requires
    (zip2_of_maps bit_or (λ x. cond (eqb x 32) 255 0) (λ x. cond (eqb x 9) 255 0) lane
    (zip2_splat (λ a b. cond (eqb a b) 255 0) lane 64 32 long)
    (zip2_splat (λ a b. cond (eqb a b) 255 0) lane 64 9 long))
