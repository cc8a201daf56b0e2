use Rattle.std.proofs.Common.{◌≡◌, cond, drop, eqb, leb, take, length, arith}
use Rattle.std.specs.Int.Bits.{bit_and, bit_or}
use Rattle.std.proofs.lemmas.List.{length-take, length-drop}
use Rattle.std.proofs.lemmas.Simd.{zip2_of_maps, zip2_splat, zip2_splat_left}
use Rattle.byte_filters.proofs.lemmas.StartLaws.{spaces_masked}
use Rattle.byte_filters.proofs.starts.space_mask.Goals as goal

pub returns : goal.returns
returns c =
    let bytes = c.args.bytes.now in
    let chunk = take 64 (drop c.args.at bytes) in
    let long : length chunk ≡ 64 =
    omega (
      arith,
      c.requires,
      length-take 64 (drop c.args.at bytes),
      length-drop c.args.at bytes,
    ) in
    spaces_masked bytes c.args.at _ c.requires
    (zip2_of_maps bit_or (λ x. bit_and (cond (leb 9 x) 255 0) (cond (leb x 13) 255 0))
    (λ x. cond (eqb x 32) 255 0) chunk
    (zip2_of_maps bit_and (λ x. cond (leb 9 x) 255 0) (λ x. cond (leb x 13) 255 0) chunk
    (zip2_splat_left (λ a b. cond (leb a b) 255 0) 9 64 chunk long)
    (zip2_splat (λ a b. cond (leb a b) 255 0) chunk 64 13 long))
    (zip2_splat (λ a b. cond (eqb a b) 255 0) chunk 64 32 long))
