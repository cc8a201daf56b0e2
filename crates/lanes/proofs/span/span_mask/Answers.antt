use Rattle.std.proofs.Common.{◌∙◌, ◌+◌, ◌%◌, ◌≡◌, length, drop, take, leb, map, ap, sym, replicate}
use Rattle.std.proofs.Common.{arith, w8}
use Rattle.std.proofs.lemmas.List.{length-take, length-drop}
use Rattle.std.proofs.lemmas.Simd.{bitmask_splat, zip2_splat, length-zip2, length-replicate}
use Rattle.std.proofs.lemmas.Simd.{map-map}
use Rattle.std.specs.Simd.Lanes.{mask_l, zip2}
use Rattle.lanes.proofs.span.span_mask.Goals as goal

pub returns : goal.returns
returns c =
    let bytes = c.args.bytes.now in
    let chunk = take 64 (drop c.args.at bytes) in
    let by = c.args.span.by in
    let width = c.args.span.width in
    let long : length chunk ≡ 64 =
    omega (
      arith,
      c.requires,
      length-take 64 (drop c.args.at bytes),
      length-drop c.args.at bytes,
    ) in
    bitmask_splat w8 leb (zip2 (λ a b. (a + b) % 256) chunk (replicate 64 by)) 64 width
    (length-zip2 (λ a b. (a + b) % 256) chunk (replicate 64 by) (long
    ∙ sym (length-replicate 64 by)) ∙ long) (omega arith)
    ∙ ap mask_l (ap (map (λ x. leb x width)) (zip2_splat (λ a b. (a + b) % 256) chunk 64 by long)
    ∙ map-map (λ x. leb x width) (λ a. (a + by) % 256) chunk)
