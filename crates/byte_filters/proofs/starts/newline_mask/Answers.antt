use Rattle.std.proofs.Common.{drop, take, eqb, arith, w8}
use Rattle.std.proofs.lemmas.List.{length-take, length-drop}
use Rattle.std.proofs.lemmas.Simd.{bitmask_splat}
use Rattle.byte_filters.proofs.starts.newline_mask.Goals as goal

pub returns : goal.returns
returns c =
    let bytes = c.args.bytes.now in
    let chunk = take 64 (drop c.args.at bytes) in
    bitmask_splat w8 eqb chunk 64 10
    (omega (
      arith,
      c.requires,
      length-take 64 (drop c.args.at bytes),
      length-drop c.args.at bytes,
    )) (omega arith)
