use Rattle.std.proofs.Common.{◌≡◌, length, take, leb, arith, w8}
use Rattle.std.proofs.lemmas.List.{length-take}
use Rattle.std.proofs.lemmas.Simd.{bitmask_splat}
use Rattle.lanes.proofs.lemmas.RunLaws.{short_run, whole_run}
use Rattle.lanes.proofs.runs.run_above.Goals as goal

pub returns-then-low-eq0 : goal.returns-then-low-eq0
returns-then-low-eq0 c =
    let chunk = take 64 c.args.bytes.now in
    let long : length chunk ≡ 64 = omega (arith, c.requires, length-take 64 c.args.bytes.now) in
    whole_run c.args.byte _ chunk long
    (bitmask_splat w8 leb chunk 64 c.args.byte long (omega arith)) c.if-low-eq0.true

pub returns : goal.returns
returns c =
    let chunk = take 64 c.args.bytes.now in
    let long : length chunk ≡ 64 = omega (arith, c.requires, length-take 64 c.args.bytes.now) in
    short_run c.args.byte _ chunk long
    (bitmask_splat w8 leb chunk 64 c.args.byte long (omega arith)) c.if-low-eq0.false
