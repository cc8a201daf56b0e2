use Rattle.std.proofs.Common.{◌≡◌, ◌∙◌, ◌++◌, ℕ, take, drop, ap, arith}
use Rattle.std.proofs.Math.Seq.{take-add}
use Rattle.tr_filter.proofs.chunks.keep_chunk.Goals as goal

pub returns-else-from-to-clause-moved : goal.returns-else-from-to-clause-moved
returns-else-from-to-clause-moved c =
    let xs = c.args.bytes.now in
    let same : c.args.to ≡ c.args.from = omega (arith, c.if-from-to.false) in
    take-add c.args.to 64 xs ∙ ap (λ (j : ℕ). take c.args.to xs ++ take 64 (drop j xs)) same
