use Rattle.std.proofs.Common.{◌≡◌, ℕ, List, ◌+◌, ◌++◌, ◌∙◌, ap, take, arith}
use Rattle.std.proofs.lemmas.List.{take_all, length-take}
use Rattle.std.proofs.lemmas.Simd.{take_more_put_chunk}
use Rattle.lanes.proofs.written.copy_chunk.Goals as goal

pub returns-clause-copied : goal.returns-clause-copied
returns-clause-copied c =
    let chunk = c.args.chunk.now in
    let same : take 64 chunk ≡ chunk = take_all 64 chunk (omega (arith, c.requires.chunk)) in
    take_more_put_chunk c.args.at c.args.bytes.now (take 64 chunk) (c.args.at + 64)
    (omega (arith, c.requires.chunk, length-take 64 chunk)) c.requires.room
    ∙ ap (λ (x : List ℕ). take c.args.at c.args.bytes.now ++ x) same
