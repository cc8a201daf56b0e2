use Rattle.std.proofs.Common.{◌≡◌, ◌+◌, ◌-◌, ◌++◌, ◌∙◌, List, ℕ, length, take, drop, ap, arith}
use Rattle.std.proofs.Common.{append_assoc}
use Rattle.std.proofs.lemmas.List.{length-take, take_rest, take-append-drop}
use Rattle.lanes.proofs.written.put_two.Goals as goal

pub slice_bounds-put_chunk-end : goal.slice_bounds-put_chunk-end
slice_bounds-put_chunk-end c = omega (arith, c.requires.chunks, length-take 64 c.args.chunks.now)

pub put_chunk-requires-clause-chunk : goal.put_chunk-requires-clause-chunk
put_chunk-requires-clause-chunk c =
    omega (arith, c.requires.chunks, length-take 64 c.args.chunks.now)

pub returns-clause-copied : goal.returns-clause-copied
returns-clause-copied c =
    let chunks = c.args.chunks.now in
    let at = c.args.at in
    let old = take at c.args.bytes.now.items in
    let last = take (length chunks - 64) (drop 64 chunks) in
    let n : at + 128 ≡ at + 64 + 64 = omega arith in
    ap (λ (k : ℕ). take k c.put_chunk-2.new.bytes.items) n
    ∙ (c.put_chunk-2.ensures.copied
    ∙ (ap (λ (x : List ℕ). x ++ last) c.put_chunk.ensures.copied
    ∙ (append_assoc old (take 64 chunks) last
    ∙ ap (λ (x : List ℕ). old ++ x) (ap (λ (x : List ℕ). take 64 chunks ++ x) (take_rest chunks 64)
    ∙ take-append-drop 64 chunks))))
