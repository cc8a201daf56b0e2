-- Chunks that begin with bytes.
use Rattle.std.proofs.Common.{◌≡◌, ℕ, ◌+◌, ◌≤◌, List, ◌++◌, length, take, ap, ◌∙◌, sym, arith}
use Rattle.std.proofs.lemmas.List.{length-take, take-take}
use Rattle.std.proofs.Math.Seq.{take-append-add}

-- a chunk that begins with the first bytes
pub chunk_begins : (of : List ℕ) (len : ℕ) → len ≤ length of → len ≤ 64 → 64 ≤ length of
    → (length (take 64 of) ≡ 64) × (length (take len of) ≤ 64)
    × (take (length (take len of)) (take 64 of) ≡ take len of)
chunk_begins of len within short long =
    let n : length (take len of) ≡ len = omega (arith, within, length-take len of) in (
      omega (arith, long, length-take 64 of),
      omega (arith, n, short),
      ap (λ (k : ℕ). take k (take 64 of)) n ∙ take-take len 64 of short,
    )

-- what was written, and after it the first bytes of a chunk
pub chunk_written : (front chunk bytes : List ℕ) (len count : ℕ) → length front ≡ len
    → length chunk ≡ 64 → count ≤ 64 → take (len + 64) bytes ≡ front ++ chunk
    → take (len + count) bytes ≡ front ++ take count chunk
chunk_written front chunk bytes len count long whole short copied =
    let n : len + count ≡ length front + count = omega (arith, long) in
    sym (take-take (len + count) (len + 64) bytes (omega (arith, short)))
    ∙ (ap (take (len + count)) copied
    ∙ (ap (λ (k : ℕ). take k (front ++ chunk)) n ∙ take-append-add front chunk count))

-- the same of two chunks
pub chunks_begin : (of : List ℕ) (len : ℕ) → len ≤ length of → len ≤ 128 → 128 ≤ length of
    → (length (take 128 of) ≡ 128) × (length (take len of) ≤ 128)
    × (take (length (take len of)) (take 128 of) ≡ take len of)
chunks_begin of len within short long =
    let n : length (take len of) ≡ len = omega (arith, within, length-take len of) in (
      omega (arith, long, length-take 128 of),
      omega (arith, n, short),
      ap (λ (k : ℕ). take k (take 128 of)) n ∙ take-take len 128 of short,
    )

pub chunks_written : (front chunks bytes : List ℕ) (len count : ℕ) → length front ≡ len
    → length chunks ≡ 128 → count ≤ 128 → take (len + 128) bytes ≡ front ++ chunks
    → take (len + count) bytes ≡ front ++ take count chunks
chunks_written front chunks bytes len count long whole short copied =
    let n : len + count ≡ length front + count = omega (arith, long) in
    sym (take-take (len + count) (len + 128) bytes (omega (arith, short)))
    ∙ (ap (take (len + count)) copied
    ∙ (ap (λ (k : ℕ). take k (front ++ chunks)) n ∙ take-append-add front chunks count))
