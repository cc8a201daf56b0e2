-- Bytes that are moved.
use Rattle.std.proofs.Common.{◌≡◌, ℕ, ◌+◌, ◌≤◌, List, ◌++◌, length, take, drop, ap, ◌∙◌, sym, arith}
use Rattle.std.proofs.Common.{append_assoc, length-append}
use Rattle.std.proofs.lemmas.List.{length-take, drop-drop}
use Rattle.std.proofs.lemmas.Slice.{drop-append-drop}
use Rattle.std.proofs.lemmas.Simd.{put_chunk_is}
use Rattle.std.specs.Simd.Lanes.{put_chunk}

-- the bytes after a chunk that was put
pub after_put : (xs ys : List ℕ) (to n : ℕ) → length ys ≡ 64 → to + 64 ≤ n → n ≤ length xs
    → drop n (put_chunk to xs ys) ≡ drop n xs
after_put xs ys to n long past within =
    let whole : take to xs ++ (ys ++ drop (length ys) (drop to xs))
    ≡ (take to xs ++ ys) ++ drop (to + 64) xs =
    sym (append_assoc (take to xs) ys (drop (length ys) (drop to xs)))
    ∙ ap (λ (z : List ℕ). (take to xs ++ ys) ++ z) (ap (λ (j : ℕ). drop j (drop to xs)) long
    ∙ drop-drop 64 to xs) in
    ap (drop n) (put_chunk_is to xs ys (omega (arith, long)) ∙ whole)
    ∙ drop-append-drop (to + 64) xs (take to xs ++ ys) n past
    (omega (arith, long, length-append (take to xs) ys, length-take to xs))
