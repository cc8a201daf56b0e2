-- Newlines, a chunk at a time.
use Rattle.std.proofs.Common.{◌≡◌, ℕ, ◌+◌, ◌≤◌, List, Bool, cond, eqb, drop, take, map, ap, ◌∙◌}
use Rattle.std.proofs.Common.{sym, arith}
use Rattle.std.specs.Prelude.{count_by}
use Rattle.std.specs.Int.RustNames.{count_ones}
use Rattle.std.specs.Simd.Lanes.{mask_l}
use Rattle.std.proofs.lemmas.Simd.{ones-mask_l}
use Rattle.std.proofs.lemmas.List.{length-take, drop-drop, take-append-drop}
use Rattle.std.proofs.lemmas.List.Sums.{count_by-le-length, sum_by-append}
use Rattle.machine.specs.Lines.{newline}

pub ends_counted : (bytes : List ℕ) (at m : ℕ)
    → m ≡ mask_l (map (λ x. eqb x newline) (take 64 (drop at bytes)))
    → count_ones m ≡ count_by (λ x. eqb x newline) (take 64 (drop at bytes))
ends_counted bytes at m e = ap count_ones e
    ∙ ones-mask_l (λ x. eqb x newline) (take 64 (drop at bytes))

pub ends_few : (bytes : List ℕ) (at k : ℕ)
    → k ≡ count_by (λ x. eqb x newline) (take 64 (drop at bytes)) → k ≤ 64
ends_few bytes at k e =
    omega (
      arith,
      e,
      count_by-le-length (λ x. eqb x newline) (take 64 (drop at bytes)),
      length-take 64 (drop at bytes),
    )

-- how many newlines there are so far
pub record HasEndedUpTo (bytes : List ℕ) (at lines : ℕ) : Type 0 where
  pub few : lines ≤ at
  pub counted : lines + count_by (λ x. eqb x newline) (drop at bytes)
      ≡ count_by (λ x. eqb x newline) bytes

-- a chunk more
pub ended_chunk : (bytes : List ℕ) (at lines here : ℕ)
    → here ≡ count_by (λ x. eqb x newline) (take 64 (drop at bytes)) → HasEndedUpTo bytes at lines
    → HasEndedUpTo bytes (at + 64) (lines + here)
ended_chunk bytes at lines here e c =
    let p : ℕ → Bool = λ x. eqb x newline in
    let rest = drop at bytes in
    let split : count_by p rest ≡ count_by p (take 64 rest) + count_by p (drop 64 rest) =
    ap (count_by p) (sym (take-append-drop 64 rest))
    ∙ sum_by-append (λ (x : ℕ). cond (p x) 1 0) (take 64 rest) (drop 64 rest) in
    let gone : count_by p (drop 64 rest) ≡ count_by p (drop (at + 64) bytes) =
    ap (count_by p) (drop-drop 64 at bytes) in
    let sofar = c.counted in
    record {
      few = omega (arith, c.few, ends_few bytes at here e);
      counted = omega arith;
    }
