-- Counts of bytes that pass a test, some bytes at a time.
use Rattle.std.proofs.Common.{◌≡◌, ℕ, ◌+◌, ◌≤◌, List, ◌++◌, Bool, cond, drop, take, length, ap, ◌∙◌}
use Rattle.std.proofs.Common.{sym, arith, length-drop}
use Rattle.std.specs.Prelude.{count_by}
use Rattle.std.proofs.lemmas.List.{drop-drop}
use Rattle.std.proofs.lemmas.List.Sums.{count_by-le-length, sum_by-append}
use Rattle.machine.proofs.SplitLaws.{take_split, take_long}

-- what was counted so far
pub record HasCountedUpTo (p : ℕ → Bool) (bytes : List ℕ) (at count : ℕ) : Type 0 where
  pub within : at ≤ length bytes
  pub few : count ≤ at
  pub counted : count + count_by p (drop at bytes) ≡ count_by p bytes

-- some bytes more
pub counted_more : (p : ℕ → Bool) (bytes rest some : List ℕ) (at count n here : ℕ)
    → rest ≡ drop at bytes → some ≡ take n rest → here ≡ count_by p some
    → HasCountedUpTo p bytes at count → HasCountedUpTo p bytes (at + length some) (count + here)
counted_more p bytes rest some at count n here r e h c =
    let s : some ≡ take n (drop at bytes) = e ∙ ap (take n) r in
    let long = take_long n (drop at bytes) in
    let same = ap length s in
    let was : at ≤ length bytes = c.within in
    let sofar = c.counted in
    let d = length-drop at bytes in
    let most = count_by-le-length p some in
    let fewer : count ≤ at = c.few in
    let split : count_by p (drop at bytes) ≡ count_by p some + count_by p
    (drop (length some) (drop at bytes)) =
    ap (count_by p) (take_split n (drop at bytes)
    ∙ ap (λ (z : List ℕ). z ++ drop (length z) (drop at bytes)) (sym s))
    ∙ sum_by-append (λ (x : ℕ). cond (p x) 1 0) some (drop (length some) (drop at bytes)) in
    let gone : count_by p (drop (length some) (drop at bytes))
    ≡ count_by p (drop (at + length some) bytes) =
    ap (count_by p) (drop-drop (length some) at bytes) in
    record {
      within = omega (arith, long.1);
      few = omega arith;
      counted = omega arith;
    }
