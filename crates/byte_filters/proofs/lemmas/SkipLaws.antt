-- Runs of bytes that pass a test, and bytes that move the column by one.
use Rattle.std.proofs.Common.{◌≡◌, ℕ, zero, suc, ◌+◌, ◌<◌, ◌≤◌, List, [], ◌∷◌, Bool, true, false}
use Rattle.std.proofs.Common.{cond, take, refl, arith, eqb}
use Rattle.std.specs.Prelude.{nat_le}
use Rattle.std.specs.List.{prefix_len}
use Rattle.std.proofs.lemmas.Bool.Decides.{nat_tests}
use Rattle.byte_filters.specs.inner.Scans.{is_plain}

pub not_plain : (x : ℕ) → x ≤ 13 → is_plain x ≡ false
not_plain x h = grind (arith, nat_tests)

pub plain : (x : ℕ) → 13 < x → is_plain x ≡ true
plain x h = grind (arith, nat_tests)

pub above : (x : ℕ) → is_plain x ≡ true → 13 < x
above x h = grind (arith, nat_tests)

pub apart : (x n : ℕ) → n < x → eqb x n ≡ false
apart x n h = grind (arith, nat_tests)

pub le_is : (a b : ℕ) → a ≤ b → nat_le a b ≡ true
le_is a b h = grind (arith, nat_tests)

pub first_plain : (b : Bool) (n more : ℕ) → suc n ≤ cond b (1 + more) 0 → b ≡ true
first_plain true n more h = refl
first_plain false n more h = absurd (omega arith)

pub fewer : (b : Bool) (n more : ℕ) → suc n ≤ cond b (1 + more) 0 → n ≤ more
fewer true n more h = omega arith
fewer false n more h = absurd (omega arith)

-- ---- a run that is cut

taken_by : (b : Bool) (m a c : ℕ) → a ≤ c → a ≤ m → (cond b (1 + a) 0 ≤ cond b (1 + c) 0)
    × (cond b (1 + a) 0 ≤ suc m)
taken_by true m a c h k = (omega arith, omega arith)
taken_by false m a c h k = (omega arith, omega arith)

pub prefix_taken : (p : ℕ → Bool) (m : ℕ) (xs : List ℕ)
    → (prefix_len p (take m xs) ≤ prefix_len p xs) × (prefix_len p (take m xs) ≤ m)
prefix_taken p zero xs = (omega arith, omega arith)
prefix_taken p (suc m) [] = (omega arith, omega arith)
prefix_taken p (suc m) (x ∷ xs) =
    let h = prefix_taken p m xs in
    taken_by (p x) m (prefix_len p (take m xs)) (prefix_len p xs) h.0 h.1
