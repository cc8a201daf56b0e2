-- Single bits of numbers.
use Rattle.std.proofs.Common.{◌≡◌, ◌≢◌, ℕ, zero, suc, ⊎_elim, ◌+◌, ◌-◌, ◌*◌, sym, ◌/◌, ◌%◌, ◌^◌}
use Rattle.std.proofs.Common.{◌<◌, ◌≤◌, ap, ◌∙◌, arith, shr-shr, Bool, true, false, eqb, refl, w64}
use Rattle.std.proofs.lemmas.Bool.{eqb-true, eqb-false}
use lib.Count.{count_trailing_zeros}
use Rattle.std.specs.Int.{bit_at}
use Rattle.std.specs.Int.Bits.{bit_and}
use Rattle.std.proofs.lemmas.Bool.{cases_lt}
use Rattle.std.proofs.lemmas.Nat.Bits.{bit_at-trailing_zeros, bit_at-zero, bit_at_cat_high}
use Rattle.std.proofs.lemmas.Nat.Bits.{bit_at-suc, bit_at_lowest, bit_at_and}
use Rattle.lanes.specs.inner.Masks.{IsWithoutLowest}

-- the highest bit that is set
pub bit_at_top : (m j : ℕ) → 2 ^ j ≤ m → m < 2 ^ suc j → bit_at m j ≡ 1
bit_at_top m j low high =
    let e : 1 * 2 ^ j + (m - 2 ^ j) ≡ m = omega (arith, low) in
    let small : m - 2 ^ j < 2 ^ j = omega (arith, low, high) in
    let n : j - j ≡ 0 = omega arith in
    ap (λ (x : ℕ). bit_at x j) (sym e)
    ∙ (bit_at_cat_high 1 j (m - 2 ^ j) j small (omega arith) ∙ ap (bit_at 1) n)

-- the bits below the lowest that is set
clear_by : (m k : ℕ) → (b : Bool) → eqb m 0 ≡ b → m < 2 ^ 64 → k < count_trailing_zeros 64 m
    → bit_at m k ≡ 0
clear_by m k true e fits low = ap (λ (x : ℕ). bit_at x k) (eqb-true m 0 e) ∙ bit_at-zero k
clear_by m k false e fits low =
    (bit_at-trailing_zeros w64 m (omega (arith, eqb-false m 0 e)) fits).2 k low

pub clear_below : (m k : ℕ) → m < 2 ^ 64 → k < count_trailing_zeros 64 m → bit_at m k ≡ 0
clear_below m k fits low = clear_by m k (eqb m 0) refl fits low

-- the bits from one on
pub bit_at_shr : (m s k : ℕ) → bit_at (m / 2 ^ s) k ≡ bit_at m (s + k)
bit_at_shr m s k = ap (λ (x : ℕ). x % 2) (shr-shr m s k)

-- a number with a bit is not 0
some_bit : (m k : ℕ) → bit_at m k ≡ 1 → 1 ≤ m
some_bit zero k set = absurd (omega (arith, set, bit_at-zero k))
some_bit (suc m) k set = omega arith

-- one less: the bit is gone, and those above it are the same
less_gone : (r m : ℕ) → bit_at m r ≡ 1 → ((k : ℕ) → k < r → bit_at m k ≡ 0) → bit_at (m - 1) r ≡ 0
less_gone zero m set below = omega (arith, set, bit_at_lowest m, bit_at_lowest (m - 1))
less_gone (suc r) m set below =
    let some = some_bit m (suc r) set in
    let even : m % 2 ≡ 0 = omega (arith, bit_at_lowest m, below 0 (omega arith)) in
    let half : (m - 1) / 2 ≡ m / 2 - 1 = omega (arith, some, even) in
    bit_at-suc (m - 1) r
    ∙ (ap (λ (x : ℕ). bit_at x r) half
    ∙ less_gone r (m / 2) (sym (bit_at-suc m r) ∙ set) (λ k low. sym (bit_at-suc m k)
    ∙ below (suc k) (omega (arith, low))))

less_kept : (r m i : ℕ) → bit_at m r ≡ 1 → ((k : ℕ) → k < r → bit_at m k ≡ 0) → r < i
    → bit_at (m - 1) i ≡ bit_at m i
less_kept r m zero set below high = absurd (omega (arith, high))
less_kept zero m (suc i) set below high =
    let half : (m - 1) / 2 ≡ m / 2 = omega (arith, set, bit_at_lowest m) in
    bit_at-suc (m - 1) i ∙ (ap (λ (x : ℕ). bit_at x i) half ∙ sym (bit_at-suc m i))
less_kept (suc r) m (suc i) set below high =
    let some = some_bit m (suc r) set in
    let even : m % 2 ≡ 0 = omega (arith, bit_at_lowest m, below 0 (omega arith)) in
    let half : (m - 1) / 2 ≡ m / 2 - 1 = omega (arith, some, even) in
    bit_at-suc (m - 1) i
    ∙ (ap (λ (x : ℕ). bit_at x i) half
    ∙ (less_kept r (m / 2) i (sym (bit_at-suc m r) ∙ set) (λ k low. sym (bit_at-suc m k)
    ∙ below (suc k) (omega (arith, low))) (omega arith)
    ∙ sym (bit_at-suc m i)))

-- a number and one less have in common what is above the lowest bit
common_bit : (r m k : ℕ) → bit_at m r ≡ 1 → ((i : ℕ) → i < r → bit_at m i ≡ 0) → k ≢ r
    → bit_at (bit_and m (m - 1)) k ≡ bit_at m k
common_bit r m k set below apart =
    ⊎_elim (λ less. omega (arith, bit_at_and m (m - 1) k, below k less)) (λ more.
    let high : r < k = ⊎_elim (λ h. h) (λ same. absurd (apart (omega (arith, same, more))))
    (cases_lt r k) in
    omega (arith, bit_at_and m (m - 1) k, less_kept r m k set below high))
    (cases_lt k r)

pub is_without_lowest : (m : ℕ) → m ≢ 0 → m < 2 ^ 64 → IsWithoutLowest m (bit_and m (m - 1))
is_without_lowest m some fits =
    let h = bit_at-trailing_zeros w64 m (omega (arith, some)) fits in
    let r = count_trailing_zeros 64 m in
    record {
      lowest = r;
      bound = h.0;
      set = h.1;
      below = h.2;
      kept = λ k small apart. common_bit r m k h.1 h.2 apart;
      gone = omega (arith, bit_at_and m (m - 1) r, less_gone r m h.1 h.2);
    }
