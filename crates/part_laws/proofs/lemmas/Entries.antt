-- Entries of the tables and sets of tr.
use Rattle.std.proofs.Common.{◌≡◌, ℕ, zero, suc, ◌+◌, ◌<◌, ◌≤◌, Bool, true, false, cond, eqb}
use Rattle.std.proofs.Common.{List, [], ◌∷◌, map, get_or, refl, ap, ◌∙◌, sym, arith, inl, inr}
use Rattle.std.specs.List.{count_by}
use Rattle.std.specs.Prelude.{nat_lt, Some, ◌⊎◌}
use Rattle.std.proofs.lemmas.Bool.{and_from, and_parts, cases_lt, false≢true, lt-ltb, ltb-true}
use Rattle.std.proofs.lemmas.List.Sums.{sum_by-cons}
use Rattle.std.proofs.lemmas.List.{get_or_past}
use Rattle.std.proofs.lemmas.List.FromFn.{get_or-range_with_len, length-map-range_with_len}
use Rattle.std.proofs.lemmas.List.FromFn.{length-range_with_len}
use Rattle.machine.specs.Lines.{newline}
use Rattle.tr_words.proofs.TableLaws.{entry_is}
use Rattle.tr_words.specs.Classes.{all_bytes}
use Rattle.tr_words.specs.Tr.{in_set}
use Rattle.part_laws.specs.Additions.{set_where}
use Rattle.part_laws.specs.Utilities.{are_bytes}

-- ---- tables and sets that are made of a rule

-- no byte is past the end
past : {X : Type 0} (f : ℕ → X) (b : ℕ) (d : X) → 256 ≤ b → get_or (map f all_bytes) b d ≡ d
unfolding all_bytes
past f b d h =
    let long = length-map-range_with_len f 0 256 in
    get_or_past (map f all_bytes) b d (omega (arith, long, h))

-- a member of a set that is so is a byte that is so
pub in_set_is : (is : ℕ → Bool) (b : ℕ) → in_set (Some (set_where is)) b ≡ true → is b ≡ true
in_set_is is b h =
    elim (cases_lt b 256) [
      | inl low ↦ sym (entry_is is b false low) ∙ h
      | inr high ↦ absurd (false≢true (sym (past is b false high) ∙ h))
    ]

-- a byte that is so is a member
pub is_in_set : (is : ℕ → Bool) (b : ℕ) → b < 256 → in_set (Some (set_where is)) b ≡ is b
is_in_set is b low = entry_is is b false low

-- the entry of a byte in a table that is made of a rule, or 0
pub entry_of : (f : ℕ → ℕ) (b : ℕ)
    → (get_or (map f all_bytes) b 0 ≡ f b) ⊎ ((256 ≤ b) × (get_or (map f all_bytes) b 0 ≡ 0))
entry_of f b =
    elim (cases_lt b 256) [
      | inl low ↦ inl (entry_is f b 0 low)
      | inr high ↦ inr (high, past f b 0 high)
    ]

-- the entry of a byte in the table that leaves bytes as they are
pub own_entry : (b : ℕ) → b < 256 → get_or all_bytes b 0 ≡ b
unfolding all_bytes
own_entry b low =
    let same : 0 + b ≡ b = omega arith in
    get_or-range_with_len 0 256 b 0 low ∙ same

-- past its end there is nothing
pub past_own : (b : ℕ) → 256 ≤ b → get_or all_bytes b 0 ≡ 0
unfolding all_bytes
past_own b high =
    let long = length-range_with_len 0 256 in
    get_or_past all_bytes b 0 (omega (arith, long, high))

-- ---- tables of bytes

pub byte_at : (t : List ℕ) (i : ℕ) → are_bytes t ≡ true → get_or t i 0 < 256
byte_at [] i h = omega arith
byte_at (b ∷ t) zero h = ltb-true b 256 (and_parts (nat_lt b 256) (are_bytes t) h).0
byte_at (b ∷ t) (suc i) h = byte_at t i (and_parts (nat_lt b 256) (are_bytes t) h).1

-- a table whose entries are bytes has bytes alone
pub bytes_all : (t : List ℕ) → ((i : ℕ) → get_or t i 0 < 256) → are_bytes t ≡ true
bytes_all [] h = refl
bytes_all (b ∷ t) h = and_from (nat_lt b 256) (are_bytes t) (lt-ltb b 256 (h 0))
    (bytes_all t (λ i. h (suc i)))

-- ---- one entry alone

abbrev pub is_newline : ℕ → Bool
is_newline b = eqb b newline

-- how many newlines there are in a list that begins with a byte
pub newlines_cons : (b : ℕ) (xs : List ℕ)
    → count_by is_newline (b ∷ xs) ≡ cond (is_newline b) 1 0 + count_by is_newline xs
newlines_cons b xs = sum_by-cons (λ (c : ℕ). cond (is_newline c) 1 0) b xs

-- an entry that is a newline is counted
counted_once : (t : List ℕ) (i : ℕ) → get_or t i 0 ≡ newline → 1 ≤ count_by is_newline t
counted_once [] i e = absurd (cc e)
counted_once (b ∷ t) zero e =
    let one : cond {A = ℕ} (is_newline b) 1 0 ≡ 1 = ap (λ (c : ℕ). cond (is_newline c) 1 0) e in
    omega (arith, newlines_cons b t, one)
counted_once (b ∷ t) (suc i) e = omega (arith, newlines_cons b t, counted_once t i e)

-- if a table has one newline, it is at one place
pub one_place : (t : List ℕ) (i j : ℕ) → count_by is_newline t ≡ 1 → get_or t i 0 ≡ newline
    → get_or t j 0 ≡ newline → i ≡ j
one_place [] i j one e g = absurd (cc)
one_place (b ∷ t) zero zero one e g = refl
one_place (b ∷ t) zero (suc j) one e g =
    let first : cond {A = ℕ} (is_newline b) 1 0 ≡ 1 = ap (λ (c : ℕ). cond (is_newline c) 1 0) e in
    absurd (omega (arith, newlines_cons b t, first, one, counted_once t j g))
one_place (b ∷ t) (suc i) zero one e g =
    let first : cond {A = ℕ} (is_newline b) 1 0 ≡ 1 = ap (λ (c : ℕ). cond (is_newline c) 1 0) g in
    absurd (omega (arith, newlines_cons b t, first, one, counted_once t i e))
one_place (b ∷ t) (suc i) (suc j) one e g =
    let later = counted_once t i e in
    ap suc (one_place t i j (omega (arith, newlines_cons b t, one, later)) e g)
