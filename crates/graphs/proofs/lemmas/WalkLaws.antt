-- Walks by a table: once one has ended it stays there, and one that goes on for long enough comes
-- round.
use Rattle.std.proofs.Common.{◌≡◌, ℕ, zero, suc, ◌+◌, ◌-◌, ◌<◌, ◌≤◌, ◌⊎◌, ◌==◌, Bool, cond, List}
use Rattle.std.proofs.Common.{length, Option, Some, None, unwrap_or, refl, sym, ap, ◌∙◌, inl, inr}
use Rattle.std.proofs.Common.{⊎_elim, arith}
use Rattle.std.proofs.lemmas.Bool.{cases_lt, cases_eq, eq-eqb, ne_eqb}
use Rattle.std.proofs.lemmas.List.{get_or_past}
use Rattle.graphs.specs.inner.Circles.{next_of, stepped, walk, ComesRound}

-- ---- so many numbers below fewer: two of them are the same

-- two of the first n are the same
abbrev Collides : (ℕ → ℕ) → ℕ → Type 0
Collides f n = (i : ℕ) × (j : ℕ) × (i < j) × (j < n) × (f i ≡ f j)

-- whether a number is among the first n
seen : (f : ℕ → ℕ) (x n : ℕ) → ((i : ℕ) × (i < n) × (f i ≡ x)) ⊎ ((i : ℕ) → i < n → f i ≡ x → ⊥)
seen f x zero = inr (λ i l e. absurd (omega arith))
seen f x (suc n) = ⊎_elim
    (λ s. inl (s.0, (let l = s.1 in omega arith), s.2))
    (λ none. ⊎_elim
    (λ (e : f n ≡ x). inl (n, omega arith, e))
    (λ (ne : f n ≡ x → ⊥). inr (λ i l e. ⊎_elim (λ (h : i ≡ n). ne (ap f (sym h) ∙ e))
    (λ (h : i ≡ n → ⊥). none i (omega arith) e) (cases_eq i n)))
    (cases_eq (f n) x))
    (seen f x n)

-- the same numbers, with another in place of m
abbrev avoiding : (ℕ → ℕ) → ℕ → ℕ → ℕ → ℕ
avoiding f m y i = cond (f i == m) y (f i)

avoids : (x m y : ℕ) → ((x ≡ m) × (cond (x == m) y x ≡ y)) ⊎ ((x ≡ m → ⊥) × (cond (x == m) y x ≡ x))
avoids x m y = ⊎_elim
    (λ (e : x ≡ m). inl (e, ap (λ (b : Bool). cond b y x) (eq-eqb x m e)))
    (λ (ne : x ≡ m → ⊥). inr (ne, ap (λ (b : Bool). cond b y x) (ne_eqb x m ne)))
    (cases_eq x m)

collides : (m n : ℕ) (f : ℕ → ℕ) → ((i : ℕ) → i < n → f i < m) → m < n → Collides f n
collides m zero f into lt = absurd (omega arith)
collides zero (suc n) f into lt = absurd (omega (arith, into n (omega arith)))
collides (suc m) (suc n) f into lt = ⊎_elim
    (λ s. (s.0, n, s.1, omega arith, s.2))
    (λ none. back none (collides m n (avoiding f m (f n)) (fewer none) (omega arith)))
    (seen f (f n) n)
  where
    fewer : ((i : ℕ) → i < n → f i ≡ f n → ⊥) → (i : ℕ) → i < n → avoiding f m (f n) i < m
    fewer none i l =
        let a = into i (omega arith) in
        let b = into n (omega arith) in
        elim (avoids (f i) m (f n)) [
          | inl w ↦
              (let ne : f n ≡ m → ⊥ = λ e. none i l (w.0 ∙ sym e) in omega (arith, w.1))
          | inr w ↦
              omega (arith, w.0, w.1)
        ]

    back : ((i : ℕ) → i < n → f i ≡ f n → ⊥) → Collides (avoiding f m (f n)) n → Collides f (suc n)
    back none (i, j, l, k, e) = (
      i,
      j,
      l,
      omega arith,
      elim (avoids (f i) m (f n)) [
        | inl v ↦ elim (avoids (f j) m (f n)) [
          | inl w ↦ v.0 ∙ sym w.0
          | inr w ↦
              absurd (none j k (sym w.1 ∙ (sym e ∙ v.1)))
        ]
        | inr v ↦ elim (avoids (f j) m (f n)) [
          | inl w ↦
              absurd (none i (omega arith) (sym v.1 ∙ (e ∙ w.1)))
          | inr w ↦ sym v.1 ∙ (e ∙ w.1)
        ]
      ],
    )

-- ---- walks

module _ (next : List (Option ℕ)) where
  -- the step from a place
  pub step_at : (from n place : ℕ) → walk next from n ≡ Some place
      → walk next from (n + 1) ≡ next_of next place
  step_at from n place e = ap (λ k. walk next from k) (let s : n + 1 ≡ suc n = omega arith in s)
      ∙ ap (stepped next) e

  -- a walk goes on from its place
  pub walk_on : (from a place : ℕ) → walk next from a ≡ Some place → (n : ℕ)
      → walk next from (a + n) ≡ walk next place n
  walk_on from a place e zero = ap (λ k. walk next from k) (let s : a + 0 ≡ a = omega arith in s)
      ∙ e
  walk_on from a place e (suc n) = ap (λ k. walk next from k)
      (let s : a + suc n ≡ suc (a + n) = omega arith in s)
      ∙ ap (stepped next) (walk_on from a place e n)

  -- one that has ended stays there
  ended : (from a : ℕ) → walk next from a ≡ None → (n : ℕ) → walk next from (a + n) ≡ None
  ended from a e zero = ap (λ k. walk next from k) (let s : a + 0 ≡ a = omega arith in s) ∙ e
  ended from a e (suc n) = ap (λ k. walk next from k)
      (let s : a + suc n ≡ suc (a + n) = omega arith in s) ∙ ap (stepped next) (ended from a e n)

  pub ended_by : (from a b : ℕ) → walk next from a ≡ None → a ≤ b → walk next from b ≡ None
  ended_by from a b e le = ap (λ k. walk next from k) (let s : b ≡ a + (b - a) = omega arith in s)
      ∙ ended from a e (b - a)

  -- so it was somewhere before
  before : (from a b place : ℕ) → a ≤ b → walk next from b ≡ Some place
      → (k : ℕ) × (walk next from a ≡ Some k)
  before from a b place le e = by_case (walk next from a) refl
    where
      by_case : (o : Option ℕ) → walk next from a ≡ o → (k : ℕ) × (walk next from a ≡ Some k)
      by_case (Some k) is = (k, is)
      by_case None is = let n = ended_by from a b is le in absurd (cc (sym n ∙ e))

  -- a place with one after it is in the table
  inside : (place then : ℕ) → next_of next place ≡ Some then → place < length next
  inside place then e = ⊎_elim
      (λ (l : place < length next). l)
      (λ (le : length next ≤ place). let n : next_of next place ≡ None =
      get_or_past next place None le in absurd (cc (sym n ∙ e)))
      (cases_lt place (length next))

  -- what leads round a place leads round each place after it
  pub round_on : (from place n t : ℕ) → walk next from n ≡ Some from → walk next from t ≡ Some place
      → walk next place n ≡ Some place
  round_on from place n t round to =
      sym (walk_on from t place to n)
      ∙ (ap (λ k. walk next from k) (let s : t + n ≡ n + t = omega arith in s)
      ∙ (walk_on from n from round t ∙ to))

  -- each place of a walk that comes round is among the first
  pub within_round : (from n : ℕ) → 0 < n → walk next from n ≡ Some from → (t : ℕ)
      → (k : ℕ) × (k < n) × (walk next from t ≡ walk next from k)
  within_round from n some round zero = (0, some, refl)
  within_round from n some round (suc t) = by_case (within_round from n some round t)
    where
      by_case : (k : ℕ) × (k < n) × (walk next from t ≡ walk next from k)
          → (k : ℕ) × (k < n) × (walk next from (suc t) ≡ walk next from k)
      by_case (k, l, e) = ⊎_elim
          (λ (h : suc k < n). (suc k, h, ap (stepped next) e))
          (λ (h : n ≤ suc k). (
            0,
            some,
            ap (stepped next) e
                ∙ (ap (λ i. walk next from i) (let s : suc k ≡ n = omega arith in s) ∙ round),
          ))
          (cases_lt (suc k) n)

  -- the place that this many steps lead to, as a number
  abbrev place_after : ℕ → ℕ → ℕ
  place_after from i = unwrap_or (walk next from i) 0

  -- a walk of more steps than the table has places has come round
  pub comes_round : (from place : ℕ) → walk next from (length next + 1) ≡ Some place
      → ComesRound next place
  comes_round from place e =
      by_case (collides (length next) (length next + 1) (place_after from) within (omega arith))
    where
      is : (i : ℕ) → i ≤ length next → walk next from i ≡ Some (place_after from i)
      is i le =
          let b = before from i (length next + 1) place (omega arith) e in
          b.1 ∙ sym (ap (λ (o : Option ℕ). Some (unwrap_or o 0)) b.1)

      within : (i : ℕ) → i < length next + 1 → place_after from i < length next
      within i l =
          let b = before from (i + 1) (length next + 1) place (omega arith) e in
          inside (place_after from i) b.0
          (sym (step_at from i (place_after from i) (is i (omega arith))) ∙ b.1)

      by_case : Collides (place_after from) (length next + 1) → ComesRound next place
      by_case (i, j, l, k, same) =
          let here = is i (omega arith) in
          let round : walk next (place_after from i) (j - i) ≡ Some (place_after from i) =
          sym (walk_on from i (place_after from i) here (j - i))
          ∙ (ap (λ n. walk next from n) (let s : i + (j - i) ≡ j = omega arith in s)
          ∙ (is j (omega arith) ∙ ap Some (sym same))) in
          let to : walk next (place_after from i) (length next + 1 - i) ≡ Some place =
          sym (walk_on from i (place_after from i) here (length next + 1 - i))
          ∙ (ap (λ n. walk next from n) (let s : i + (length next + 1 - i) ≡ length next + 1 =
          omega arith in s) ∙ e) in (
            j - i,
            omega arith,
            omega arith,
            round_on (place_after from i) place (j - i)
                (length next + 1 - i) round to,
          )
