-- The places from one round to it again are a circle, and the circle from the lowest of them is the
-- one that a walk reaches.
use Rattle.std.proofs.Common.{◌≡◌, ℕ, ◌+◌, ◌-◌, ◌<◌, ◌≤◌, List, [], ◌∷◌, ◌++◌, length, get_or}
use Rattle.std.proofs.Common.{Option, Some, None, sym, ap, ◌∙◌, ⊎_elim, arith}
use Rattle.std.proofs.lemmas.Bool.{cases_lt}
use Rattle.std.proofs.lemmas.List.{length_push, get_or_push, get_or_append_left}
use Rattle.graphs.specs.inner.Circles.{next_of, walk, ComesRound, IsCircle, IsCircleMet}
use Rattle.graphs.proofs.lemmas.WalkLaws.{step_at, walk_on, ended_by, within_round}

-- the first places of a walk, which has not come back to its start
pub record AreFirst (next : List (Option ℕ)) (start : ℕ) (places : List ℕ) (n : ℕ) (place : ℕ) :
    Type 0 where
  pub count : length places ≡ n
  pub each : (i : ℕ) → i < n → walk next start i ≡ Some (get_or places i 0)
  pub here : walk next start n ≡ Some place
  pub away : (i : ℕ) → 0 < i → i ≤ n → walk next start i ≡ Some start → ⊥

module _ (next : List (Option ℕ)) (start : ℕ) where
  -- one place more
  pub place_more : (places : List ℕ) (n place : ℕ) → AreFirst next start places n place → (i : ℕ)
      → i < n + 1 → walk next start i ≡ Some (get_or (places ++ place ∷ []) i 0)
  place_more places n place first i l = ⊎_elim
      (λ (h : i < n). first.each i h
      ∙ ap Some (sym (get_or_append_left places (place ∷ []) 0 i (omega (arith, first.count)))))
      (λ (h : n ≤ i).
      ap (λ k. walk next start k) (let s : i ≡ n = omega arith in s)
      ∙ (first.here
      ∙ ap Some (sym (get_or_push places place 0 i (omega (arith, first.count))))))
      (cases_lt i n)

  -- a further step that does not lead back
  pub first_more : (places : List ℕ) (n place then : ℕ) → AreFirst next start places n place
      → next_of next place ≡ Some then → (then ≡ start → ⊥)
      → AreFirst next start (places ++ place ∷ []) (n + 1) then
  first_more places n place then first e ne =
      let on = step_at next start n place first.here ∙ e in
      record {
        count = omega (arith, length_push places place, first.count);
        each = place_more places n place first;
        here = on;
        away = λ i some l is. ⊎_elim
            (λ (h : i < n + 1). first.away i some (omega arith) is)
            (λ (h : n + 1 ≤ i). let at : walk next start i ≡ Some then =
            ap (λ k. walk next start k) (let s : i ≡ n + 1 = omega arith in s) ∙ on in
            ne (cc (sym at ∙ is)))
            (cases_lt i (n + 1));
      }

  -- one that comes round has not ended before
  pub goes_on : ComesRound next start → (places : List ℕ) (n place : ℕ)
      → AreFirst next start places n place → next_of next place ≡ None → ⊥
  goes_on (t, some, few, round) places n place first e =
      let ended = step_at next start n place first.here ∙ e in
      ⊎_elim
      (λ (h : t < n + 1). first.away t some (omega arith) round)
      (λ (h : n + 1 ≤ t). let none = ended_by next start (n + 1) t ended h in
      absurd (cc (sym none ∙ round)))
      (cases_lt t (n + 1))

  module _ (places : List ℕ) (n place : ℕ) (first : AreFirst next start places n place)
      (back : next_of next place ≡ Some start) where
    abbrev all : List ℕ
    all = places ++ place ∷ []

    count : length all ≡ n + 1
    count = length_push places place ∙ ap (λ k. k + 1) first.count

    each : (i : ℕ) → i < length all → walk next start i ≡ Some (get_or all i 0)
    each i l = place_more places n place first i (omega (arith, count))

    round : walk next start (n + 1) ≡ Some start
    round = step_at next start n place first.here ∙ back

    once : (i j : ℕ) → i < j → j < length all → get_or all i 0 ≡ get_or all j 0 → ⊥
    once i j l m same =
        let k = n + 1 - j in
        let a = walk_on next start i (get_or all i 0) (each i (omega arith)) k in
        let b = walk_on next start j (get_or all j 0) (each j m) k in
        let c : walk next start (i + k) ≡ Some start =
        a ∙ (ap (λ p. walk next p k) same
        ∙ (sym b
        ∙ (ap (λ t. walk next start t) (let s : j + k ≡ n + 1 = omega (arith, count) in s)
        ∙ round))) in
        first.away (i + k) (omega (arith, count)) (omega (arith, count)) c

    -- the step that leads back closes the circle
    pub closes : IsCircle next all
    closes = record {
      some = omega (arith, count);
      each = λ i l. sym (step_at next start i (get_or all i 0) (each i (omega arith)))
          ∙ each (i + 1) l;
      closed =
          let k = length all - 1 in
          let at = step_at next start k (get_or all k 0) (each k (omega (arith, count))) in
          sym at ∙ (ap (λ t. walk next start t) (let s : k + 1 ≡ n + 1 = omega (arith, count) in s)
          ∙ (round ∙ each 0 (omega (arith, count))));
      once = once;
    }

-- what the walk from a place reaches: its far place comes round, the lowest after that is `low`,
-- and this circle goes from there
pub circle_met : (next : List (Option ℕ)) (from a place low r : ℕ) (places : List ℕ)
    → walk next from a ≡ Some place → ComesRound next place → walk next place r ≡ Some low
    → ((n k : ℕ) → n ≤ length next → walk next place n ≡ Some k → low ≤ k) → IsCircle next places
    → ((i : ℕ) → i < length places → walk next low i ≡ Some (get_or places i 0))
    → IsCircleMet next from places
circle_met next from a place low r places far (t, some, few, round) reached lowest circle each =
    let begins : low ≡ get_or places 0 0 = cc (each 0 circle.some) in
    record {
      circle = circle;
      lowest = λ i l.
          let w = within_round next place t some round (r + i) in
          let k = w.1 in
          let at : walk next place w.0 ≡ Some (get_or places i 0) = sym w.2
          ∙ (walk_on next place r low reached i ∙ each i l) in
          let h = lowest w.0 (get_or places i 0) (omega arith) at in
          omega (arith, h, begins);
      met = (a + r, walk_on next from a place far r ∙ (reached ∙ ap Some begins));
    }
