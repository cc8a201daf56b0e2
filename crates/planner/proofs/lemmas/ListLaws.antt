-- Lists that are made from the numbers below a bound: what is in them, and that nothing is in them
-- twice.
use Rattle.std.proofs.Common.{◌≡◌, ℕ, zero, suc, ◌+◌, ◌<◌, ◌≤◌, Bool, true, false, cond, ◌∷◌, map}
use Rattle.std.proofs.Common.{Option, Some, None, nat_lt, refl, sym, ap, ◌∙◌, inl, inr, ⊎_elim}
use Rattle.std.proofs.Common.{arith}
use Rattle.std.proofs.lemmas.Bool.{cases_eq, ltb-true, lt-ltb}
use Rattle.graphs.specs.Graph.{IsAmong, AreDistinct, present}
use Rattle.planner.specs.Tables.{numbers_from, if_below}

-- what it means that a number is below a bound
pub below_some : (n q p : ℕ) → if_below n q ≡ Some p → (q < n) × (q ≡ p)
below_some n q p h = go (nat_lt q n) refl h
  where
    go : (b : Bool) → nat_lt q n ≡ b → cond b (Some q) None ≡ Some p → (q < n) × (q ≡ p)
    go true e h = (ltb-true q n e, cc h)
    go false e h = absurd (cc h)

pub some_below : (n q p : ℕ) → q < n → q ≡ p → if_below n q ≡ Some p
some_below n q p l e = ap (λ b. cond b (Some q) None) (lt-ltb q n l) ∙ ap Some e

-- nothing is left out if all are below it
pub all_present : (f : ℕ → ℕ) (n a m : ℕ) → ((i : ℕ) → i < a + m → f i < n)
    → present (map (λ i. if_below n (f i)) (numbers_from a m)) ≡ map f (numbers_from a m)
all_present f n a zero h = refl
all_present f n a (suc m) h =
    ap (λ o. present (o ∷ map (λ i. if_below n (f i)) (numbers_from (suc a) m)))
    (some_below n (f a) (f a) (h a (omega arith)) refl)
    ∙ ap (λ zs. f a ∷ zs) (all_present f n (suc a) m (λ i l. h i (omega arith)))

-- What is made of some of the numbers is in the list of what is made of them, and nothing else is.
-- If different things are made of different numbers, nothing is in it twice.
pub among_present : (f : ℕ → Option ℕ) (a n i p : ℕ) → a ≤ i → i < a + n → f i ≡ Some p
    → IsAmong p (present (map f (numbers_from a n)))
among_present f a zero i p l h e = absurd (omega arith)
among_present f a (suc n) i p l h e = ⊎_elim
    (λ (s : i ≡ a). here (f a) (ap f (sym s) ∙ e))
    (λ (ne : i ≡ a → ⊥). later (f a) (among_present f (suc a) n i p (omega arith) (omega arith) e))
    (cases_eq i a)
  where
    here : (o : Option ℕ) → o ≡ Some p → IsAmong p (present (o ∷ map f (numbers_from (suc a) n)))
    here None e = absurd (cc e)
    here (Some q) e = inl (cc e)

    later : (o : Option ℕ) → IsAmong p (present (map f (numbers_from (suc a) n)))
        → IsAmong p (present (o ∷ map f (numbers_from (suc a) n)))
    later None r = r
    later (Some q) r = inr r

pub of_among_present : (f : ℕ → Option ℕ) (a n p : ℕ)
    → IsAmong p (present (map f (numbers_from a n)))
    → (i : ℕ) × (a ≤ i) × (i < a + n) × (f i ≡ Some p)
of_among_present f a zero p h = absurd h
of_among_present f a (suc n) p h = go (f a) refl h (of_among_present f (suc a) n p)
  where
    go : (o : Option ℕ) → f a ≡ o → IsAmong p (present (o ∷ map f (numbers_from (suc a) n)))
        → (IsAmong p (present (map f (numbers_from (suc a) n)))
        → (i : ℕ) × (suc a ≤ i) × (i < suc a + n) × (f i ≡ Some p))
        → (i : ℕ) × (a ≤ i) × (i < a + suc n) × (f i ≡ Some p)
    go None e h ih = let (i, l, m, s) = ih h in (i, omega arith, omega arith, s)
    go (Some q) e h ih = ⊎_elim (λ (s : p ≡ q). (a, omega arith, omega arith, e ∙ ap Some (sym s)))
        (λ r. let (i, l, m, s) = ih r in (i, omega arith, omega arith, s)) h

pub distinct_present : (f : ℕ → Option ℕ) (b : ℕ)
    → ((i j p : ℕ) → i < b → j < b → f i ≡ Some p → f j ≡ Some p → i ≡ j) → (a n : ℕ) → a + n ≤ b
    → AreDistinct (present (map f (numbers_from a n)))
distinct_present f b inj a zero h = tt
distinct_present f b inj a (suc n) h =
    go (f a) refl (distinct_present f b inj (suc a) n (omega arith))
  where
    go : (o : Option ℕ) → f a ≡ o → AreDistinct (present (map f (numbers_from (suc a) n)))
        → AreDistinct (present (o ∷ map f (numbers_from (suc a) n)))
    go None e d = d
    go (Some q) e d = (
      λ r. let (i, l, m, s) = of_among_present f (suc a) n q r in
          let t = inj a i q (omega arith) (omega arith) e s in omega arith,
      d,
    )
