-- Whether a list has a thing of some kind, one thing longer.
use Rattle.std.proofs.Common.{◌≡◌, ℕ, ◌+◌, ◌<◌, ◌≤◌, List, length, take, get_or, sym, ap, ◌∙◌}
use Rattle.std.proofs.Common.{subst, ⊎_elim, arith}
use Rattle.std.specs.List.{Contains}
use Rattle.std.proofs.lemmas.Bool.{cases_lt}
use Rattle.std.proofs.lemmas.List.{length-take-le, get_or-take, get_or_default}

module _ {A : Type 0} (P : A → Type 0) (xs : List A) (i : ℕ) (x : A) (lt : i < length xs)
    (is : x ≡ get_or xs i x) where
  -- none of the first things is of the kind, nor is the next
  pub none_more : (P x → ⊥) → ((y : A) × Contains (take i xs) y × P y → ⊥)
      → (y : A) × Contains (take (i + 1) xs) y × P y → ⊥
  none_more not none (y, (j, l, e), p) =
      let n = length-take-le (i + 1) xs (omega arith) in
      let m = length-take-le i xs (omega arith) in
      let f : get_or xs j y ≡ y = sym (get_or-take (i + 1) xs j y (omega (arith, l, n))) ∙ e in
      ⊎_elim
      (λ (h : j < i). none (y, (j, omega (arith, h, m), get_or-take i xs j y h ∙ f), p))
      (λ (h : i ≤ j).
      let s : j ≡ i = omega (arith, l, n, h) in
      let g : y ≡ x = sym f ∙ (ap (λ k. get_or xs k y) s ∙ (get_or_default xs i y x lt ∙ sym is)) in
      not (subst P g p))
      (cases_lt j i)

  -- this one is
  pub one_is : P x → (y : A) × Contains xs y × P y
  one_is p = (x, (i, lt, sym is), p)
