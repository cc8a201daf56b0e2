-- Lists that are looked up by number. Each member has a log.
use Rattle.std.proofs.Common.{◌≡◌, ◌≢◌, ℕ, zero, suc, ◌<◌, List, [], ◌∷◌, ◌++◌, length, get_or, set}
use Rattle.std.proofs.Common.{Some, None, IsSome, refl, sym, ap, ◌∙◌, subst, ⊎_elim, arith}
use Rattle.std.specs.List.{slice_get}
use Rattle.std.specs.Option.{option_map}
use Rattle.std.proofs.lemmas.Bool.{cases_eq}
use Rattle.std.proofs.lemmas.Option.{slice_get_past}

module _ {A L : Type 0} (f : A → L) where
  pub log_past : (xs : List A) → option_map f (slice_get xs (length xs)) ≡ None
  log_past xs = ap (option_map f) (slice_get_past xs (length xs) (omega arith))

  pub log_new : (xs : List A) (x : A) → option_map f (slice_get (xs ++ x ∷ []) (length xs))
      ≡ Some (f x)
  log_new [] x = refl
  log_new (y ∷ xs) x = log_new xs x

  pub log_others : (xs : List A) (x : A) (k : ℕ) → k ≢ length xs
      → option_map f (slice_get (xs ++ x ∷ []) k) ≡ option_map f (slice_get xs k)
  log_others [] x zero ne = absurd (ne refl)
  log_others [] x (suc k) ne = refl
  log_others (y ∷ xs) x zero ne = refl
  log_others (y ∷ xs) x (suc k) ne = log_others xs x k (λ e. ne (ap suc e))

  pub log_set : (xs : List A) (k : ℕ) (x : A) → k < length xs
      → option_map f (slice_get (set xs k x) k) ≡ Some (f x)
  log_set [] k x h = absurd (omega arith)
  log_set (y ∷ xs) zero x h = refl
  log_set (y ∷ xs) (suc k) x h = log_set xs k x (omega arith)

  pub log_set_others : (xs : List A) (k : ℕ) (x : A) (j : ℕ) → j ≢ k
      → option_map f (slice_get (set xs k x) j) ≡ option_map f (slice_get xs j)
  log_set_others [] k x j ne = refl
  log_set_others (y ∷ xs) zero x zero ne = absurd (ne refl)
  log_set_others (y ∷ xs) zero x (suc j) ne = refl
  log_set_others (y ∷ xs) (suc k) x zero ne = refl
  log_set_others (y ∷ xs) (suc k) x (suc j) ne = log_set_others xs k x j (λ e. ne (ap suc e))

  pub log_within : (xs : List A) (k : ℕ) → IsSome (option_map f (slice_get xs k)) → k < length xs
  log_within [] k s = absurd (cc s)
  log_within (y ∷ xs) zero s = omega arith
  log_within (y ∷ xs) (suc k) s = let h = log_within xs k s in omega arith

  pub log_at : (xs : List A) (k : ℕ) (d : A) → k < length xs
      → option_map f (slice_get xs k) ≡ Some (f (get_or xs k d))
  log_at [] k d h = absurd (omega arith)
  log_at (y ∷ xs) zero d h = refl
  log_at (y ∷ xs) (suc k) d h = log_at xs k d (omega arith)

  -- a member was replaced by one with the same log
  pub log_set_same : (xs : List A) (k : ℕ) (x d : A) → k < length xs → f x ≡ f (get_or xs k d)
      → (j : ℕ) → option_map f (slice_get (set xs k x) j) ≡ option_map f (slice_get xs j)
  log_set_same xs k x d h e j = ⊎_elim
      (λ own. subst (λ (i : ℕ). option_map f (slice_get (set xs k x) i)
      ≡ option_map f (slice_get xs i)) (sym own) (log_set xs k x h
      ∙ (ap (λ (l : L). Some l) e ∙ sym (log_at xs k d h))))
      (λ ne. log_set_others xs k x j ne)
      (cases_eq j k)
