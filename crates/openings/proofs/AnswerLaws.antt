-- Lists of answers with one more, read by place.
use Rattle.std.proofs.Common.{◌≡◌, ◌≢◌, ℕ, zero, suc, ◌<◌, List, [], ◌∷◌, ◌++◌, length, Some, None}
use Rattle.std.proofs.Common.{refl, sym, ap, ◌∙◌}
use Rattle.std.proofs.Common.{get_or}
use Rattle.std.specs.List.{slice_get}
use Rattle.std.proofs.lemmas.Option.{slice_get_read}

-- one more comes after all others
pub slice_get_last : {A : Type 0} (xs : List A) (x : A)
    → slice_get (xs ++ x ∷ []) (length xs) ≡ Some x
slice_get_last [] x = refl
slice_get_last (y ∷ xs) x = slice_get_last xs x

-- every other place has what it had
pub slice_get_others : {A : Type 0} (xs : List A) (x : A) (k : ℕ) → k ≢ length xs
    → slice_get (xs ++ x ∷ []) k ≡ slice_get xs k
slice_get_others [] x zero other = absurd (other refl)
slice_get_others [] x (suc k) other = refl
slice_get_others (y ∷ xs) x zero other = refl
slice_get_others (y ∷ xs) x (suc k) other = slice_get_others xs x k (λ e. other (ap suc e))

-- there was nothing at that place
pub slice_get_none : {A : Type 0} (xs : List A) → slice_get xs (length xs) ≡ None
slice_get_none [] = refl
slice_get_none (y ∷ xs) = slice_get_none xs

-- the place after the answers, as a loop over the openings has it
pub at_place : {X : Type 0} (xs ys : List X) (i n : ℕ) (x : X) → xs ≡ ys → n ≡ i → i < length xs
    → x ≡ get_or xs i x → slice_get ys n ≡ Some x
at_place xs ys i n x same count h is = ap (λ l. slice_get l n) (sym same)
    ∙ (ap (slice_get xs) count ∙ slice_get_read xs (length xs) i x refl h is)
