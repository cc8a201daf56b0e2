-- Tests that no element of a list passes, and bytes that a text has or has not.
use Rattle.std.proofs.Common.{◌≡◌, ℕ, ◌+◌, ◌-◌, Bool, true, false, eqb, List, [], ◌∷◌, take, drop}
use Rattle.std.proofs.Common.{refl, ap, ◌∙◌}
use Rattle.std.specs.List.{All, list_any}
use Rattle.std.proofs.lemmas.Bool.{eq-eqb, or_from, or_left, or_right}
use Rattle.std.proofs.lemmas.List.Elements.{All-head, All-tail}
use Rattle.std.proofs.lemmas.List.Folds.{list_any-append}
use Rattle.machine.specs.inner.Places.{FirstFrom}
use Rattle.commands.specs.Cut.{has_byte}

pub any_none : {X : Type 0} (p : X → Bool) (xs : List X) → All (λ x. p x ≡ false) xs
    → list_any p xs ≡ false
any_none p [] h = refl
any_none p (x ∷ xs) h = or_from (p x) (list_any p xs) (All-head (λ x. p x ≡ false) x xs h)
    (any_none p xs (All-tail (λ x. p x ≡ false) x xs h))

-- a content with the delimiter, and one without it
pub has_none : (d : ℕ) (xs : List ℕ) → All (λ x. eqb x d ≡ false) xs → has_byte d xs ≡ false
has_none d xs h = any_none (λ x. eqb x d) xs h

pub has_first : (d : ℕ) (xs : List ℕ) (k : ℕ) → FirstFrom xs d 0 k → has_byte d xs ≡ true
has_first d xs k f =
    ap (has_byte d) f.here
    ∙ (list_any-append (λ x. eqb x d) (take (k - 0) xs) (d ∷ drop (k + 1) xs)
    ∙ or_right (has_byte d (take (k - 0) xs)) (has_byte d (d ∷ drop (k + 1) xs))
    (or_left (eqb d d) (has_byte d (drop (k + 1) xs)) (eq-eqb d d refl)))
