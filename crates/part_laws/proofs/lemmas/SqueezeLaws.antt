-- tr that squeezes: it goes line by line if it keeps newlines apart.
use Rattle.std.proofs.Common.{◌≡◌, ℕ, Bool, true, false, cond, not, eqb, ◌&&◌, List, [], ◌∷◌, ◌++◌}
use Rattle.std.proofs.Common.{Option, Some, None, map, refl, ap, ◌∙◌, sym}
use Rattle.std.proofs.Common.{subst, inl, inr}
use Rattle.std.specs.List.{filter}
use Rattle.std.proofs.lemmas.Bool.{and_left, and_parts, and_right, eqb-true, false≢true, not-false}
use Rattle.std.proofs.lemmas.List.{append-nil, map-append}
use Rattle.std.proofs.lemmas.List.Elements.{filter-append}
use Rattle.machine.specs.Lines.{newline}
use Rattle.commands.specs.declared.spec.FilterSpec.TheVariants as spec
use Rattle.tr_words.specs.declared.tr_words.TrSpec.{TrSpec}
use Rattle.tr_words.specs.Tr.{in_set, last_of, squeezed, stays, translated, with_last}
use Rattle.part_laws.specs.Manners.{GoesByLines, made_of}
use Rattle.part_laws.specs.Utilities.{deletes_newline, newline_becomes}
use Rattle.part_laws.proofs.lemmas.ByteLaws.{translated-append, translated_newline}

with_last-append : (l : Option ℕ) (xs ys : List ℕ)
    → with_last l (xs ++ ys) ≡ with_last l xs ++ with_last (last_of l xs) ys
with_last-append l [] ys = refl
with_last-append l (x ∷ xs) ys = ap (λ (ps : List (Option ℕ × ℕ)). (l, x) ∷ ps)
    (with_last-append (Some x) xs ys)

-- bytes of two parts are squeezed one part after the other
pub squeezed-append : (set : Option (List Bool)) (l : Option ℕ) (xs ys : List ℕ)
    → squeezed set l (xs ++ ys) ≡ squeezed set l xs ++ squeezed set (last_of l xs) ys
squeezed-append set l xs ys =
    ap (λ (ps : List (Option ℕ × ℕ)). map (λ (p : Option ℕ × ℕ). p.1) (filter (stays set) ps))
    (with_last-append l xs ys)
    ∙ (ap (map (λ (p : Option ℕ × ℕ). p.1))
    (filter-append (stays set) (with_last l xs) (with_last (last_of l xs) ys))
    ∙ map-append _ _ _)

pub last_of-push : (l : Option ℕ) (xs : List ℕ) (c : ℕ) → last_of l (xs ++ c ∷ []) ≡ Some c
last_of-push l [] c = refl
last_of-push l (x ∷ xs) c = last_of-push (Some x) xs c

-- a first byte that stays
pub first_stays : (set : Option (List Bool)) (l : Option ℕ) (y : ℕ) (ys : List ℕ)
    → stays set (l, y) ≡ true → squeezed set l (y ∷ ys) ≡ y ∷ squeezed set (Some y) ys
first_stays set l y ys h =
    let later : List (Option ℕ × ℕ) = filter (stays set) (with_last (Some y) ys) in
    ap (λ (b : Bool). map (λ (p : Option ℕ × ℕ). p.1) (cond b ((l, y) ∷ later) later)) h

-- a first byte that goes
pub first_goes : (set : Option (List Bool)) (l : Option ℕ) (y : ℕ) (ys : List ℕ)
    → stays set (l, y) ≡ false → squeezed set l (y ∷ ys) ≡ squeezed set (Some y) ys
first_goes set l y ys h =
    let later : List (Option ℕ × ℕ) = filter (stays set) (with_last (Some y) ys) in
    ap (λ (b : Bool). map (λ (p : Option ℕ × ℕ). p.1) (cond b ((l, y) ∷ later) later)) h

pub stays_first : (set : Option (List Bool)) (y : ℕ) → stays set (None, y) ≡ true
stays_first set y = ap not (and_right (in_set set y) false refl)

-- a byte that goes is in the set, and the byte before it is the same
pub goes_from : (set : Option (List Bool)) (l : Option ℕ) (y : ℕ) → stays set (l, y) ≡ false
    → (in_set set y ≡ true) × (l ≡ Some y)
goes_from set None y h = absurd (false≢true (sym h ∙ stays_first set y))
goes_from set (Some c) y h =
    let both = and_parts (in_set set y) (eqb c y)
    (not-false (in_set set y && eqb c y) h) in
    (both.0, ap (λ (n : ℕ). Some n) (eqb-true c y both.1))

-- a byte after one that is not in the set stays
stays_after : (set : Option (List Bool)) (c y : ℕ) (b : Bool) → eqb c y ≡ b → in_set set c ≡ false
    → stays set (Some c, y) ≡ true
stays_after set c y true e h =
    ap not (and_left (in_set set y) (eqb c y) (ap (in_set set) (sym (eqb-true c y e)) ∙ h))
stays_after set c y false e h = ap not (and_right (in_set set y) (eqb c y) e)

-- after a byte that is not in the set bytes are squeezed anew
squeezed_anew : (set : Option (List Bool)) (c : ℕ) (ys : List ℕ) → in_set set c ≡ false
    → squeezed set (Some c) ys ≡ squeezed set None ys
squeezed_anew set c [] h = refl
squeezed_anew set c (y ∷ ys) h = first_stays set (Some c) y ys
    (stays_after set c y (eqb c y) refl h) ∙ sym (first_stays set None y ys (stays_first set y))

-- a byte that is not in the set stays
pub other_stays : (set : Option (List Bool)) (l : Option ℕ) (c : ℕ) → in_set set c ≡ false
    → squeezed set l (c ∷ []) ≡ c ∷ []
other_stays set l c h = first_stays set l c [] (ap not (and_left (in_set set c) _ h))

-- newlines are neither deleted nor become bytes that are squeezed
pub record KeepsApart (s : TrSpec) : Type 0 where
  pub stays_in : deletes_newline s ≡ false
  pub is_other : in_set s.squeezed (newline_becomes s) ≡ false

pub translated_lines : (s : TrSpec) (front : List ℕ) → deletes_newline s ≡ false
    → translated s (front ++ newline ∷ []) ≡ translated s front ++ newline_becomes s ∷ []
translated_lines s front h = translated-append s front (newline ∷ [])
    ∙ ap (λ (z : List ℕ). translated s front ++ z) (translated_newline s h)

pub tr_plain : (s : TrSpec) (x : List ℕ) → made_of (spec.Tr s) x
    ≡ squeezed s.squeezed None (translated s x)
tr_plain s x = ap (λ (z : List ℕ). squeezed s.squeezed None (translated s z)) (append-nil x)

tr_anew : (s : TrSpec) → KeepsApart s → (front y : List ℕ)
    → made_of (spec.Tr s) ((front ++ newline ∷ []) ++ y)
    ≡ made_of (spec.Tr s) (front ++ newline ∷ []) ++ made_of (spec.Tr s) y
tr_anew s k front y =
    let x = front ++ newline ∷ [] in
    let last : last_of None (translated s x) ≡ Some (newline_becomes s) =
    ap (last_of None) (translated_lines s front k.stays_in)
    ∙ last_of-push None (translated s front) (newline_becomes s) in
    tr_plain s (x ++ y)
    ∙ (ap (squeezed s.squeezed None) (translated-append s x y)
    ∙ (squeezed-append s.squeezed None (translated s x) (translated s y)
    ∙ (ap (λ (l : Option ℕ). squeezed s.squeezed None (translated s x) ++ squeezed s.squeezed l
    (translated s y)) last
    ∙ (ap (λ (z : List ℕ). squeezed s.squeezed None (translated s x) ++ z)
    (squeezed_anew s.squeezed (newline_becomes s) (translated s y) k.is_other)
    ∙ (ap (λ (z : List ℕ). z ++ squeezed s.squeezed None (translated s y)) (sym (tr_plain s x))
    ∙ ap (λ (z : List ℕ). made_of (spec.Tr s) x ++ z) (sym (tr_plain s y)))))))

pub tr_by_lines : (s : TrSpec) → KeepsApart s → GoesByLines (spec.Tr s)
tr_by_lines s k x y w =
    elim w [
      | inl none ↦
          subst (λ (z : List ℕ). made_of (spec.Tr s) (z ++ y)
          ≡ made_of (spec.Tr s) z ++ made_of (spec.Tr s) y) (sym none) refl
      | inr v ↦
          subst (λ (z : List ℕ). made_of (spec.Tr s) (z ++ y)
          ≡ made_of (spec.Tr s) z ++ made_of (spec.Tr s) y) (sym v.1) (tr_anew s k v.0 y)
    ]
