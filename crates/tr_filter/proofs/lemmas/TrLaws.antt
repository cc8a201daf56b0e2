-- tr of two parts of a list.
use Rattle.std.proofs.Common.{drop, set, ◌≤◌, cond, arith, take, get_or, length, ◌<◌, ◌+◌, sym}
use Rattle.std.proofs.Common.{true, false, cond, not, ◌≡◌, ℕ, List, [], ◌∷◌, ◌++◌, Bool, Option}
use Rattle.std.proofs.Common.{Some, ap, ◌∙◌, refl, map}
use Rattle.std.specs.List.{filter}
use Rattle.std.proofs.lemmas.List.{map-append, take_more_set, take-set, drop_more, append-nil}
use Rattle.std.proofs.lemmas.List.Elements.{filter-append}
use Rattle.tr_words.specs.declared.tr_words.TrSpec.{TrSpec}
use Rattle.tr_words.specs.Tr.{translated, with_last, stays, squeezed, last_of, in_set}

pub translated-append : (spec : TrSpec) (xs ys : List ℕ)
    → translated spec (xs ++ ys) ≡ translated spec xs ++ translated spec ys
translated-append spec xs ys = ap (map _) (filter-append _ xs ys) ∙ map-append _ _ _

pub with_last-append : (l : Option ℕ) (xs ys : List ℕ)
    → with_last l (xs ++ ys) ≡ with_last l xs ++ with_last (last_of l xs) ys
with_last-append l [] ys = refl
with_last-append l (x ∷ xs) ys = ap (λ (ps : List (Option ℕ × ℕ)). (l, x) ∷ ps)
    (with_last-append (Some x) xs ys)

pub squeezed-append : (set : Option (List Bool)) (l : Option ℕ) (xs ys : List ℕ)
    → squeezed set l (xs ++ ys) ≡ squeezed set l xs ++ squeezed set (last_of l xs) ys
squeezed-append set l xs ys =
    ap (λ (ps : List (Option ℕ × ℕ)). map (λ (p : Option ℕ × ℕ). p.1) (filter (stays set) ps))
    (with_last-append l xs ys)
    ∙ (ap (map (λ (p : Option ℕ × ℕ). p.1))
    (filter-append (stays set) (with_last l xs) (with_last (last_of l xs) ys))
    ∙ map-append _ _ _)

pub last_of-append : (l : Option ℕ) (xs ys : List ℕ)
    → last_of l (xs ++ ys) ≡ last_of (last_of l xs) ys
last_of-append l [] ys = refl
last_of-append l (x ∷ xs) ys = last_of-append (Some x) xs ys

pub first_of_rest : (xs bs : List ℕ) (i : ℕ) → i < length xs → i < length bs → drop i bs ≡ drop i xs
    → (get_or bs i 0 ≡ get_or xs i 0) × (drop (i + 1) bs ≡ drop (i + 1) xs)
first_of_rest xs bs i l k e =
    let h : get_or bs i 0 ∷ drop (i + 1) bs ≡ get_or xs i 0 ∷ drop (i + 1) xs =
    sym (drop_more bs i 0 k) ∙ (e ∙ drop_more xs i 0 l) in
    (cc, cc)

-- a byte that is deleted or not
pub kept_byte : (spec : TrSpec) (x : ℕ) → in_set spec.deleted x ≡ false
    → translated spec (x ∷ []) ≡ get_or spec.table x 0 ∷ []
kept_byte spec x h = ap (λ (t : Bool). map (λ y. get_or spec.table y 0) (cond (not t) (x ∷ []) []))
    h

pub deleted_byte : (spec : TrSpec) (x : ℕ) → in_set spec.deleted x ≡ true
    → translated spec (x ∷ []) ≡ []
deleted_byte spec x h =
    ap (λ (t : Bool). map (λ y. get_or spec.table y 0) (cond (not t) (x ∷ []) [])) h

pub at_most_one_more : (b : Bool) (kept i : ℕ) → kept ≤ i → cond b (kept + 1) kept ≤ i + 1
at_most_one_more true kept i h = omega arith
at_most_one_more false kept i h = omega arith

pub placed_by : (b : Bool) (l : Option ℕ) (bs : List ℕ) (kept c : ℕ) → kept < length bs
    → take (cond b (kept + 1) kept) (set bs kept c)
    ≡ take kept bs ++ map (λ (p : Option ℕ × ℕ). p.1) (cond b ((l, c) ∷ []) [])
placed_by true l bs kept c lt = take_more_set bs kept c lt
placed_by false l bs kept c lt = take-set bs kept c ∙ sym (append-nil (take kept bs))

-- what one write at `kept` leaves at the front
pub placed : (set' : Option (List Bool)) (l : Option ℕ) (bs : List ℕ) (kept c : ℕ)
    → kept < length bs → take (cond (stays set' (l, c)) (kept + 1) kept) (set bs kept c)
    ≡ take kept bs ++ squeezed set' l (c ∷ [])
placed set' l bs kept c lt = placed_by (stays set' (l, c)) l bs kept c lt
