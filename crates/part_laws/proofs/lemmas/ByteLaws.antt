-- Filters that go byte by byte: cat, tee, and tr that squeezes nothing.
use Rattle.std.proofs.Common.{◌≡◌, ℕ, Bool, cond, not, false, List, [], ◌∷◌, ◌++◌, Option, Some}
use Rattle.std.proofs.Common.{None, map, get_or, refl, ap, ◌∙◌, sym}
use Rattle.std.proofs.lemmas.List.{append-nil, map-append}
use Rattle.std.proofs.lemmas.List.Elements.{filter-append}
use Rattle.machine.specs.Lines.{newline}
use Rattle.commands.specs.declared.cat_words.CatSpec.{CatSpec}
use Rattle.commands.specs.declared.tee_words.TeeSpec.{TeeSpec}
use Rattle.commands.specs.declared.spec.FilterSpec.TheVariants as spec
use Rattle.tr_words.specs.declared.tr_words.TrSpec.{TrSpec}
use Rattle.tr_words.specs.Tr.{squeezed, translated}
use Rattle.part_laws.specs.Manners.{GoesByBytes, made_of}
use Rattle.part_laws.specs.Utilities.{deletes_newline, newline_becomes}

joined_apart : (x y : List ℕ) → (x ++ y) ++ [] ≡ (x ++ []) ++ (y ++ [])
joined_apart x y = append-nil (x ++ y)
    ∙ (ap (λ (z : List ℕ). z ++ y) (sym (append-nil x))
    ∙ ap (λ (z : List ℕ). (x ++ []) ++ z) (sym (append-nil y)))

-- cat goes byte by byte
pub cat_by_bytes : (s : CatSpec) → GoesByBytes (spec.Cat s)
cat_by_bytes s x y = joined_apart x y

-- tee goes byte by byte
pub tee_by_bytes : (s : TeeSpec) → GoesByBytes (spec.Tee s)
tee_by_bytes s x y = joined_apart x y

-- the bytes of two parts are translated one after another
pub translated-append : (s : TrSpec) (x y : List ℕ)
    → translated s (x ++ y) ≡ translated s x ++ translated s y
translated-append s x y = ap (map _) (filter-append _ x y) ∙ map-append _ _ _

-- a newline that is not deleted is translated
pub translated_newline : (s : TrSpec) → deletes_newline s ≡ false
    → translated s (newline ∷ []) ≡ newline_becomes s ∷ []
translated_newline s h =
    ap (λ (t : Bool). map (λ y. get_or s.table y 0) (cond (not t) (newline ∷ []) [])) h

-- what tr writes, by the set that it squeezes
abbrev pub tr_out : TrSpec → Option (List Bool) → List ℕ → List ℕ
tr_out s set x = squeezed set None (translated s (x ++ []))

-- no byte is squeezed if no set is given
pub none_squeezed : (last : Option ℕ) (xs : List ℕ) → squeezed None last xs ≡ xs
none_squeezed last [] = refl
none_squeezed last (x ∷ xs) = ap (λ (ys : List ℕ). x ∷ ys) (none_squeezed (Some x) xs)

-- what tr that squeezes nothing writes
pub plain_out : (s : TrSpec) (x : List ℕ) → s.squeezed ≡ None → made_of (spec.Tr s) x ≡ translated s x
plain_out s x e = ap (λ (set : Option (List Bool)). tr_out s set x) e
    ∙ (none_squeezed None (translated s (x ++ [])) ∙ ap (translated s) (append-nil x))

-- tr that squeezes nothing goes byte by byte
pub tr_by_bytes : (s : TrSpec) → s.squeezed ≡ None → GoesByBytes (spec.Tr s)
tr_by_bytes s e x y =
    plain_out s (x ++ y) e
    ∙ (translated-append s x y
    ∙ (ap (λ (z : List ℕ). z ++ translated s y) (sym (plain_out s x e))
    ∙ ap (λ (z : List ℕ). made_of (spec.Tr s) x ++ z) (sym (plain_out s y e))))
