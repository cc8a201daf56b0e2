-- The law of tr's machine as a piece comes.
use Rattle.std.proofs.Common.{◌≡◌, ℕ, List, [], ◌∷◌, ◌++◌, Bool, true, false, cond, ap, ◌∙◌, sym}
use Rattle.std.proofs.Common.{refl, Option, Some, None, map, get_or, not, length, suc, ◌<◌, arith}
use Rattle.std.specs.List.{filter}
use Rattle.std.specs.Prelude.{is_some}
use Rattle.std.proofs.lemmas.List.{map-append}
use Rattle.tr_filter.specs.declared.tr.Tr.{Tr}
use Rattle.tr_words.specs.declared.tr_words.TrSpec.{TrSpec}
use Rattle.tr_filter.specs.declared.change.Change.{Change}
use Rattle.tr_filter.specs.declared.change.Change.TheVariants.{Leaves, Shifts, Moved, Ranged, Maps}
use Rattle.tr_filter.specs.declared.change.Change.TheVariants.{Deletes, Translates}
use Rattle.tr_filter.specs.declared.tr.Way.{Way}
use Rattle.tr_filter.specs.Covers.{IsPlain}
use Rattle.tr_filter.specs.Moves.{moves_table}
use Rattle.tr_filter.specs.Ranges.{ranges_table}
use Rattle.tr_filter.specs.Shifts.{changed, made_by, shift_table, squeezed_set}
use Rattle.tr_words.specs.Tr.{translated, squeezed, last_of, in_set}
use Rattle.tr_filter.specs.TrShows.{tr_rest}
use Rattle.tr_filter.proofs.lemmas.TrLaws.{translated-append, squeezed-append}

-- what the machine would put out of a piece and what follows it
pub tr_splits : (m : Tr) (piece ys : List ℕ) (last : Option ℕ) → m.input.present ≡ true
    → made_by m.spec m.last (piece ++ ys) ≡ made_by m.spec m.last piece ++ made_by m.spec last ys
    → tr_rest m (piece ++ ys) ≡ made_by m.spec m.last piece ++ tr_rest (record m { last = last }) ys
tr_splits m piece ys last here on =
    ap (λ (b : Bool). cond b (made_by m.spec m.last (piece ++ ys)) []) here
    ∙ (on ∙ ap (λ (x : List ℕ). made_by m.spec m.last piece ++ x)
    (ap (λ (b : Bool). cond b (made_by m.spec last ys) []) (sym here)))

-- bytes in two parts
pub changed-append : (c : Change) (xs ys : List ℕ)
    → changed c (xs ++ ys) ≡ changed c xs ++ changed c ys
changed-append (Leaves plain) xs ys = map-append (λ x. get_or plain.table x 0) xs ys
changed-append (Shifts shift) xs ys = map-append (λ x. get_or (shift_table shift) x 0) xs ys
changed-append (Moved ms) xs ys = map-append (λ x. get_or (moves_table ms) x 0) xs ys
changed-append (Ranged rs) xs ys = map-append (λ x. get_or (ranges_table rs) x 0) xs ys
changed-append (Maps table) xs ys = map-append (λ x. get_or table x 0) xs ys
changed-append (Deletes d) xs ys = translated-append d.spec xs ys
changed-append (Translates spec) xs ys = translated-append spec xs ys

-- what is made of bytes in two parts
pub made_split : (way : Way) (last next : Option ℕ) (xs ys : List ℕ)
    → ((zs : List ℕ) → squeezed (squeezed_set way.squeezing)
    (last_of last (changed way.change xs)) zs ≡ squeezed (squeezed_set way.squeezing) next zs)
    → made_by way last (xs ++ ys) ≡ made_by way last xs ++ made_by way next ys
made_split way last next xs ys same =
    let set = squeezed_set way.squeezing in
    ap (squeezed set last) (changed-append way.change xs ys)
    ∙ (squeezed-append set last (changed way.change xs) (changed way.change ys)
    ∙ ap (λ (z : List ℕ). squeezed set last (changed way.change xs) ++ z)
    (same (changed way.change ys)))

-- with no set nothing is squeezed, whatever came before
pub squeezed_none : (l : Option ℕ) (xs : List ℕ) → squeezed None l xs ≡ xs
squeezed_none l [] = refl
squeezed_none l (x ∷ xs) = ap (λ (ys : List ℕ). x ∷ ys) (squeezed_none (Some x) xs)

pub filter_all : (xs : List ℕ) → filter (λ _. true) xs ≡ xs
filter_all [] = refl
filter_all (x ∷ xs) = ap (λ (ys : List ℕ). x ∷ ys) (filter_all xs)

-- if nothing is deleted, what is left is the map
pub unthinned : (spec : TrSpec) (xs : List ℕ) → spec.deleted ≡ None
    → map (λ x. get_or spec.table x 0) xs ≡ translated spec xs
unthinned spec xs d =
    sym (ap (λ (o : Option (List Bool)). map (λ x. get_or spec.table x 0)
    (filter (λ x. not (in_set o x)) xs)) d
    ∙ ap (map (λ x. get_or spec.table x 0)) (filter_all xs))

-- a plain table changes no byte
pub map_plain : (table xs : List ℕ) → IsPlain table
    → ((k : ℕ) → k < length xs → get_or xs k 0 < 256) → map (λ x. get_or table x 0) xs ≡ xs
map_plain table [] plain small = refl
map_plain table (x ∷ xs) plain small = ap (λ (y : ℕ). y ∷ map (λ x. get_or table x 0) xs)
    (plain x (small 0 (omega arith)))
    ∙ ap (λ (z : List ℕ). x ∷ z)
    (map_plain table xs plain (λ k h. small (suc k) (omega (arith, h))))

pub squeezed_same : (set : Option (List Bool)) (l l' : Option ℕ) → set ≡ None → (zs : List ℕ)
    → squeezed set l zs ≡ squeezed set l' zs
squeezed_same set l l' s zs =
    ap (λ (o : Option (List Bool)). squeezed o l zs) s
    ∙ (squeezed_none l zs ∙ (sym (squeezed_none l' zs)
    ∙ ap (λ (o : Option (List Bool)). squeezed o l' zs) (sym s)))

pub none_from : (o : Option (List Bool)) → is_some o ≡ false → o ≡ None
none_from None h = refl
none_from (Some x) h = cc
