-- Lists that a loop or a chain gathers.
use Rattle.std.proofs.Common.{◌≡◌, ℕ, Bool, zero, suc, ◌+◌, ◌<◌, ◌≤◌, cond, List, [], ◌∷◌, ◌++◌}
use Rattle.std.proofs.Common.{map, length, get_or, take, refl, ap, ap₂, sym, ◌∙◌, arith}
use Rattle.std.proofs.Common.{append_assoc, append-nil, add-one}
use Rattle.std.specs.Prelude.{unwrap_or, nat_lt, Some, None}
use Rattle.std.specs.List.{flat_map, enumerate_from, position, position_or_len, range_with_len}
use Rattle.std.specs.Option.{option_to_list}
use Rattle.std.proofs.lemmas.Bool.Decides.{nat_tests}
use Rattle.std.proofs.lemmas.Grind.{flat_map-append}
use Rattle.std.proofs.lemmas.List.{map-append, take_more, length-take-le}
use Rattle.std.proofs.lemmas.List.Concat.{flat_map-cons}
use Rattle.std.proofs.lemmas.List.Sums.{prefix_len-le-length}
use Rattle.std.proofs.lemmas.Option.{slice_get-get_or}
use Rattle.planner.specs.Places.{Stage}
use Rattle.planner.specs.Tables.{numbers_from, stage_at}

-- the first place that passes, or the length
or_cases : (k n : ℕ) → k ≤ n → unwrap_or (cond (nat_lt k n) (Some k) None) n ≡ k
or_cases k n le = grind (arith, nat_tests)

pub or_length : {X : Type 0} (p : X → Bool) (xs : List X)
    → unwrap_or (position p xs) (length xs) ≡ position_or_len p xs
or_length p xs = or_cases (position_or_len p xs) (length xs) (prefix_len-le-length _ xs)

-- numbers, this many
numbers_are : (a n : ℕ) → range_with_len a n ≡ numbers_from a n
numbers_are a zero = refl
numbers_are a (suc n) = ap (λ ks. a ∷ ks) (ap (λ k. range_with_len k n) (add-one a)
    ∙ numbers_are (suc a) n)

pub map_numbers : {X : Type 0} (f : ℕ → X) (n : ℕ)
    → map f (range_with_len 0 n) ≡ map f (numbers_from 0 n)
map_numbers f n = ap (map f) (numbers_are 0 n)

-- what f gives of each, with one more
pub flat_more : {X A : Type 0} (f : X → List A) (xs : List X) (i : ℕ) (d : X) → i < length xs
    → flat_map f (take (i + 1) xs) ≡ flat_map f (take i xs) ++ f (get_or xs i d)
flat_more f xs i d below =
    let x = get_or xs i d in
    ap (flat_map f) (take_more xs i d below)
    ∙ (flat_map-append f (take i xs) (x ∷ [])
    ∙ ap (λ ys. flat_map f (take i xs) ++ ys) (flat_map-cons f x [] ∙ append-nil (f x)))

-- the stage with an index that is one
stage_is : (stages : List Stage) (k : ℕ) (s : Stage) → k < length stages → s ≡ get_or stages k s
    → stage_at stages k ≡ s ∷ []
stage_is stages k s below is = ap option_to_list (slice_get-get_or stages k s below
    ∙ ap Some (sym is))

-- one more stage in the order
pub stages_more : {A : Type 0} (g : Stage → A) (stages : List Stage) (order : List ℕ) (i : ℕ)
    (s : Stage) (start old new : List A) → i < length order → get_or order i 0 < length stages
    → s ≡ get_or stages (get_or order i 0) s
    → old ≡ start ++ map g (flat_map (stage_at stages) (take i order)) → new ≡ old ++ g s ∷ []
    → new ≡ start ++ map g (flat_map (stage_at stages) (take (i + 1) order))
stages_more g stages order i s start old new below within is was adds =
    let before = flat_map (stage_at stages) (take i order) in
    let one = flat_more (stage_at stages) order i 0 below
    ∙ ap (λ ss. before ++ ss) (stage_is stages (get_or order i 0) s within is) in
    adds
    ∙ (ap (λ ys. ys ++ g s ∷ []) was
    ∙ (append_assoc start (map g before) (g s ∷ [])
    ∙ ap (λ ys. start ++ ys) (sym (ap (map g) one ∙ map-append g before (s ∷ [])))))

-- elements with their numbers, with one more
enumerate_append : {X : Type 0} (n : ℕ) (xs ys : List X)
    → enumerate_from n (xs ++ ys) ≡ enumerate_from n xs ++ enumerate_from (n + length xs) ys
enumerate_append n [] ys = ap (λ k. enumerate_from k ys) (omega arith)
enumerate_append n (x ∷ xs) ys =
    ap (λ zs. (n, x) ∷ zs) (enumerate_append (n + 1) xs ys
    ∙ ap (λ k. enumerate_from (n + 1) xs ++ enumerate_from k ys) (omega arith))

enumerate_more : {X : Type 0} (n : ℕ) (xs : List X) (i k : ℕ) (x : X) → i < length xs
    → x ≡ get_or xs i x → k ≡ n + i → enumerate_from n (take (i + 1) xs)
    ≡ enumerate_from n (take i xs) ++ (k, x) ∷ []
enumerate_more {X} n xs i k x below is number =
    let at : n + length (take i xs) ≡ k = ap (λ j. n + j) (length-take-le i xs (omega arith))
    ∙ sym number in
    ap (enumerate_from n) (take_more xs i x below)
    ∙ (enumerate_append n (take i xs) (get_or xs i x ∷ [])
    ∙ ap₂ (λ (j : ℕ) (y : X). enumerate_from n (take i xs) ++ (j, y) ∷ []) at (sym is))

pub numbered_more : {X A : Type 0} (f : ℕ × X → List A) (n : ℕ) (xs : List X) (i k : ℕ) (x : X)
    (start old new : List A) → i < length xs → x ≡ get_or xs i x → k ≡ n + i
    → old ≡ start ++ flat_map f (enumerate_from n (take i xs)) → new ≡ old ++ f (k, x)
    → new ≡ start ++ flat_map f (enumerate_from n (take (i + 1) xs))
numbered_more f n xs i k x start old new below is number was adds =
    let before = enumerate_from n (take i xs) in
    let one = flat_map-append f before ((k, x) ∷ [])
    ∙ ap (λ ys. flat_map f before ++ ys) (flat_map-cons f (k, x) [] ∙ append-nil (f (k, x))) in
    adds
    ∙ (ap (λ ys. ys ++ f (k, x)) was
    ∙ (append_assoc start (flat_map f before) (f (k, x))
    ∙ ap (λ ys. start ++ ys) (sym (ap (flat_map f) (enumerate_more n xs i k x below is number)
    ∙ one))))
