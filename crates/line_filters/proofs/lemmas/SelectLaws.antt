-- The members of a list whose numbers are selected.
use Rattle.std.proofs.Common.{◌≡◌, ℕ, ◌+◌, ◌-◌, ◌<◌, ◌≤◌, Bool, true, false, cond, List, [], ◌∷◌}
use Rattle.std.proofs.Common.{◌++◌, map, length, take, drop, refl, ap, ◌∙◌, sym, arith}
use Rattle.std.specs.List.{enumerate_from, filter}
use Rattle.std.proofs.lemmas.List.{take-append-drop, drop-drop, length-take, length-drop}
use Rattle.line_filters.specs.inner.Ranges.{IsNoneBetween, IsNoneFrom}
use Rattle.commands.specs.Selections.{selected_from}

selected_by : {X : Type 0} (selects : ℕ → Bool) (n : ℕ) (b : Bool) (x : X) (xs : List X)
    → map (λ (p : ℕ × X). p.1)
    (cond b ((n, x) ∷ filter (λ (p : ℕ × X). selects p.0) (enumerate_from (n + 1) xs))
    (filter (λ (p : ℕ × X). selects p.0) (enumerate_from (n + 1) xs)))
    ≡ cond b (x ∷ selected_from selects (n + 1) xs) (selected_from selects (n + 1) xs)
selected_by selects n true x xs = refl
selected_by selects n false x xs = refl

pub selected-cons : {X : Type 0} (selects : ℕ → Bool) (n : ℕ) (x : X) (xs : List X)
    → selected_from selects n (x ∷ xs) ≡ cond (selects n) (x ∷ selected_from selects (n + 1) xs)
    (selected_from selects (n + 1) xs)
selected-cons selects n x xs = selected_by selects n (selects n) x xs

pub cond_append : {X : Type 0} (b : Bool) (x : X) (xs ys : List X)
    → cond b (x ∷ (xs ++ ys)) (xs ++ ys) ≡ cond b (x ∷ xs) xs ++ ys
cond_append true x xs ys = refl
cond_append false x xs ys = refl

pub selected-append : {X : Type 0} (selects : ℕ → Bool) (n m : ℕ) (xs ys : List X)
    → m ≡ n + length xs → selected_from selects n (xs ++ ys)
    ≡ selected_from selects n xs ++ selected_from selects m ys
selected-append selects n m [] ys e =
    let same : n ≡ m = omega arith in
    ap (λ (k : ℕ). selected_from selects k ys) same
selected-append selects n m (x ∷ xs) ys e =
    let e' : m ≡ (n + 1) + length xs = omega (arith, e) in
    selected-cons selects n x (xs ++ ys)
    ∙ (ap (λ zs. cond (selects n) (x ∷ zs) zs) (selected-append selects (n + 1) m xs ys e')
    ∙ (cond_append (selects n) x (selected_from selects (n + 1) xs) (selected_from selects m ys)
    ∙ ap (λ zs. zs ++ selected_from selects m ys) (sym (selected-cons selects n x xs))))

-- none of them is selected
pub selected_none : {X : Type 0} (selects : ℕ → Bool) (n m : ℕ) (xs : List X) → n + length xs ≤ m
    → IsNoneBetween selects n m → selected_from selects n xs ≡ []
selected_none selects n m [] h none = refl
selected_none selects n m (x ∷ xs) h none =
    selected-cons selects n x xs
    ∙ (ap (λ (b : Bool). cond b (x ∷ selected_from selects (n + 1) xs)
    (selected_from selects (n + 1) xs)) (none n (omega arith) (omega (arith, h)))
    ∙ selected_none selects (n + 1) m xs (omega (arith, h))
    (λ k low high. none k (omega arith) high))

-- each of them is selected
pub selected_all : {X : Type 0} (selects : ℕ → Bool) (n m : ℕ) (xs : List X) → n + length xs ≤ m
    → ((k : ℕ) → n ≤ k → k < m → selects k ≡ true) → selected_from selects n xs ≡ xs
selected_all selects n m [] h all = refl
selected_all selects n m (x ∷ xs) h all =
    selected-cons selects n x xs
    ∙ (ap (λ (b : Bool). cond b (x ∷ selected_from selects (n + 1) xs)
    (selected_from selects (n + 1) xs)) (all n (omega arith) (omega (arith, h)))
    ∙ ap (λ ys. x ∷ ys) (selected_all selects (n + 1) m xs (omega (arith, h))
    (λ k low high. all k (omega arith) high)))

pub none_from_selected : {X : Type 0} (selects : ℕ → Bool) (n : ℕ) (xs : List X)
    → IsNoneFrom selects n → selected_from selects n xs ≡ []
none_from_selected selects n xs none = selected_none selects n (n + length xs) xs (omega arith)
    (λ k low high. none k low)

-- what follows a is what is between a and b, and what follows b
pub drop_parts : {X : Type 0} (a b : ℕ) (xs : List X) → a ≤ b
    → drop a xs ≡ take (b - a) (drop a xs) ++ drop b xs
drop_parts a b xs h =
    let e : a + (b - a) ≡ b = omega arith in
    sym (take-append-drop (b - a) (drop a xs))
    ∙ ap (λ ys. take (b - a) (drop a xs) ++ ys) (drop-drop (b - a) a xs
    ∙ ap (λ (k : ℕ). drop k xs) e)

pub length_between : {X : Type 0} (a b : ℕ) (xs : List X) → a ≤ b → b ≤ length xs
    → length (take (b - a) (drop a xs)) ≡ b - a
length_between a b xs h k = omega (arith, length-take (b - a) (drop a xs), length-drop a xs)

-- members that are passed, and members that are taken
pub selected_past : {X : Type 0} (selects : ℕ → Bool) (n m a b : ℕ) (xs : List X) → a ≤ b
    → b ≤ length xs → m ≡ n + (b - a) → IsNoneBetween selects n m
    → selected_from selects n (drop a xs) ≡ selected_from selects m (drop b xs)
selected_past selects n m a b xs h k e none =
    let long : length (take (b - a) (drop a xs)) ≡ b - a = length_between a b xs h k in
    ap (selected_from selects n) (drop_parts a b xs h)
    ∙ (selected-append selects n m (take (b - a) (drop a xs)) (drop b xs) (omega (arith, long, e))
    ∙ ap (λ ys. ys ++ selected_from selects m (drop b xs))
    (selected_none selects n m (take (b - a) (drop a xs)) (omega (arith, long, e)) none))

pub selected_range : {X : Type 0} (selects : ℕ → Bool) (n m a b : ℕ) (xs : List X) → a ≤ b
    → b ≤ length xs → m ≡ n + (b - a) → ((k : ℕ) → n ≤ k → k < m → selects k ≡ true)
    → selected_from selects n (drop a xs) ≡ take (b - a) (drop a xs) ++ selected_from selects m
    (drop b xs)
selected_range selects n m a b xs h k e all =
    let long : length (take (b - a) (drop a xs)) ≡ b - a = length_between a b xs h k in
    ap (selected_from selects n) (drop_parts a b xs h)
    ∙ (selected-append selects n m (take (b - a) (drop a xs)) (drop b xs) (omega (arith, long, e))
    ∙ ap (λ ys. ys ++ selected_from selects m (drop b xs))
    (selected_all selects n m (take (b - a) (drop a xs)) (omega (arith, long, e)) all))
