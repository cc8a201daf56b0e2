-- Operands that are named one after another.
use Rattle.std.proofs.Common.{◌≡◌, ℕ, ◌+◌, ◌<◌, Bool, true, false, cond, not, eqb, List, [], ◌∷◌}
use Rattle.std.proofs.Common.{◌++◌, length, get_or, take, map, filter, refl, ap, ◌∙◌, sym, arith}
use Rattle.std.specs.Prelude.{◌||◌}
use Rattle.std.specs.List.{enumerate_from}
use Rattle.std.proofs.lemmas.List.{take_more, length-take, map-append}
use Rattle.std.proofs.lemmas.List.Elements.{filter-append}
use Rattle.command_words.specs.Streams.{is_standard_input}
use Rattle.commands.specs.PasteWords.{column, first_standard, is_own, own_names}

enumerate-push : {X : Type 0} (n : ℕ) (xs : List X) (x : X)
    → enumerate_from n (xs ++ x ∷ []) ≡ enumerate_from n xs ++ (n + length xs, x) ∷ []
enumerate-push n [] x = let e : n ≡ n + 0 = omega arith in ap (λ k. (k, x) ∷ []) e
enumerate-push n (y ∷ ys) x =
    let e : n + 1 + length ys ≡ n + length (y ∷ ys) = omega arith in
    ap (λ ps. (n, y) ∷ ps) (enumerate-push (n + 1) ys x
    ∙ ap (λ k. enumerate_from (n + 1) ys ++ (k, x) ∷ []) e)

-- one operand more, with its place
enumerate_more : (operands : List (List ℕ)) (i : ℕ) → i < length operands
    → enumerate_from 0 (take (i + 1) operands) ≡ enumerate_from 0 (take i operands)
    ++ (i, get_or operands i []) ∷ []
enumerate_more operands i low =
    let long : 0 + length (take i operands) ≡ i = omega (arith, length-take i operands) in
    ap (enumerate_from 0) (take_more operands i [] low)
    ∙ (enumerate-push 0 (take i operands) (get_or operands i [])
    ∙ ap (λ (k : ℕ). enumerate_from 0 (take i operands) ++ (k, get_or operands i []) ∷ []) long)

one_by : (b : Bool) (p : ℕ × List ℕ) → map (λ (q : ℕ × List ℕ). q.1) (cond b (p ∷ []) [])
    ≡ cond b (p.1 ∷ []) []
one_by true p = refl
one_by false p = refl

-- its name, if it is its own
pub own_more : (first : ℕ) (operands : List (List ℕ)) (i : ℕ) → i < length operands
    → own_names first (take (i + 1) operands) ≡ own_names first (take i operands) ++ cond
    (is_own first (i, get_or operands i [])) (get_or operands i [] ∷ []) []
own_more first operands i low =
    let p : ℕ × List ℕ = (i, get_or operands i []) in
    let before = enumerate_from 0 (take i operands) in
    ap (λ (ps : List (ℕ × List ℕ)). map (λ (q : ℕ × List ℕ). q.1) (filter (is_own first) ps))
    (enumerate_more operands i low)
    ∙ (ap (map (λ (q : ℕ × List ℕ). q.1)) (filter-append (is_own first) before (p ∷ []))
    ∙ (map-append (λ (q : ℕ × List ℕ). q.1) (filter (is_own first) before)
    (cond (is_own first p) (p ∷ []) [])
    ∙ ap (λ (xs : List (List ℕ)). own_names first (take i operands) ++ xs)
    (one_by (is_own first p) p)))

-- the number of its input
pub column_more : (operands : List (List ℕ)) (i : ℕ) → i < length operands
    → map (column operands) (enumerate_from 0 (take (i + 1) operands))
    ≡ map (column operands) (enumerate_from 0 (take i operands)) ++ column operands
    (i, get_or operands i []) ∷ []
column_more operands i low =
    ap (map (column operands)) (enumerate_more operands i low)
    ∙ map-append (column operands) (enumerate_from 0 (take i operands))
    ((i, get_or operands i []) ∷ [])

-- the names and numbers after one operand more
pub names_step : (operands : List (List ℕ)) (i first : ℕ) (w : List ℕ) (ns ns' : List (List ℕ))
    → i < length operands → first ≡ first_standard operands → w ≡ get_or operands i []
    → ns ≡ own_names (first_standard operands) (take i operands)
    → ns' ≡ ns ++ cond (eqb i first || not (is_standard_input w)) (w ∷ []) []
    → ns' ≡ own_names (first_standard operands) (take (i + 1) operands)
names_step operands i first w ns ns' low f e before more =
    let k = first_standard operands in
    more
    ∙ (ap (λ (xs : List (List ℕ)). xs ++ cond (eqb i first || not (is_standard_input w)) (w ∷ []) []) before
    ∙ (ap (λ (n : ℕ). own_names k (take i operands) ++ cond (eqb i n || not (is_standard_input w)) (w ∷ [])
    []) f
    ∙ (ap (λ (v : List ℕ). own_names k (take i operands) ++ cond (eqb i k || not (is_standard_input v))
    (v ∷ []) []) e ∙ sym (own_more k operands i low))))

pub columns_step : (operands : List (List ℕ)) (i first count number : ℕ) (w : List ℕ)
    (ns : List (List ℕ)) (cs cs' : List ℕ) → i < length operands → first ≡ first_standard operands
    → w ≡ get_or operands i [] → ns ≡ own_names (first_standard operands) (take i operands)
    → count ≡ length ns → number ≡ cond (is_standard_input w) first count
    → cs ≡ map (column operands) (enumerate_from 0 (take i operands)) → cs' ≡ cs ++ number ∷ []
    → cs' ≡ map (column operands) (enumerate_from 0 (take (i + 1) operands))
columns_step operands i first count number w ns cs cs' low f e names' long is before more =
    let all = map (column operands) (enumerate_from 0 (take i operands)) in
    let right : number ≡ column operands (i, get_or operands i []) =
    is
    ∙ (ap (λ (n : ℕ). cond (is_standard_input w) n count) f
    ∙ (ap (λ (n : ℕ). cond (is_standard_input w) (first_standard operands) n) (long ∙ ap length names')
    ∙ ap (λ (v : List ℕ). cond (is_standard_input v) (first_standard operands)
    (length (own_names (first_standard operands) (take i operands)))) e)) in
    more ∙ (ap (λ (xs : List ℕ). xs ++ number ∷ []) before
    ∙ (ap (λ (n : ℕ). all ++ n ∷ []) right ∙ sym (column_more operands i low)))
