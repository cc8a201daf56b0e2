-- Tables of rows, and the pairs that they come from.
use Rattle.std.proofs.Common.{◌≡◌, ℕ, ◌+◌, ◌<◌, ◌==◌, Bool, cond, List, [], ◌∷◌, ◌++◌, length, map}
use Rattle.std.proofs.Common.{get_or, set, take, sym, ap, ◌∙◌, ⊎_elim, arith}
use Rattle.std.specs.Global.{Vec}
use Rattle.std.specs.List.{filter}
use Rattle.std.proofs.lemmas.Bool.{cases_eq, eq-eqb, ne_eqb}
use Rattle.std.proofs.lemmas.List.{get_or-set_same, get_or-set_other, length-map, map-append}
use Rattle.std.proofs.lemmas.List.{append-nil, map-set}
use Rattle.std.proofs.lemmas.List.Elements.{filter_more}
use Rattle.graphs.specs.inner.Rows.{links_at}
use Rattle.graphs.specs.inner.Rows.{row}

-- one more pair
row_yes : (ends : List (ℕ × ℕ)) (i k : ℕ) → i < length ends → (get_or ends i (0, 0)).0 ≡ k
    → row (take (i + 1) ends) k ≡ row (take i ends) k ++ (get_or ends i (0, 0)).1 ∷ []
row_yes ends i k lt e =
    ap (λ (xs : List (ℕ × ℕ)). map (λ p. p.1) xs)
    (filter_more (λ (p : ℕ × ℕ). p.0 == k) ends i (0, 0) lt)
    ∙ map-append (λ (p : ℕ × ℕ). p.1) (filter (λ p. p.0 == k) (take i ends))
    (cond ((get_or ends i (0, 0)).0 == k) (get_or ends i (0, 0) ∷ []) [])
    ∙ ap (λ (b : Bool). row (take i ends) k ++ map (λ (p : ℕ × ℕ). p.1)
    (cond b (get_or ends i (0, 0) ∷ []) [])) (eq-eqb (get_or ends i (0, 0)).0 k e)

row_no : (ends : List (ℕ × ℕ)) (i k : ℕ) → i < length ends → ((get_or ends i (0, 0)).0 ≡ k → ⊥)
    → row (take (i + 1) ends) k ≡ row (take i ends) k
row_no ends i k lt ne =
    ap (λ (xs : List (ℕ × ℕ)). map (λ p. p.1) xs)
    (filter_more (λ (p : ℕ × ℕ). p.0 == k) ends i (0, 0) lt)
    ∙ map-append (λ (p : ℕ × ℕ). p.1) (filter (λ p. p.0 == k) (take i ends))
    (cond ((get_or ends i (0, 0)).0 == k) (get_or ends i (0, 0) ∷ []) [])
    ∙ ap (λ (b : Bool). row (take i ends) k ++ map (λ (p : ℕ × ℕ). p.1)
    (cond b (get_or ends i (0, 0) ∷ []) [])) (ne_eqb (get_or ends i (0, 0)).0 k ne)
    ∙ append-nil (row (take i ends) k)

links_set_same : (xs : List (Vec ℕ)) (i : ℕ) (v : Vec ℕ) → i < length xs
    → links_at (set xs i v) i ≡ v.items
links_set_same xs i v lt = ap (λ l. get_or l i []) (map-set (λ (u : Vec ℕ). u.items) xs i v)
    ∙ get_or-set_same (map (λ (u : Vec ℕ). u.items) xs) i v.items []
    (let l = length-map xs (λ (u : Vec ℕ). u.items) in omega arith)

links_set_other : (xs : List (Vec ℕ)) (i k : ℕ) (v : Vec ℕ) → (k ≡ i → ⊥)
    → links_at (set xs i v) k ≡ links_at xs k
links_set_other xs i k v ne = ap (λ l. get_or l k []) (map-set (λ (u : Vec ℕ). u.items) xs i v)
    ∙ get_or-set_other (map (λ (u : Vec ℕ). u.items) xs) i k v.items [] ne

pub rows_more : (ends : List (ℕ × ℕ)) (i : ℕ) (rows : List (Vec ℕ)) (v : Vec ℕ) → i < length ends
    → (get_or ends i (0, 0)).0 < length rows → ((k : ℕ) → links_at rows k ≡ row (take i ends) k)
    → v.items ≡ links_at rows (get_or ends i (0, 0)).0 ++ (get_or ends i (0, 0)).1 ∷ [] → (k : ℕ)
    → links_at (set rows (get_or ends i (0, 0)).0 v) k ≡ row (take (i + 1) ends) k
rows_more ends i rows v lt in' inv e k =
    let from = (get_or ends i (0, 0)).0 in
    let to = (get_or ends i (0, 0)).1 in
    ⊎_elim
    (λ (same : k ≡ from). ap (λ j. links_at (set rows from v) j) same
    ∙ (links_set_same rows from v in'
    ∙ (e ∙ (ap (λ xs. xs ++ to ∷ []) (inv from ∙ ap (λ j. row (take i ends) j) (sym same))
    ∙ sym (row_yes ends i k lt (sym same))))))
    (λ (ne : k ≡ from → ⊥). links_set_other rows from k v ne
    ∙ (inv k ∙ sym (row_no ends i k lt (λ f. ne (sym f)))))
    (cases_eq k from)
