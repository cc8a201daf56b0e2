-- Rows that are written cell by cell.
use Rattle.std.proofs.Common.{◌≡◌, ℕ, ◌+◌, ◌-◌, ◌*◌, ◌<◌, ◌≤◌, Bool, true, false, cond, List, ◌∷◌}
use Rattle.std.proofs.Common.{◌++◌, Option, length, get_or, drop, refl, ap, ◌∙◌, sym, subst, arith}
use Rattle.std.proofs.lemmas.List.{drop_all, drop_more}
use Rattle.std.proofs.Math.Nat.{mul-le-mul_right}
use Rattle.pair_filters.specs.Intakes.{Left, intake, bytes_left, lines_with, AreOver, SameInputs}
use Rattle.pair_filters.specs.TableRows.{still_written, still_behind}
use Rattle.pair_filters.specs.inner.TableSteps.{still_at, columns_left, PutsCell, LeavesCell}
use Rattle.pair_filters.specs.inner.TableSteps.{IsSettled, WritesCells}
use Rattle.pair_filters.specs.declared.table.Place.{Place}

pub written_none : (delimiters : List (Option ℕ)) (columns : List ℕ) (intakes : List Left)
    (place : Place) (made : List ℕ)
    → WritesCells delimiters columns intakes intakes place place made made
written_none delimiters columns intakes place made =
    record { same = record { count = refl; closed = λ j. refl }; splits = λ ys h. refl }

pub inputs_on : (a b c : List Left) → SameInputs a b → SameInputs b c → SameInputs a c
inputs_on a b c p q = record { count = q.count ∙ p.count; closed = λ j. q.closed j ∙ p.closed j }

over_on : (a b : List Left) (ys : ℕ → List ℕ) → SameInputs a b → AreOver a ys → AreOver b ys
over_on a b ys same h j k = h j (sym (same.closed j) ∙ k)

-- what is still written if a column is next
at_column : (delimiters : List (Option ℕ)) (columns : List ℕ) (intakes : List Left) (place : Place)
    (i : ℕ) (ys : ℕ → List ℕ) → place.column < length columns → i ≡ get_or columns place.column 0
    → still_at delimiters columns place (lines_with intakes ys)
    ≡ still_written delimiters columns place.column place.begun
    (i ∷ drop (place.column + 1) columns) (lines_with intakes ys)
at_column delimiters columns intakes place i ys low e =
    ap (λ (l : List ℕ). still_written delimiters columns place.column place.begun l
    (lines_with intakes ys))
    (drop_more columns place.column 0 low
    ∙ ap (λ (x : ℕ). x ∷ drop (place.column + 1) columns) (sym e))

-- a cell that has ended
pub written_more : (delimiters : List (Option ℕ)) (columns : List ℕ) (s s1 s2 : List Left)
    (p p1 p2 p3 : Place) (m m1 m2 m3 : List ℕ) (i : ℕ) (ended : Bool) → ended ≡ true
    → p1.column < length columns → i ≡ get_or columns p1.column 0
    → WritesCells delimiters columns s s1 p p1 m m1 → PutsCell delimiters i s1 s2 p1 p2 ended m1 m2
    → LeavesCell delimiters columns p2 p3 m2 m3 → WritesCells delimiters columns s s2 p p3 m m3
written_more delimiters columns s s1 s2 p p1 p2 p3 m m1 m2 m3 i ended over low e w q l =
    record {
      same = inputs_on s s1 s2 w.same q.same;
      splits = λ ys h.
          let left = drop (p1.column + 1) columns in
          let ls = lines_with s2 ys in
          w.splits ys h
          ∙ (ap (λ (x : List ℕ). m1 ++ x) (at_column delimiters columns s1 p1 i ys low e)
          ∙ (q.splits columns left ys (over_on s s1 ys w.same h)
          ∙ (ap (λ (b : Bool). m2 ++ cond b
          (still_behind delimiters columns p2.column p2.begun left ls)
          (still_written delimiters columns p2.column p2.begun (i ∷ left) ls)) over
          ∙ (ap (λ (c : ℕ). m2 ++ still_behind delimiters columns p2.column p2.begun
          (drop (c + 1) columns) ls) (sym q.column) ∙ l.splits ls))));
    }

-- one that has not
pub written_part : (delimiters : List (Option ℕ)) (columns : List ℕ) (s s1 s2 : List Left)
    (p p1 p2 : Place) (m m1 m2 : List ℕ) (i : ℕ) (ended : Bool) → ended ≡ false
    → p1.column < length columns → i ≡ get_or columns p1.column 0
    → WritesCells delimiters columns s s1 p p1 m m1 → PutsCell delimiters i s1 s2 p1 p2 ended m1 m2
    → WritesCells delimiters columns s s2 p p2 m m2
written_part delimiters columns s s1 s2 p p1 p2 m m1 m2 i ended more low e w q =
    record {
      same = inputs_on s s1 s2 w.same q.same;
      splits = λ ys h.
          let left = drop (p1.column + 1) columns in
          let ls = lines_with s2 ys in
          w.splits ys h
          ∙ (ap (λ (x : List ℕ). m1 ++ x) (at_column delimiters columns s1 p1 i ys low e)
          ∙ (q.splits columns left ys (over_on s s1 ys w.same h)
          ∙ (ap (λ (b : Bool). m2 ++ cond b
          (still_behind delimiters columns p2.column p2.begun left ls)
          (still_written delimiters columns p2.column p2.begun (i ∷ left) ls)) more
          ∙ (ap (λ (c : ℕ). m2 ++ still_written delimiters columns p2.column p2.begun
          (i ∷ drop (c + 1) columns) ls) (sym q.column)
          ∙ ap (λ (x : List ℕ). m2 ++ x)
          (sym (at_column delimiters columns s2 p2 i ys
          (subst (λ (c : ℕ). c < length columns) (sym q.column) low) (e
          ∙ ap (λ (c : ℕ). get_or columns c 0) (sym q.column))))))));
    }

-- the row waits for the input
pub waits_there : (delimiters : List (Option ℕ)) (columns : List ℕ) (s1 s2 : List Left)
    (p1 p2 : Place) (m1 m2 : List ℕ) (i : ℕ) (ended : Bool) → ended ≡ false
    → p1.column < length columns → i ≡ get_or columns p1.column 0
    → PutsCell delimiters i s1 s2 p1 p2 ended m1 m2 → IsSettled (drop p2.column columns) s2
waits_there delimiters columns s1 s2 p1 p2 m1 m2 i ended more low e q =
    subst (λ (l : List ℕ). IsSettled l s2)
    (sym (ap (λ (c : ℕ). drop c columns) q.column ∙ drop_more columns p1.column 0 low))
    (ap (λ (j : ℕ). (intake s2 j).closed) (sym e) ∙ q.waits more)

-- no column is left
pub settled_over : (columns : List ℕ) (intakes : List Left) (k : ℕ) → length columns ≤ k
    → IsSettled (drop k columns) intakes
settled_over columns intakes k high = subst (λ (l : List ℕ). IsSettled l intakes)
    (sym (drop_all k columns high)) tt

less_by : (b b' : Bool) (n k k' bytes bytes' columns3 : ℕ) → k' ≡ k → (b ≡ true → b' ≡ true)
    → bytes' ≤ bytes → (b ≡ false → b' ≡ true → bytes' < bytes)
    → columns3 < cond b' (n + 1) 0 + (n - k')
    → bytes' * (2 * n + 2) + columns3 < bytes * (2 * n + 2) + (cond b (n + 1) 0 + (n - k))
less_by true true n k k' bytes bytes' columns3 e on fewer begins less =
    let m : bytes' * (2 * n + 2) ≤ bytes * (2 * n + 2) = mul-le-mul_right (2 * n + 2) fewer in
    omega (arith, m, less, e)
less_by true false n k k' bytes bytes' columns3 e on fewer begins less =
    let t = on refl in
    absurd (cc)
less_by false true n k k' bytes bytes' columns3 e on fewer begins less =
    let low : bytes' < bytes = begins refl refl in
    let h : bytes' + 1 ≤ bytes = omega (arith, low) in
    let m : (bytes' + 1) * (2 * n + 2) ≤ bytes * (2 * n + 2) = mul-le-mul_right (2 * n + 2) h in
    omega (arith, m, less)
less_by false false n k k' bytes bytes' columns3 e on fewer begins less =
    let m : bytes' * (2 * n + 2) ≤ bytes * (2 * n + 2) = mul-le-mul_right (2 * n + 2) fewer in
    omega (arith, m, less, e)

-- a step uses a byte, or leaves a column
pub fewer_left : (delimiters : List (Option ℕ)) (columns : List ℕ) (s1 s2 : List Left)
    (p1 p2 p3 : Place) (m1 m2 m3 : List ℕ) (i : ℕ) (ended : Bool)
    → PutsCell delimiters i s1 s2 p1 p2 ended m1 m2 → LeavesCell delimiters columns p2 p3 m2 m3
    → bytes_left s2 * (2 * length columns + 2) + columns_left
    (length columns) p3 < bytes_left s1 * (2 * length columns + 2) + columns_left
    (length columns) p1
fewer_left delimiters columns s1 s2 p1 p2 p3 m1 m2 m3 i ended q l =
    less_by p1.begun p2.begun (length columns) p1.column p2.column (bytes_left s1) (bytes_left s2)
    (columns_left (length columns) p3) q.column q.begun q.fewer q.begins l.fewer
