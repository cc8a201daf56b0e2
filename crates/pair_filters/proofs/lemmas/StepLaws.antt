-- Steps through the cells of a table.
use Rattle.std.proofs.Common.{◌≡◌, ◌≢◌, ℕ, zero, suc, ◌+◌, ◌<◌, ◌≤◌, Bool, true, false, cond, not}
use Rattle.std.proofs.Common.{eqb, List, [], ◌∷◌, ◌++◌, Option, length, get_or, drop, refl, ap, ◌∙◌}
use Rattle.std.proofs.Common.{sym, arith, append_assoc}
use Rattle.std.specs.Prelude.{◌||◌}
use Rattle.std.specs.List.{flat_map, range_with_len}
use Rattle.std.proofs.lemmas.Bool.{eq-eqb, ne_eqb, eqb-true}
use Rattle.std.proofs.lemmas.List.{append-nil, drop_all, drop_more}
use Rattle.machine.specs.Lines.{content, lines, newline}
use Rattle.machine.proofs.MakesLaws.{fun_ext}
use Rattle.commands.specs.Delimiters.{delimiter, behind}
use Rattle.pair_filters.specs.Intakes.{first}
use Rattle.commands.specs.Paste.{Lines, table}
use Rattle.pair_filters.specs.TableRows.{without, cells, behind_row, have_line, row_on}
use Rattle.pair_filters.specs.TableRows.{delimiters_below, still_written, still_behind}
use Rattle.pair_filters.specs.inner.TableSteps.{LeavesCell}
use Rattle.pair_filters.specs.declared.table.Place.{Place}
use Rattle.pair_filters.proofs.lemmas.TableLaws.{table_still}

range_more : (f : ℕ → List ℕ) (a n : ℕ) → flat_map f (range_with_len a (suc n))
    ≡ flat_map f (range_with_len a n) ++ f (a + n)
range_more f a zero = let e : a ≡ a + 0 = omega arith in append-nil (f a) ∙ ap f e
range_more f a (suc n) =
    let e : a + 1 + n ≡ a + suc n = omega arith in
    ap (λ (x : List ℕ). f a ++ x) (range_more f (a + 1) n)
    ∙ (ap (λ (k : ℕ). f a ++ (flat_map f (range_with_len (a + 1) n) ++ f k)) e
    ∙ sym (append_assoc (f a) (flat_map f (range_with_len (a + 1) n)) (f (a + suc n))))

-- one delimiter more
pub below_more : (delimiters : List (Option ℕ)) (k : ℕ)
    → delimiters_below delimiters (k + 1) ≡ delimiters_below delimiters k ++ delimiter delimiters k
below_more delimiters k =
    let e : k + 1 ≡ suc k = omega arith in
    let z : 0 + k ≡ k = omega arith in
    ap (delimiters_below delimiters) e
    ∙ (range_more (delimiter delimiters) 0 k
    ∙ ap (λ (n : ℕ). delimiters_below delimiters k ++ delimiter delimiters n) z)

-- lines that are the same but for those of one input
pub record SameBut (i : ℕ) (lines lines' : Lines) : Type 0 where
  pub others : (j : ℕ) → j ≢ i → lines' j ≡ lines j

without_by : (b : Bool) (i j : ℕ) (lines lines' : Lines) → eqb i j ≡ b → SameBut i lines lines'
    → drop 1 (lines i) ≡ drop 1 (lines' i) → without i lines j ≡ without i lines' j
without_by true i j lines lines' e same h =
    let is : i ≡ j = eqb-true i j e in
    ap (λ (b : Bool). cond b (drop 1 (lines j)) (lines j)) e
    ∙ (ap (λ (k : ℕ). drop 1 (lines k)) (sym is)
    ∙ (h ∙ (ap (λ (k : ℕ). drop 1 (lines' k)) is
    ∙ ap (λ (b : Bool). cond b (drop 1 (lines' j)) (lines' j)) (sym e))))
without_by false i j lines lines' e same h =
    let apart : j ≢ i = λ k. let t : eqb i j ≡ true = eq-eqb i j (sym k) in cc in
    ap (λ (b : Bool). cond b (drop 1 (lines j)) (lines j)) e
    ∙ (sym (same.others j apart) ∙ ap (λ (b : Bool). cond b (drop 1 (lines' j)) (lines' j)) (sym e))

-- the lines after the first one of an input are the same
without_same : (i : ℕ) (lines lines' : Lines) → SameBut i lines lines'
    → drop 1 (lines i) ≡ drop 1 (lines' i) → without i lines ≡ without i lines'
without_same i lines lines' same h =
    fun_ext (λ j. without_by (eqb i j) i j lines lines' refl same h)

taken_by : (b : Bool) (i j : ℕ) (lines lines' : Lines) → eqb i j ≡ b → SameBut i lines lines'
    → drop 1 (lines i) ≡ lines' i → without i lines j ≡ lines' j
taken_by true i j lines lines' e same h =
    let is : i ≡ j = eqb-true i j e in
    ap (λ (b : Bool). cond b (drop 1 (lines j)) (lines j)) e
    ∙ (ap (λ (k : ℕ). drop 1 (lines k)) (sym is) ∙ (h ∙ ap lines' is))
taken_by false i j lines lines' e same h =
    let apart : j ≢ i = λ k. let t : eqb i j ≡ true = eq-eqb i j (sym k) in cc in
    ap (λ (b : Bool). cond b (drop 1 (lines j)) (lines j)) e ∙ sym (same.others j apart)

-- the first one was taken
without_taken : (i : ℕ) (lines lines' : Lines) → SameBut i lines lines'
    → drop 1 (lines i) ≡ lines' i → without i lines ≡ lines'
without_taken i lines lines' same h = fun_ext (λ j. taken_by (eqb i j) i j lines lines' refl same h)

-- some bytes of a cell
pub cell_on : (delimiters : List (Option ℕ)) (columns : List ℕ) (k i : ℕ) (left part : List ℕ)
    (lines lines' : Lines) → SameBut i lines lines'
    → content (first (lines i)) ≡ part ++ content (first (lines' i))
    → drop 1 (lines i) ≡ drop 1 (lines' i)
    → still_written delimiters columns k true (i ∷ left) lines
    ≡ part ++ still_written delimiters columns k true (i ∷ left) lines'
cell_on delimiters columns k i left part lines lines' same c d =
    let after = λ (ls : Lines). newline ∷ table delimiters columns (behind_row left ls) in
    let cell' = content (first (lines' i)) in
    let other = behind delimiters k (cells left (without i lines')) in
    ap (λ (x : List ℕ). (x ++ behind delimiters k (cells left (without i lines))) ++ after
    (without i lines)) c
    ∙ (ap (λ (ls : Lines). ((part ++ cell') ++ behind delimiters k (cells left ls)) ++ after ls)
    (without_same i lines lines' same d)
    ∙ (ap (λ (x : List ℕ). x ++ after (without i lines')) (append_assoc part cell' other)
    ∙ append_assoc part (cell' ++ other) (after (without i lines'))))

-- a whole cell
pub cell_over : (delimiters : List (Option ℕ)) (columns : List ℕ) (k i : ℕ) (left part : List ℕ)
    (lines lines' : Lines) → SameBut i lines lines' → content (first (lines i)) ≡ part
    → drop 1 (lines i) ≡ lines' i → still_written delimiters columns k true (i ∷ left) lines
    ≡ part ++ still_behind delimiters columns k true left lines'
cell_over delimiters columns k i left part lines lines' same c d =
    let after = λ (ls : Lines). newline ∷ table delimiters columns (behind_row left ls) in
    ap (λ (x : List ℕ). (x ++ behind delimiters k (cells left (without i lines))) ++ after
    (without i lines)) c
    ∙ (ap (λ (ls : Lines). (part ++ behind delimiters k (cells left ls)) ++ after ls)
    (without_taken i lines lines' same d)
    ∙ append_assoc part (behind delimiters k (cells left lines')) (after lines'))

has_by : (n : ℕ) (rest : Bool) → 1 ≤ n → (not (eqb n 0) || rest) ≡ true
has_by n rest h = ap (λ (b : Bool). not b || rest) (ne_eqb n 0 (λ e. omega (arith, e, h)))

-- the first bytes of a row
pub row_begins : (delimiters : List (Option ℕ)) (columns : List ℕ) (k i : ℕ) (left : List ℕ)
    (lines : Lines) → 1 ≤ length (lines i)
    → still_written delimiters columns k false (i ∷ left) lines
    ≡ delimiters_below delimiters k ++ still_written delimiters columns k true (i ∷ left) lines
row_begins delimiters columns k i left lines some =
    ap (λ (b : Bool). cond b (delimiters_below delimiters k ++ row_on delimiters columns k
    (i ∷ left) lines) []) (has_by (length (lines i)) (have_line left lines) some)

-- a column without a line, in a row before anything of it is written
row_moves : (delimiters : List (Option ℕ)) (columns : List ℕ) (k i j : ℕ) (left : List ℕ)
    (lines : Lines) → lines i ≡ [] → without i lines ≡ lines
    → delimiters_below delimiters k ++ row_on delimiters columns k (i ∷ j ∷ left) lines
    ≡ delimiters_below delimiters (k + 1) ++ row_on delimiters columns (k + 1) (j ∷ left) lines
row_moves delimiters columns k i j left lines none same =
    let below = delimiters_below delimiters k in
    let d = delimiter delimiters k in
    let cell' = content (first (lines j)) in
    let other = behind delimiters (k + 1) (cells left (without j lines)) in
    let after = newline ∷ table delimiters columns (behind_row (j ∷ left) lines) in
    ap (λ (ls : List (List ℕ)). below
    ++ ((content (first ls) ++ behind delimiters k (cells (j ∷ left) (without i lines)))
    ++ newline ∷ table delimiters columns (behind_row (j ∷ left) (without i lines)))) none
    ∙ (ap
    (λ (ls : Lines). below ++ (behind delimiters k (cells (j ∷ left) ls)
    ++ newline ∷ table delimiters columns (behind_row (j ∷ left) ls))) same
    ∙ (ap (λ (x : List ℕ). below ++ (x ++ after)) (append_assoc d cell' other)
    ∙ (ap (λ (x : List ℕ). below ++ x) (append_assoc d (cell' ++ other) after)
    ∙ (sym (append_assoc below d ((cell' ++ other) ++ after))
    ∙ ap (λ (x : List ℕ). x ++ ((cell' ++ other) ++ after)) (sym (below_more delimiters k))))))

has_none : (n : ℕ) (rest : Bool) → n ≡ 0 → (not (eqb n 0) || rest) ≡ rest
has_none zero rest h = refl
has_none (suc n) rest h = absurd (omega (arith, h))

pub row_passes : (delimiters : List (Option ℕ)) (columns : List ℕ) (k i : ℕ) (left : List ℕ)
    (lines : Lines) → lines i ≡ [] → still_written delimiters columns k false (i ∷ left) lines
    ≡ still_written delimiters columns (k + 1) false left lines
row_passes delimiters columns k i [] lines none =
    ap (λ (b : Bool). cond b (delimiters_below delimiters k ++ row_on delimiters columns k
    (i ∷ []) lines) []) (has_none (length (lines i)) false (ap length none))
row_passes delimiters columns k i (j ∷ left) lines none =
    let same : without i lines ≡ lines = without_taken i lines lines
    (record { others = λ j _. refl }) (ap (drop 1) none ∙ sym none) in
    ap (λ (b : Bool). cond b (delimiters_below delimiters k ++ row_on delimiters columns k
    (i ∷ j ∷ left) lines) []) (has_none (length (lines i)) (have_line (j ∷ left) lines)
    (ap length none))
    ∙ ap (λ (x : List ℕ). cond (have_line (j ∷ left) lines) x [])
    (row_moves delimiters columns k i j left lines none same)

-- the next column of a row that was begun
column_leaves : (delimiters : List (Option ℕ)) (columns : List ℕ) (k j : ℕ) (left : List ℕ)
    (lines : Lines) → still_behind delimiters columns k true (j ∷ left) lines
    ≡ delimiter delimiters k ++ still_written delimiters columns (k + 1) true (j ∷ left) lines
column_leaves delimiters columns k j left lines =
    let d = delimiter delimiters k in
    let cell' = content (first (lines j)) in
    let other = behind delimiters (k + 1) (cells left (without j lines)) in
    let after = newline ∷ table delimiters columns (behind_row (j ∷ left) lines) in
    ap (λ (x : List ℕ). x ++ after) (append_assoc d cell' other)
    ∙ append_assoc d (cell' ++ other) after

place_is : (place : Place) (b : Bool) → place.begun ≡ b → place ≡ record place { begun = b }
place_is place b h = ap (λ (c : Bool). record place { begun = c }) h

pub leaves_unbegun : (delimiters : List (Option ℕ)) (columns : List ℕ) (place : Place)
    (made : List ℕ) → place.column < length columns → place.begun ≡ false
    → LeavesCell delimiters columns place (record place { column = place.column + 1 }) made made
leaves_unbegun delimiters columns place made low h =
    record {
      fewer = omega arith;
      within = omega arith;
      splits = λ lines.
          ap (λ (b : Bool). made ++ still_behind delimiters columns place.column b
          (drop (place.column + 1) columns) lines) h
          ∙ ap (λ (b : Bool). made ++ still_written delimiters columns (place.column + 1) b
          (drop (place.column + 1) columns) lines) (sym h);
    }

pub leaves_column : (delimiters : List (Option ℕ)) (columns : List ℕ) (place : Place)
    (made made' : List ℕ) → place.column + 1 < length columns → place.begun ≡ true
    → made' ≡ made ++ delimiter delimiters place.column
    → LeavesCell delimiters columns place (record place { column = place.column + 1 }) made made'
leaves_column delimiters columns place made made' low h e =
    let k = place.column in
    let j = get_or columns (k + 1) 0 in
    let left = drop (k + 1 + 1) columns in
    let more : drop (k + 1) columns ≡ j ∷ left = drop_more columns (k + 1) 0 low in
    record {
      fewer = omega arith;
      within = omega arith;
      splits = λ lines.
          let still' = still_written delimiters columns (k + 1) true (j ∷ left) lines in
          ap (λ (b : Bool). made ++ still_behind delimiters columns k b
          (drop (k + 1) columns) lines) h
          ∙ (ap (λ (l : List ℕ). made ++ still_behind delimiters columns k true l lines) more
          ∙ (ap (λ (x : List ℕ). made ++ x) (column_leaves delimiters columns k j left lines)
          ∙ (sym (append_assoc made (delimiter delimiters k) still')
          ∙ (ap (λ (x : List ℕ). x ++ still') (sym e)
          ∙ (ap (λ (l : List ℕ). made' ++ still_written delimiters columns (k + 1) true l lines)
          (sym more)
          ∙ ap (λ (b : Bool). made' ++ still_written delimiters columns (k + 1) b
          (drop (k + 1) columns) lines) (sym h))))));
    }

pub leaves_row : (delimiters : List (Option ℕ)) (columns : List ℕ) (place : Place)
    (made made' : List ℕ) → place.column < length columns → length columns ≤ place.column + 1
    → place.begun ≡ true → made' ≡ made ++ newline ∷ []
    → LeavesCell delimiters columns place (record { column = 0; begun = false }) made made'
leaves_row delimiters columns place made made' low high h e =
    let k = place.column in
    let none : drop (k + 1) columns ≡ [] = drop_all (k + 1) columns high in
    let more : cond place.begun (length columns + 1) 0 ≡ length columns + 1 =
    ap (λ (b : Bool). cond b (length columns + 1) 0) h in
    record {
      fewer = omega (arith, more);
      within = omega arith;
      splits = λ lines.
          ap (λ (b : Bool). made ++ still_behind delimiters columns k b
          (drop (k + 1) columns) lines) h
          ∙ (ap (λ (l : List ℕ). made ++ still_behind delimiters columns k true l lines) none
          ∙ (sym (append_assoc made (newline ∷ []) (table delimiters columns lines))
          ∙ (ap (λ (x : List ℕ). x ++ table delimiters columns lines) (sym e)
          ∙ ap (λ (x : List ℕ). made' ++ x) (table_still delimiters columns lines))));
    }
