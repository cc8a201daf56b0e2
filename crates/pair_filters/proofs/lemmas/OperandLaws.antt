-- Operands that are passed.
use Rattle.std.proofs.Common.{◌≡◌, ◌≢◌, ℕ, ◌+◌, ◌<◌, ◌≤◌, Bool, true, false, cond, not, eqb, ltb}
use Rattle.std.proofs.Common.{List, [], ◌∷◌, ◌++◌, Option, Some, None, length, get_or, take, drop}
use Rattle.std.proofs.Common.{map, refl, ap, ◌∙◌, sym, arith, append_assoc, inl, inr}
use Rattle.std.specs.Prelude.{◌&&◌, ◌||◌, is_none}
use Rattle.std.specs.List.{flat_map, enumerate_from}
use Rattle.std.proofs.lemmas.Bool.{eq-eqb, eqb-true, ltb-true, lt-ltb, cases_lt}
use Rattle.std.proofs.lemmas.List.{drop_all, drop_more, take_more, take_all, get_or_past}
use Rattle.machine.specs.Lines.{content, lines, newline}
use Rattle.machine.specs.declared.protocol.Presence.{Presence}
use Rattle.machine.specs.declared.protocol.Presence.TheVariants.{Present, Missing}
use Rattle.pair_filters.specs.Operands.{by_presence, inputs_on, is_first, is_at_first}
use Rattle.pair_filters.specs.Operands.{operands_from, repeated_line, PassesOperands}
use Rattle.commands.specs.Delimiters.{row}
use Rattle.pair_filters.specs.Joins.{line_on, no_line}
use Rattle.pair_filters.specs.SerialShows.{still_joined}
use Rattle.commands.specs.Paste.{Inputs, lines_in, operand, has_column}

pub passed_none : (delimiters : List (Option ℕ)) (columns : List ℕ) (inputs : List Presence)
    (column : ℕ) (made : List ℕ) → PassesOperands delimiters columns inputs column column made made
passed_none delimiters columns inputs column made =
    record { closed = λ j. refl; splits = λ ys. refl }

or_or : (a b c : Bool) → (a || (b || c)) ≡ ((a || b) || c)
or_or true b c = refl
or_or false b c = refl

has_column-append : (xs ys : List ℕ) (i : ℕ)
    → has_column (xs ++ ys) i ≡ (has_column xs i || has_column ys i)
has_column-append [] ys i = refl
has_column-append (x ∷ xs) ys i = ap (λ (b : Bool). eqb x i || b) (has_column-append xs ys i)
    ∙ or_or (eqb x i) (has_column xs i) (has_column ys i)

or_false : (b : Bool) → (b || false) ≡ b
or_false true = refl
or_false false = refl

-- one column more
pub has_column_more : (columns : List ℕ) (p i : ℕ) → p < length columns
    → has_column (take (p + 1) columns) i
    ≡ (has_column (take p columns) i || eqb (get_or columns p 0) i)
has_column_more columns p i low =
    ap (λ (xs : List ℕ). has_column xs i) (take_more columns p 0 low)
    ∙ (has_column-append (take p columns) (get_or columns p 0 ∷ []) i
    ∙ ap (λ (b : Bool). has_column (take p columns) i || b)
    (or_false (eqb (get_or columns p 0) i)))

-- what is written of an operand, by what is on its input
abbrev pub operand_of : List (Option ℕ) → List ℕ → ℕ → ℕ → Option (List ℕ) → List ℕ
operand_of delimiters columns p i o = cond (is_none o) []
    (row delimiters (map content (cond (has_column (take p columns) i) [] (lines_in o))))

again_by : (b : Bool) (delimiters : List (Option ℕ)) (o : Option (List ℕ)) (ls : List (List ℕ))
    → b ≡ true → cond (is_none o) [] (row delimiters (map content (cond b [] ls)))
    ≡ cond (is_none o) [] (newline ∷ [])
again_by b delimiters o ls h =
    ap (λ (c : Bool). cond (is_none o) [] (row delimiters (map content (cond c [] ls)))) h

repeated_by : (presence : Presence) (delimiters : List (Option ℕ)) (columns : List ℕ) (p i : ℕ)
    (x : List ℕ) → (presence ≡ Present → has_column (take p columns) i ≡ true)
    → operand_of delimiters columns p i (by_presence presence x) ≡ repeated_line presence
repeated_by Missing delimiters columns p i x had_column = refl
repeated_by Present delimiters columns p i x had_column =
    again_by (has_column (take p columns) i) delimiters (Some x) (lines_in (Some x))
    (had_column refl)

there : (inputs : List Presence) (i : ℕ) → get_or inputs i Missing ≡ Present → i < length inputs
there inputs i h =
    elim (cases_lt i (length inputs)) [
      | inl low ↦ low
      | inr high ↦
          let e : Missing ≡ Present = sym (get_or_past inputs i Missing high) ∙ h in absurd (cc)
    ]

had_column_by : (a b : Bool) → a ≡ true → (a && not b) ≡ false → b ≡ true
had_column_by true true e h = refl
had_column_by true false e h = absurd (cc)
had_column_by false b e h = absurd (cc)

-- a column that is not the first one of its input
had_column_before : (columns : List ℕ) (count p i : ℕ) → is_first columns count p i ≡ false
    → i < count → has_column (take p columns) i ≡ true
had_column_before columns count p i h low =
    had_column_by (ltb i count) (has_column (take p columns) i) (lt-ltb i count low) h

closed_by : (b c : Bool) (count i j : ℕ) (had_column : Bool) → ltb j count ≡ b → eqb i j ≡ c
    → (i < count → i ≡ j → had_column ≡ true) → (b && (had_column || c)) ≡ (b && had_column)
closed_by false c count i j had_column e f h = refl
closed_by true false count i j had_column e f h = or_false had_column
closed_by true true count i j had_column e f h =
    let is : i ≡ j = eqb-true i j f in
    let low : j < count = ltb-true j count e in
    let t : had_column ≡ true = h (omega (arith, is, low)) is in
    ap (λ (x : Bool). x || true) t ∙ sym t

-- one operand more
pub passes_one : (delimiters : List (Option ℕ)) (columns : List ℕ) (inputs : List Presence)
    (p i : ℕ) (made made' : List ℕ) → p < length columns → i ≡ get_or columns p 0
    → is_first columns (length inputs) p i ≡ false
    → made' ≡ made ++ repeated_line (get_or inputs i Missing)
    → PassesOperands delimiters columns inputs p (p + 1) made made'
passes_one delimiters columns inputs p i made made' low e again more =
    let n = length inputs in
    let had_column = had_column_before columns n p i again in
    record {
      closed = λ j.
          ap (λ (b : Bool). ltb j n && b) (has_column_more columns p j low
          ∙ ap (λ (k : ℕ). has_column (take p columns) j || eqb k j) (sym e))
          ∙ closed_by (ltb j n) (eqb i j) n i j (has_column (take p columns) j) refl refl
          (λ small is. ap (λ (k : ℕ). has_column (take p columns) k) (sym is)
          ∙ had_column small);
      splits = λ ys.
          let ins = inputs_on inputs ys in
          let after = operands_from delimiters columns ins (p + 1) in
          let one = repeated_line (get_or inputs i Missing) in
          ap (λ (l : List ℕ). made ++ flat_map (operand delimiters columns ins)
          (enumerate_from p l)) (drop_more columns p 0 low
          ∙ ap (λ (k : ℕ). k ∷ drop (p + 1) columns) (sym e))
          ∙ (ap (λ (x : List ℕ). made ++ (x ++ after))
          (repeated_by (get_or inputs i Missing) delimiters columns p i (ys i)
          (λ here. had_column (there inputs i here)))
          ∙ (sym (append_assoc made one after) ∙ ap (λ (x : List ℕ). x ++ after) (sym more)));
    }

pub passes_on : (delimiters : List (Option ℕ)) (columns : List ℕ) (inputs : List Presence)
    (p q r : ℕ) (made made1 made2 : List ℕ)
    → PassesOperands delimiters columns inputs p q made made1
    → PassesOperands delimiters columns inputs q r made1 made2
    → PassesOperands delimiters columns inputs p r made made2
passes_on delimiters columns inputs p q r made made1 made2 a b =
    record { closed = λ j. b.closed j ∙ a.closed j; splits = λ ys. a.splits ys ∙ b.splits ys }

pub at_first : (columns : List ℕ) (count p i : ℕ) → p < length columns → i ≡ get_or columns p 0
    → is_first columns count p i ≡ true → is_at_first columns count p (drop p columns) ≡ true
at_first columns count p i low e h =
    ap (is_at_first columns count p) (drop_more columns p 0 low
    ∙ ap (λ (k : ℕ). k ∷ drop (p + 1) columns) (sym e)) ∙ h

pub at_end : (columns : List ℕ) (count p : ℕ) → length columns ≤ p
    → is_at_first columns count p (drop p columns) ≡ true
at_end columns count p high = ap (is_at_first columns count p) (drop_all p columns high)

first_by : (b : Bool) (delimiters : List (Option ℕ)) (o : Option (List ℕ)) → b ≡ false
    → cond (is_none o) [] (row delimiters (map content (cond b [] (lines_in o))))
    ≡ line_on delimiters no_line o
first_by b delimiters None h = refl
first_by b delimiters (Some x) h =
    ap (λ (c : Bool). row delimiters (map content (cond c [] (lines x)))) h

not_had_column : (a b : Bool) → (a && not b) ≡ true → b ≡ false
not_had_column true true h = absurd (cc)
not_had_column true false h = refl
not_had_column false b h = absurd (cc)

-- the operands from a first one on
pub first_joined : (delimiters : List (Option ℕ)) (columns : List ℕ) (count p : ℕ) (left : List ℕ)
    (ins : Inputs) → is_at_first columns count p left ≡ true
    → flat_map (operand delimiters columns ins) (enumerate_from p left)
    ≡ still_joined delimiters columns p no_line left ins
first_joined delimiters columns count p [] ins h = refl
first_joined delimiters columns count p (i ∷ left) ins h =
    ap (λ (x : List ℕ). x ++ flat_map (operand delimiters columns ins)
    (enumerate_from (p + 1) left))
    (first_by (has_column (take p columns) i) delimiters (ins i)
    (not_had_column (ltb i count) (has_column (take p columns) i) h))

has_column_stays : (columns : List ℕ) (p i : ℕ) → has_column (take p columns) i ≡ true
    → has_column (take (p + 1) columns) i ≡ true
has_column_stays columns p i h =
    elim (cases_lt p (length columns)) [
      | inl low ↦ has_column_more columns p i low
          ∙ ap (λ (b : Bool). b || eqb (get_or columns p 0) i) h
      | inr high ↦ ap (λ (xs : List ℕ). has_column xs i)
          (take_all (p + 1) columns (omega (arith, high)) ∙ sym (take_all p columns high)) ∙ h
    ]

none_alike : (delimiters : List (Option ℕ)) (o o' : Option (List ℕ)) → is_none o' ≡ is_none o
    → cond (is_none o') [] (newline ∷ []) ≡ cond (is_none o) [] (newline ∷ [])
none_alike delimiters o o' h = ap (λ (b : Bool). cond b [] (newline ∷ [])) h

later_by : (b : Bool) (delimiters : List (Option ℕ)) (columns : List ℕ) (ins ins' : Inputs)
    (i j p : ℕ) → eqb j i ≡ b → ((k : ℕ) → k ≢ i → ins' k ≡ ins k)
    → is_none (ins' i) ≡ is_none (ins i) → has_column (take p columns) i ≡ true
    → operand_of delimiters columns p j (ins' j) ≡ operand_of delimiters columns p j (ins j)
later_by true delimiters columns ins ins' i j p e others none had_column =
    let is : j ≡ i = eqb-true j i e in
    let stood' : has_column (take p columns) j ≡ true = ap (has_column (take p columns)) is
    ∙ had_column in
    again_by (has_column (take p columns) j) delimiters (ins' j) (lines_in (ins' j)) stood'
    ∙ (none_alike delimiters (ins j) (ins' j) (ap (λ (k : ℕ). is_none (ins' k)) is
    ∙ (none ∙ ap (λ (k : ℕ). is_none (ins k)) (sym is)))
    ∙ sym (again_by (has_column (take p columns) j) delimiters (ins j) (lines_in (ins j)) stood'))
later_by false delimiters columns ins ins' i j p e others none had_column =
    let apart : j ≢ i = λ k. let t : eqb j i ≡ true = eq-eqb j i k in cc in
    ap (operand_of delimiters columns p j) (others j apart)

-- what is on an input makes no difference to later operands of it
pub later_same : (delimiters : List (Option ℕ)) (columns : List ℕ) (ins ins' : Inputs) (i : ℕ)
    (left : List ℕ) (p : ℕ) → ((k : ℕ) → k ≢ i → ins' k ≡ ins k)
    → is_none (ins' i) ≡ is_none (ins i) → has_column (take p columns) i ≡ true
    → flat_map (operand delimiters columns ins') (enumerate_from p left)
    ≡ flat_map (operand delimiters columns ins) (enumerate_from p left)
later_same delimiters columns ins ins' i [] p others none had_column = refl
later_same delimiters columns ins ins' i (j ∷ left) p others none had_column =
    ap (λ (x : List ℕ). x ++ flat_map (operand delimiters columns ins')
    (enumerate_from (p + 1) left))
    (later_by (eqb j i) delimiters columns ins ins' i j p refl others none had_column)
    ∙ ap (λ (x : List ℕ). operand delimiters columns ins (p, j) ++ x)
    (later_same delimiters columns ins ins' i left (p + 1) others none
    (has_column_stays columns p i had_column))
