-- The machine of paste -s goes on as the law says.
use Rattle.std.proofs.Common.{◌≡◌, ◌≢◌, ℕ, ◌+◌, ◌<◌, Bool, true, false, cond, eqb, ltb, List, []}
use Rattle.std.proofs.Common.{◌∷◌, ◌++◌, Option, Some, length, get_or, take, drop, map, refl, ap}
use Rattle.std.proofs.Common.{◌∙◌, sym, subst, arith, append_assoc, inl, inr}
use Rattle.std.specs.Prelude.{◌&&◌, ◌||◌, is_none}
use Rattle.std.specs.List.{flat_map, enumerate_from}
use Rattle.std.proofs.lemmas.Bool.{eq-eqb, ne_eqb, eqb-true, lt-ltb, cases_lt}
use Rattle.std.proofs.lemmas.List.{append-nil, drop_all, drop_more}
use Rattle.machine.specs.Law.{Feeds, Closes, before, with_closed}
use Rattle.machine.specs.Lines.{content, lines, newline}
use Rattle.machine.specs.Pieces.{Queued, contents}
use Rattle.machine.specs.declared.protocol.Presence.{Presence}
use Rattle.machine.specs.declared.protocol.Presence.TheVariants.{Present, Missing}
use Rattle.machine.specs.declared.protocol.Want.TheVariants.{Take, Finished}
use Rattle.machine.proofs.Inputs.{before_at, before_other}
use Rattle.machine.proofs.MakesLaws.{fun_ext}
use Rattle.commands.specs.Delimiters.{behind, joined_from}
use Rattle.pair_filters.specs.Joins.{joined_on, line_on, no_line, JoinsBytes}
use Rattle.pair_filters.specs.Operands.{by_presence, inputs_on, is_at_first, operands_from}
use Rattle.pair_filters.specs.Operands.{repeated_line, PassesOperands}
use Rattle.pair_filters.specs.SerialShows.{first_wanted, still_joined, joining, wanted_first}
use Rattle.commands.specs.Paste.{operand, has_column}
use Rattle.pair_filters.specs.declared.serial.Joint.{Joint}
use Rattle.pair_filters.proofs.lemmas.OperandLaws.{has_column_more, first_joined, later_same}

take_is : (x i : ℕ) → Take x ≡ Take i → x ≡ i
take_is x i h = cc

-- the operand that is wanted, and those after it
pub wanted_here : (columns : List ℕ) (column i : ℕ) → first_wanted (drop column columns) ≡ Take i
    → (column < length columns) × (get_or columns column 0 ≡ i)
wanted_here columns column i h =
    elim (cases_lt column (length columns)) [
      | inl low ↦ (
        low,
        take_is (get_or columns column 0) i
            (sym (ap first_wanted (drop_more columns column 0 low)) ∙ h),
      )
      | inr high ↦ let e : Finished ≡ Take i = sym (ap first_wanted (drop_all column columns high))
          ∙ h in absurd (cc)
    ]

pub left_is : (columns : List ℕ) (column i : ℕ) → first_wanted (drop column columns) ≡ Take i
    → drop column columns ≡ i ∷ drop (column + 1) columns
left_is columns column i h =
    let w = wanted_here columns column i h in
    drop_more columns column 0 (w.0) ∙ ap (λ (k : ℕ). k ∷ drop (column + 1) columns) (w.1)

or_false : (b : Bool) → (b || false) ≡ b
or_false true = refl
or_false false = refl

or_true : (a b : Bool) → b ≡ true → (a || b) ≡ true
or_true true b h = refl
or_true false b h = h

has_column_here : (columns : List ℕ) (column i : ℕ) → first_wanted (drop column columns) ≡ Take i
    → has_column (take (column + 1) columns) i ≡ true
has_column_here columns column i h =
    let w = wanted_here columns column i h in
    has_column_more columns column i (w.0)
    ∙ or_true (has_column (take column columns) i) (eqb (get_or columns column 0) i)
    (eq-eqb (get_or columns column 0) i (w.1))

none_by : (presence : Presence) (x y : List ℕ)
    → is_none (by_presence presence x) ≡ is_none (by_presence presence y)
none_by Present x y = refl
none_by Missing x y = refl

-- a piece of an input that is present
pub serial_feeds : (delimiters : List (Option ℕ)) (columns : List ℕ) (inputs : List Presence)
    (column : ℕ) (joint joint' : Joint) (i : ℕ) (piece made : List ℕ) (out out' : Queued)
    → first_wanted (drop column columns) ≡ Take i → get_or inputs i Missing ≡ Present
    → JoinsBytes delimiters joint joint' piece [] made → contents out' ≡ contents out ++ made
    → Feeds i piece (joining delimiters columns inputs column joint)
    (joining delimiters columns inputs column joint') out out'
serial_feeds delimiters columns inputs column joint joint' i piece made out out' wants here j
    added =
    let left = drop (column + 1) columns in
    let is = left_is columns column i wants in
    record {
      made = made;
      added = added;
      closed = λ k. refl;
      splits = λ ys h.
          let ins = inputs_on inputs ys in
          let ins' = inputs_on inputs (before i piece ys) in
          let later = flat_map (operand delimiters columns ins)
          (enumerate_from (column + 1) left) in
          let rest' = joined_on delimiters joint' (map content (lines (ys i))) in
          let now : ins' i ≡ Some (piece ++ ys i) =
          ap (λ (x : List ℕ). by_presence (get_or inputs i Missing) x) (before_at i piece ys)
          ∙ ap (λ (p : Presence). by_presence p (piece ++ ys i)) here in
          let now' : ins i ≡ Some (ys i) = ap (λ (p : Presence). by_presence p (ys i)) here in
          ap (λ (l : List ℕ). still_joined delimiters columns column joint l ins') is
          ∙ (ap (λ (x : List ℕ). line_on delimiters joint (ins' i) ++ x)
          (later_same delimiters columns ins ins' i left (column + 1)
          (λ k apart. ap (λ (x : List ℕ). by_presence (get_or inputs k Missing) x)
          (before_other i piece ys k apart))
          (none_by (get_or inputs i Missing) (before i piece ys i) (ys i))
          (has_column_here columns column i wants))
          ∙ (ap (λ (o : Option (List ℕ)). line_on delimiters joint o ++ later) now
          ∙ (ap (λ (x : List ℕ). (x ++ newline ∷ []) ++ later) (j.splits (ys i))
          ∙ (ap (λ (x : List ℕ). x ++ later) (append_assoc made rest' (newline ∷ []))
          ∙ (append_assoc made (rest' ++ newline ∷ []) later
          ∙ (ap (λ (o : Option (List ℕ)). made ++ (line_on delimiters joint' o ++ later)) (sym now')
          ∙ ap (λ (l : List ℕ). made ++ still_joined delimiters columns column joint' l ins)
          (sym is)))))));
      counts = λ ys h. omega arith;
    }

skipped_by : (b : Bool) (inputs : List Presence) (i j : ℕ) (piece : List ℕ) (ys : ℕ → List ℕ)
    → eqb j i ≡ b → get_or inputs i Missing ≡ Missing
    → by_presence (get_or inputs j Missing) (cond b (piece ++ ys j) (ys j))
    ≡ by_presence (get_or inputs j Missing) (ys j)
skipped_by true inputs i j piece ys e gone =
    let none : get_or inputs j Missing ≡ Missing =
    ap (λ (k : ℕ). get_or inputs k Missing) (eqb-true j i e) ∙ gone in
    ap (λ (p : Presence). by_presence p (piece ++ ys j)) none
    ∙ ap (λ (p : Presence). by_presence p (ys j)) (sym none)
skipped_by false inputs i j piece ys e gone = refl

-- a piece of one that is missing
pub serial_skips : (delimiters : List (Option ℕ)) (columns : List ℕ) (inputs : List Presence)
    (column : ℕ) (joint : Joint) (i : ℕ) (piece : List ℕ) (out : Queued)
    → get_or inputs i Missing ≡ Missing
    → Feeds i piece (joining delimiters columns inputs column joint)
    (joining delimiters columns inputs column joint) out out
serial_skips delimiters columns inputs column joint i piece out gone =
    record {
      made = [];
      added = sym (append-nil (contents out));
      closed = λ k. refl;
      splits = λ ys h.
          ap (still_joined delimiters columns column joint (drop column columns))
          (fun_ext (λ j. skipped_by (eqb j i) inputs i j piece ys refl gone));
      counts = λ ys h. omega arith;
    }

end_by : (due : Bool) (delimiters : List (Option ℕ)) (k : ℕ)
    → cond due (behind delimiters k []) (joined_from delimiters k []) ≡ []
end_by true delimiters k = refl
end_by false delimiters k = refl

ends_as : (presence : Presence) (delimiters : List (Option ℕ)) (joint : Joint)
    → line_on delimiters joint (by_presence presence []) ≡ repeated_line presence
ends_as Present delimiters joint = ap (λ (x : List ℕ). x ++ newline ∷ [])
    (end_by joint.due delimiters joint.next)
ends_as Missing delimiters joint = refl

shut_by : (b : Bool) (count i j x : ℕ) (had_column : Bool) → eqb j i ≡ b → x ≡ i → i < count
    → (ltb j count && (had_column || eqb x j)) ≡ (b || (ltb j count && had_column))
shut_by true count i j x had_column e is low =
    let same : j ≡ i = eqb-true j i e in
    ap (λ (c : Bool). c && (had_column || eqb x j)) (lt-ltb j count (omega (arith, same, low)))
    ∙ or_true had_column (eqb x j) (eq-eqb x j (is ∙ sym same))
shut_by false count i j x had_column e is low =
    let apart : x ≢ j = λ k. let t : eqb j i ≡ true = eq-eqb j i (sym k ∙ is) in cc in
    ap (λ (c : Bool). ltb j count && (had_column || c)) (ne_eqb x j apart)
    ∙ ap (λ (c : Bool). ltb j count && c) (or_false had_column)

-- the end of the input that is wanted
pub serial_closes : (delimiters : List (Option ℕ)) (columns : List ℕ) (inputs : List Presence)
    (column column' : ℕ) (joint : Joint) (i : ℕ) (made made' : List ℕ) (out out' : Queued)
    → is_at_first columns (length inputs) column (drop column columns) ≡ true
    → first_wanted (drop column columns) ≡ Take i → made ≡ repeated_line (get_or inputs i Missing)
    → PassesOperands delimiters columns inputs (column + 1) column' made made'
    → is_at_first columns (length inputs) column' (drop column' columns) ≡ true
    → contents out' ≡ contents out ++ made'
    → Closes i (joining delimiters columns inputs column joint)
    (joining delimiters columns inputs column' no_line) out out'
serial_closes delimiters columns inputs column column' joint i made made' out out' settled wants e p
    settled' added =
    let n = length inputs in
    let w = wanted_here columns column i wants in
    let low : i < n = (wanted_first columns n column (drop column columns) i settled wants).0 in
    let is = left_is columns column i wants in
    let shut : (j : ℕ) → (ltb j n && has_column (take column' columns) j)
    ≡ with_closed i (λ k. ltb k n && has_column (take column columns) k) j =
    λ j. p.closed j ∙ (ap (λ (b : Bool). ltb j n && b) (has_column_more columns column j (w.0))
    ∙ shut_by (eqb j i) n i j (get_or columns column 0)
    (has_column (take column columns) j) refl (w.1) low) in
    record {
      made = made';
      added = added;
      closed = shut;
      splits = λ ys h.
          let ins = inputs_on inputs ys in
          let after = operands_from delimiters columns ins (column + 1) in
          let none : ys i ≡ [] =
          h i (ap (λ (b : Bool). b || (ltb i n && has_column (take column columns) i))
          (eq-eqb i i refl)) in
          ap (λ (l : List ℕ). still_joined delimiters columns column joint l ins) is
          ∙ (ap (λ (x : List ℕ). line_on delimiters joint (by_presence (get_or inputs i Missing) x)
          ++ after) none
          ∙ (ap (λ (x : List ℕ). x ++ after) (ends_as (get_or inputs i Missing) delimiters joint
          ∙ sym e)
          ∙ (p.splits ys ∙ ap (λ (x : List ℕ). made' ++ x)
          (first_joined delimiters columns n column' (drop column' columns) ins settled'))));
      counts = λ ys h. omega arith;
    }

-- what calls wrote and found, whose arguments are these
pub joins_as : (delimiters ds : List (Option ℕ)) (joint joint' : Joint) (bytes bs m m' : List ℕ)
    → delimiters ≡ ds → bytes ≡ bs → m ≡ [] → JoinsBytes delimiters joint joint' bytes m m'
    → JoinsBytes ds joint joint' bs [] m'
joins_as delimiters ds joint joint' bytes bs m m' d b none j =
    subst (λ (x : List (Option ℕ)). JoinsBytes x joint joint' bs [] m') d
    (subst (λ (x : List ℕ). JoinsBytes delimiters joint joint' x [] m') b
    (subst (λ (x : List ℕ). JoinsBytes delimiters joint joint' bytes x m') none j))

pub passes_as : (delimiters : List (Option ℕ)) (columns cs : List ℕ) (inputs ps : List Presence)
    (p q : ℕ) (m m' : List ℕ) → columns ≡ cs → inputs ≡ ps
    → PassesOperands delimiters columns inputs p q m m' → PassesOperands delimiters cs ps p q m m'
passes_as delimiters columns cs inputs ps p q m m' c e h =
    subst (λ (x : List ℕ). PassesOperands delimiters x ps p q m m') c
    (subst (λ (x : List Presence). PassesOperands delimiters columns x p q m m') e h)

pub first_as : (columns cs : List ℕ) (inputs ps : List Presence) (p : ℕ) → columns ≡ cs
    → inputs ≡ ps → is_at_first columns (length inputs) p (drop p columns) ≡ true
    → is_at_first cs (length ps) p (drop p cs) ≡ true
first_as columns cs inputs ps p c e h =
    subst (λ (x : List ℕ). is_at_first x (length ps) p (drop p x) ≡ true) c
    (subst (λ (x : List Presence). is_at_first columns (length x) p (drop p columns)
    ≡ true) e h)
