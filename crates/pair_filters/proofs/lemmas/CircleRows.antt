-- Rows of the lines of one input, byte by byte.
use Rattle.std.proofs.Common.{◌≡◌, ◌≢◌, ℕ, suc, ◌+◌, ◌-◌, ◌<◌, ◌≤◌, Bool, true, false, cond, not}
use Rattle.std.proofs.Common.{eqb, ltb, List, [], ◌∷◌, ◌++◌, Option, length, get_or, set, drop}
use Rattle.std.proofs.Common.{refl, ap, ◌∙◌, sym, subst, arith}
use Rattle.std.specs.Prelude.{◌||◌}
use Rattle.std.proofs.lemmas.Bool.{eq-eqb, eqb-true, lt-ltb}
use Rattle.std.proofs.lemmas.List.{drop_more, get_or-set_other}
use Rattle.std.proofs.lemmas.List.Elements.{All-cons, All-nil}
use Rattle.machine.specs.Lines.{content, lines, newline, HasNoNewline}
use Rattle.machine.proofs.LinesLaws.{lines-open}
use Rattle.pair_filters.specs.Circles.{IsRow, after, ends_line, number_after, place_after, put_in}
use Rattle.pair_filters.specs.Intakes.{Left, intake, over, lines_with, first}
use Rattle.commands.specs.Paste.{Lines}
use Rattle.pair_filters.specs.TableRows.{still_written, still_behind}
use Rattle.pair_filters.specs.inner.TableSteps.{still_at, WritesCells}
use Rattle.pair_filters.specs.declared.table.Place.{Place}
use Rattle.pair_filters.proofs.lemmas.CellLaws.{inputs_same, lines_here, lines_same}
use Rattle.pair_filters.proofs.lemmas.IntakeLaws.{led_first, led_later, lines_some}
use Rattle.pair_filters.proofs.lemmas.StepLaws.{SameBut, cell_on, cell_over, leaves_column}
use Rattle.pair_filters.proofs.lemmas.StepLaws.{leaves_row, row_begins}

-- the lines of the inputs, if this is left of the one
abbrev lines_left : List Left → ℕ → Bool → List ℕ → (ℕ → List ℕ) → Lines
lines_left ss i closed x ys = lines_with (set ss i (record { left = x; closed = closed })) ys

same_but : (ss : List Left) (i : ℕ) (closed : Bool) (x y : List ℕ) (ys : ℕ → List ℕ)
    → SameBut i (lines_left ss i closed x ys) (lines_left ss i closed y ys)
same_but ss i closed x y ys =
    record {
      others = λ j apart.
          ap (λ (t : Left). lines (t.left ++ ys j))
          (get_or-set_other ss i j (record { left = y; closed = closed }) over apart
          ∙ sym (get_or-set_other ss i j (record { left = x; closed = closed }) over apart));
    }

begin_by : (begun : Bool) (ds : List (Option ℕ)) (cs : List ℕ) (k i : ℕ) (left : List ℕ)
    (ls : Lines) → (begun ≡ false → k ≡ 0) → 1 ≤ length (ls i)
    → still_written ds cs k begun (i ∷ left) ls ≡ still_written ds cs k true (i ∷ left) ls
begin_by true ds cs k i left ls h some = refl
begin_by false ds cs k i left ls h some =
    let none : k ≡ 0 = h refl in
    ap (λ (m : ℕ). still_written ds cs m false (i ∷ left) ls) none
    ∙ (row_begins ds cs 0 i left ls some
    ∙ ap (λ (m : ℕ). still_written ds cs m true (i ∷ left) ls) (sym none))

-- the columns that the row has left begin with the input
pub left_is : (ds : List (Option ℕ)) (cs circle : List ℕ) (k : ℕ) → IsRow ds cs circle
    → k < length cs → drop k cs ≡ get_or cs 0 0 ∷ drop (k + 1) cs
left_is ds cs circle k row low = drop_more cs k 0 low
    ∙ ap (λ (i : ℕ). i ∷ drop (k + 1) cs) (row.same k low)

not_nil : (x : ℕ) (xs : List ℕ) → x ∷ xs ≡ [] → ⊥
not_nil x xs h = let long = ap length h in omega (arith, long)

-- a row is begun by a byte
begins : (ds : List (Option ℕ)) (cs circle : List ℕ) (ss : List Left) (closed : Bool) (ys : ℕ
    → List ℕ) (place : Place) (x : ℕ) (xs : List ℕ) → IsRow ds cs circle → get_or cs 0 0 < length ss
    → place.column < length cs → (place.begun ≡ false → place.column ≡ 0)
    → still_at ds cs place (lines_left ss (get_or cs 0 0) closed (x ∷ xs) ys)
    ≡ still_written ds cs place.column true (get_or cs 0 0 ∷ drop (place.column + 1) cs)
    (lines_left ss (get_or cs 0 0) closed (x ∷ xs) ys)
begins ds cs circle ss closed ys place x xs row low within h =
    let i = get_or cs 0 0 in
    let ls = lines_left ss i closed (x ∷ xs) ys in
    let here : ls i ≡ lines ((x ∷ xs) ++ ys i) =
    lines_here ss i (record { left = x ∷ xs; closed = closed }) ys low in
    let some = lines_some (x ∷ xs) (ys i) (not_nil x xs) in
    let some' : 1 ≤ length (ls i) = subst (λ (l : List (List ℕ)). 1 ≤ length l) (sym here) some in
    ap (λ (l : List ℕ). still_written ds cs place.column place.begun l ls)
    (left_is ds cs circle place.column row within)
    ∙ begin_by place.begun ds cs place.column i (drop (place.column + 1) cs) ls h some'

-- a byte of a cell
step_plain : (ds : List (Option ℕ)) (cs circle : List ℕ) (ss : List Left) (closed : Bool) (ys : ℕ
    → List ℕ) (place : Place) (x : ℕ) (xs : List ℕ) → IsRow ds cs circle → get_or cs 0 0 < length ss
    → place.column < length cs → (place.begun ≡ false → place.column ≡ 0) → eqb x newline ≡ false
    → still_at ds cs place (lines_left ss (get_or cs 0 0) closed (x ∷ xs) ys)
    ≡ x ∷ still_at ds cs (record place { begun = true })
    (lines_left ss (get_or cs 0 0) closed xs ys)
step_plain ds cs circle ss closed ys place x xs row low within h other =
    let i = get_or cs 0 0 in
    let k = place.column in
    let ls = lines_left ss i closed (x ∷ xs) ys in
    let ls' = lines_left ss i closed xs ys in
    let here = lines_here ss i (record { left = x ∷ xs; closed = closed }) ys low in
    let here' = lines_here ss i (record { left = xs; closed = closed }) ys low in
    let plain : HasNoNewline (x ∷ []) = All-cons (λ y. eqb y newline ≡ false) x [] other
    (All-nil (λ y. eqb y newline ≡ false)) in
    let opened = here ∙ lines-open (x ∷ []) (xs ++ ys i) plain in
    begins ds cs circle ss closed ys place x xs row low within h
    ∙ (cell_on ds cs k i (drop (k + 1) cs) (x ∷ []) ls ls' (same_but ss i closed (x ∷ xs) xs ys)
    (ap (λ (l : List (List ℕ)). content (first l)) opened
    ∙ (led_first (x ∷ []) (lines (xs ++ ys i)) plain
    ∙ ap (λ (l : List (List ℕ)). x ∷ content (first l)) (sym here')))
    (ap (drop 1) opened ∙ (led_later (x ∷ []) (lines (xs ++ ys i)) ∙ ap (drop 1) (sym here')))
    ∙ ap (λ (l : List ℕ). x ∷ still_written ds cs k true l ls')
    (sym (left_is ds cs circle k row within)))

leaves_by : (b : Bool) (ds : List (Option ℕ)) (cs circle : List ℕ) (k : ℕ) (ls : Lines)
    → IsRow ds cs circle → k < length cs → eqb (k + 1) (length circle) ≡ b
    → still_behind ds cs k true (drop (k + 1) cs) ls
    ≡ get_or circle k 0 ∷ still_at ds cs (record { column = cond b 0 (k + 1); begun = not b }) ls
leaves_by true ds cs circle k ls row low e =
    let last : k + 1 ≡ length cs = eqb-true (k + 1) (length circle) e ∙ row.long in
    (leaves_row ds cs (record { column = k; begun = true }) [] (get_or circle k 0 ∷ []) low
    (omega (arith, last)) refl (ap (λ (c : ℕ). c ∷ []) (row.last k last))).splits ls
leaves_by false ds cs circle k ls row low e =
    let long = row.long in
    let apart : k + 1 ≢ length circle = λ h. let t : eqb (k + 1) (length circle) ≡ true =
    eq-eqb (k + 1) (length circle) h in
    absurd (cc) in
    let more : k + 1 < length cs = omega (arith, apart, low, long) in
    (leaves_column ds cs (record { column = k; begun = true }) [] (get_or circle k 0 ∷ []) more refl
    (sym (row.between k more))).splits ls

-- the newline of a cell
step_newline : (ds : List (Option ℕ)) (cs circle : List ℕ) (ss : List Left) (closed : Bool) (ys : ℕ
    → List ℕ) (place : Place) (x : ℕ) (xs : List ℕ) → IsRow ds cs circle → get_or cs 0 0 < length ss
    → place.column < length cs → (place.begun ≡ false → place.column ≡ 0) → eqb x newline ≡ true
    → still_at ds cs place (lines_left ss (get_or cs 0 0) closed (x ∷ xs) ys)
    ≡ get_or circle place.column 0 ∷ still_at ds cs
    (record {
      column = after (length circle) place.column;
      begun =
          not (eqb (place.column + 1) (length circle));
    }) (lines_left ss (get_or cs 0 0) closed xs ys)
step_newline ds cs circle ss closed ys place x xs row low within h is =
    let i = get_or cs 0 0 in
    let k = place.column in
    let ls = lines_left ss i closed (x ∷ xs) ys in
    let ls' = lines_left ss i closed xs ys in
    let here = lines_here ss i (record { left = x ∷ xs; closed = closed }) ys low in
    let here' = lines_here ss i (record { left = xs; closed = closed }) ys low in
    let whole : ls i ≡ (newline ∷ []) ∷ lines (xs ++ ys i) = here
    ∙ ap (λ (b : ℕ). lines (b ∷ (xs ++ ys i))) (eqb-true x newline is) in
    begins ds cs circle ss closed ys place x xs row low within h
    ∙ (cell_over ds cs k i (drop (k + 1) cs) [] ls ls' (same_but ss i closed (x ∷ xs) xs ys)
    (ap (λ (l : List (List ℕ)). content (first l)) whole) (ap (drop 1) whole ∙ sym here')
    ∙ leaves_by (eqb (k + 1) (length circle)) ds cs circle k ls' row within refl)

pub after_low : (b : Bool) (n k : ℕ) → eqb (k + 1) n ≡ b → k < n → cond b 0 (k + 1) < n
after_low true n k e low = omega (arith, low)
after_low false n k e low =
    let apart : k + 1 ≢ n = λ h. let t : eqb (k + 1) n ≡ true = eq-eqb (k + 1) n h in absurd (cc) in
    omega (arith, apart, low)

after_zero : (b : Bool) (k : ℕ) → not b ≡ false → cond b 0 (k + 1) ≡ 0
after_zero true k h = refl
after_zero false k h = absurd (cc)

-- what is written of bytes of the only input
abbrev WritesBytes : List (Option ℕ) → List ℕ → List ℕ → List Left → Bool → (ℕ → List ℕ) → Place
    → List ℕ → Type 0
WritesBytes ds cs circle ss closed ys place xs =
    still_at ds cs place (lines_left ss (get_or cs 0 0) closed xs ys)
    ≡ put_in circle place.column xs ++ still_at ds cs (place_after (length circle) place xs)
    (lines_left ss (get_or cs 0 0) closed [] ys)

rows_by : (b : Bool) (ds : List (Option ℕ)) (cs circle : List ℕ) (ss : List Left) (closed : Bool)
    (ys : ℕ → List ℕ) (place : Place) (x : ℕ) (xs : List ℕ) → IsRow ds cs circle
    → get_or cs 0 0 < length ss → place.column < length cs
    → (place.begun ≡ false → place.column ≡ 0)
    → ((place' : Place) → place'.column < length cs → (place'.begun ≡ false → place'.column ≡ 0)
    → WritesBytes ds cs circle ss closed ys place' xs) → eqb x newline ≡ b
    → still_at ds cs place (lines_left ss (get_or cs 0 0) closed (x ∷ xs) ys)
    ≡ cond b (get_or circle place.column 0 ∷ put_in circle (after (length circle) place.column) xs)
    (x ∷ put_in circle place.column xs) ++ still_at ds cs
    (cond b (place_after (length circle)
    (record {
      column = after (length circle) place.column;
      begun =
          not (eqb (place.column + 1) (length circle));
    }) xs)
    (place_after (length circle) (record place { begun = true }) xs))
    (lines_left ss (get_or cs 0 0) closed [] ys)
rows_by true ds cs circle ss closed ys place x xs row low within h later is =
    let n = length circle in
    let k = place.column in
    let long = row.long in
    let next : Place = record { column = after n k; begun = not (eqb (k + 1) n) } in
    let lower = after_low (eqb (k + 1) n) n k refl (omega (arith, within, long)) in
    step_newline ds cs circle ss closed ys place x xs row low within h is
    ∙ ap (λ (l : List ℕ). get_or circle k 0 ∷ l)
    (later next (omega (arith, lower, long)) (after_zero (eqb (k + 1) n) k))
rows_by false ds cs circle ss closed ys place x xs row low within h later other =
    step_plain ds cs circle ss closed ys place x xs row low within h other
    ∙ ap (λ (l : List ℕ). x ∷ l) (later (record place { begun = true }) within (λ e. absurd (cc)))

rows_put : (ds : List (Option ℕ)) (cs circle : List ℕ) (ss : List Left) (closed : Bool) (ys : ℕ
    → List ℕ) (place : Place) (xs : List ℕ) → IsRow ds cs circle → get_or cs 0 0 < length ss
    → place.column < length cs → (place.begun ≡ false → place.column ≡ 0)
    → WritesBytes ds cs circle ss closed ys place xs
rows_put ds cs circle ss closed ys place [] row low within h = refl
rows_put ds cs circle ss closed ys place (x ∷ xs) row low within h =
    rows_by (eqb x newline) ds cs circle ss closed ys place x xs row low within h
    (λ place' w g. rows_put ds cs circle ss closed ys place' xs row low w g) refl

-- a piece of it was put
pub piece_put : (ds : List (Option ℕ)) (cs circle : List ℕ) (ss : List Left) (s : Left) (i : ℕ)
    (place : Place) (piece : List ℕ) → IsRow ds cs circle → get_or cs place.column 0 ≡ i
    → i < length ss → place.column < length cs → (place.begun ≡ false → place.column ≡ 0)
    → (intake ss i).left ≡ [] → s ≡ record (intake ss i) { left = (intake ss i).left ++ piece }
    → WritesCells ds cs (set ss i s) ss place (place_after (length circle) place piece) []
    (put_in circle place.column piece)
piece_put ds cs circle ss s i place piece row here low within h none e =
    let closed = (intake ss i).closed in
    let is : i ≡ get_or cs 0 0 = sym here ∙ row.same place.column within in
    let plain : s ≡ record { left = piece; closed = closed } = e
    ∙ ap (λ (x : List ℕ). record { left = x ++ piece; closed = closed }) none in
    let back = inputs_same ss i s low (ap (λ (t : Left). t.closed) e) in
    record {
      same = record { count = sym back.count; closed = λ j. sym (back.closed j) };
      splits = λ ys over'.
          ap (λ (t : Left). still_at ds cs place (lines_with (set ss i t) ys)) plain
          ∙ (ap (λ (j : ℕ). still_at ds cs place (lines_left ss j closed piece ys)) is
          ∙ (rows_put ds cs circle ss closed ys place piece row
          (subst (λ (j : ℕ). j < length ss) is low) within h
          ∙ (ap (λ (j : ℕ). put_in circle place.column piece ++ still_at ds cs
          (place_after (length circle) place piece) (lines_left ss j closed [] ys)) (sym is)
          ∙ ap (λ (ls : Lines). put_in circle place.column piece ++ still_at ds cs
          (place_after (length circle) place piece) ls)
          (lines_same ss i (record { left = []; closed = closed }) ys low (sym none)))));
    }

or_true : (b : Bool) → (b || true) ≡ true
or_true true = refl
or_true false = refl

begun_by : (b : Bool) (k : ℕ) → not b ≡ (ltb 0 (cond b 0 (k + 1)) || false)
begun_by true k = refl
begun_by false k = sym (ap (λ (c : Bool). c || false) (lt-ltb 0 (k + 1) (omega arith)))

abbrev pub at_place : ℕ → Bool → Place
at_place k begun = record { column = k; begun = begun }

last_by : (b : Bool) (n k : ℕ) → cond b (at_place (after n k) (not (eqb (k + 1) n)))
    (at_place k true) ≡ at_place (cond b (after n k) k) (ltb 0 (cond b (after n k) k) || not b)
last_by true n k = ap (λ (c : Bool). at_place (after n k) c) (begun_by (eqb (k + 1) n) k)
last_by false n k = ap (λ (c : Bool). at_place k c) (sym (or_true (ltb 0 k)))

more_by : (b : Bool) (n : ℕ) (place : Place) (xs : List ℕ)
    → ((place' : Place) → place_after n place' xs ≡ at_place (number_after n place'.column xs)
    (ltb 0 (number_after n place'.column xs) || not (ends_line xs)))
    → cond b (place_after n (at_place (after n place.column) (not (eqb (place.column + 1) n))) xs)
    (place_after n (at_place place.column true) xs)
    ≡ at_place (cond b (number_after n (after n place.column) xs) (number_after n place.column xs))
    (ltb 0 (cond b (number_after n (after n place.column) xs)
    (number_after n place.column xs)) || not (ends_line xs))
more_by true n place xs h = h (at_place (after n place.column) (not (eqb (place.column + 1) n)))
more_by false n place xs h = h (at_place place.column true)

-- the place after bytes, by the number of the next newline and by the last byte
pub place_is : (n : ℕ) (place : Place) (xs : List ℕ) → 1 ≤ length xs
    → place_after n place xs ≡ at_place (number_after n place.column xs)
    (ltb 0 (number_after n place.column xs) || not (ends_line xs))
place_is n place [] some = absurd (omega (arith, some))
place_is n place (x ∷ []) some = last_by (eqb x newline) n place.column
place_is n place (x ∷ y ∷ ys) some = more_by (eqb x newline) n place (y ∷ ys)
    (λ place'. place_is n place' (y ∷ ys) (omega arith))

-- whether a newline is at the end, by the last byte
pub ends_last : (xs : List ℕ) → 1 ≤ length xs
    → eqb (get_or xs (length xs - 1) 0) newline ≡ ends_line xs
ends_last [] some = absurd (omega (arith, some))
ends_last (x ∷ []) some =
    let e : length (x ∷ []) - 1 ≡ 0 = omega arith in
    ap (λ (k : ℕ). eqb (get_or (x ∷ []) k 0) newline) e
ends_last (x ∷ y ∷ ys) some =
    let e : length (x ∷ y ∷ ys) - 1 ≡ suc (length (y ∷ ys) - 1) = omega arith in
    ap (λ (k : ℕ). eqb (get_or (x ∷ y ∷ ys) k 0) newline) e ∙ ends_last (y ∷ ys) (omega arith)

place_found : (n : ℕ) (place : Place) (xs : List ℕ) (column : ℕ) (begun : Bool) → 1 ≤ length xs
    → column ≡ number_after n place.column xs → begun ≡ (ltb 0 column || not (ends_line xs))
    → at_place column begun ≡ place_after n place xs
place_found n place xs column begun some c b =
    ap (at_place column) b ∙ (ap (λ (k : ℕ). at_place k (ltb 0 k || not (ends_line xs))) c
    ∙ sym (place_is n place xs some))

-- the same within a row
pub place_within : (n : ℕ) (place : Place) (xs : List ℕ) (column : ℕ) (begun : Bool) → 1 ≤ length xs
    → column ≡ number_after n place.column xs → 0 < column → begun ≡ ltb 0 column
    → at_place column begun ≡ place_after n place xs
place_within n place xs column begun some c low b =
    let t : ltb 0 column ≡ true = lt-ltb 0 column low in
    place_found n place xs column begun some c (b
    ∙ (t ∙ ap (λ (g : Bool). g || not (ends_line xs)) (sym t)))

-- and at its first column
pub place_first : (n : ℕ) (place : Place) (xs : List ℕ) (column : ℕ) (begun : Bool) → 1 ≤ length xs
    → column ≡ number_after n place.column xs → column ≤ 0
    → begun ≡ not (eqb (get_or xs (length xs - 1) 0) newline)
    → at_place column begun ≡ place_after n place xs
place_first n place xs column begun some c low b =
    let none : column ≡ 0 = omega (arith, low) in
    place_found n place xs column begun some c (b
    ∙ (ap not (ends_last xs some) ∙ ap (λ (k : ℕ). ltb 0 k || not (ends_line xs)) (sym none)))
