-- Lines that are joined by the bytes of a circle, byte by byte.
use Rattle.std.proofs.Common.{◌≡◌, ℕ, zero, suc, ◌+◌, ◌%◌, ◌<◌, ◌≤◌, Bool, true, false, cond, eqb}
use Rattle.std.proofs.Common.{ltb, List, [], ◌∷◌, ◌++◌, Option, Some, None, length, get_or, map}
use Rattle.std.proofs.Common.{le-ltb, refl, ap, ◌∙◌, sym, arith}
use Rattle.std.proofs.lemmas.Bool.{eqb-true, lt-ltb}
use Rattle.std.proofs.lemmas.List.{length-map}
use Rattle.std.proofs.lemmas.List.Elements.{All-cons, All-nil}
use Rattle.std.proofs.Common.{mod-eq_of_lt}
use Rattle.machine.specs.Lines.{content, lines, newline, HasNoNewline}
use Rattle.machine.proofs.LinesLaws.{lines-open}
use Rattle.pair_filters.specs.Circles.{after, ends_line, number_after, put_in}
use Rattle.commands.specs.Delimiters.{behind, byte_of, delimiter, joined_from}
use Rattle.pair_filters.specs.Joins.{joined_on, JoinsBytes}
use Rattle.pair_filters.specs.declared.serial.Joint.{Joint}
use Rattle.pair_filters.proofs.lemmas.CircleLaws.{last_circle}
use Rattle.pair_filters.proofs.lemmas.CircleRows.{after_low}
use Rattle.pair_filters.proofs.lemmas.IntakeLaws.{lines_some}
use Rattle.pair_filters.proofs.lemmas.JoinLaws.{led_joined}

read_some : (circle : List ℕ) (k : ℕ) → k < length circle
    → get_or (map Some circle) k None ≡ Some (get_or circle k 0)
read_some [] k low = absurd (omega (arith, low))
read_some (x ∷ xs) zero low = refl
read_some (x ∷ xs) (suc k) low = read_some xs k (omega (arith, low))

delimiter_is : (circle : List ℕ) (k : ℕ) → k < length circle
    → delimiter (map Some circle) k ≡ get_or circle k 0 ∷ []
delimiter_is circle k low =
    let same : length (map Some circle) ≡ length circle = length-map circle Some in
    ap (λ (n : ℕ). byte_of (get_or (map Some circle) (k % n) None)) same
    ∙ (ap (λ (j : ℕ). byte_of (get_or (map Some circle) j None)) (mod-eq_of_lt low)
    ∙ ap byte_of (read_some circle k low))

next_by : (b : Bool) (circle : List ℕ) (k : ℕ) (cells : List (List ℕ)) → k < length circle
    → eqb (k + 1) (length circle) ≡ b → behind (map Some circle) (k + 1) cells
    ≡ behind (map Some circle) (cond b 0 (k + 1)) cells
next_by true circle k cells low e =
    let same : length (map Some circle) ≡ length circle = length-map circle Some in
    let last : k + 1 ≡ length (map Some circle) = eqb-true (k + 1) (length circle) e ∙ sym same in
    sym (last_circle (map Some circle) k k cells
    (sym (ap (λ (n : ℕ). k % n) same ∙ mod-eq_of_lt low)) last)
next_by false circle k cells low e = refl

-- a line after the delimiter that is due
due_step : (circle : List ℕ) (k : ℕ) (ls : List (List ℕ)) → k < length circle → 1 ≤ length ls
    → behind (map Some circle) k (map content ls) ≡ get_or circle k 0 ∷ joined_from
    (map Some circle) (after (length circle) k) (map content ls)
due_step circle k [] low some = absurd (omega (arith, some))
due_step circle k (l ∷ ls) low some =
    let ds : List (Option ℕ) = map Some circle in
    ap (λ (d : List ℕ). (d ++ content l) ++ behind ds (k + 1) (map content ls))
    (delimiter_is circle k low)
    ∙ ap (λ (x : List ℕ). get_or circle k 0 ∷ (content l ++ x))
    (next_by (eqb (k + 1) (length circle)) circle k (map content ls) low refl)

not_nil : (x : ℕ) (xs : List ℕ) → x ∷ xs ≡ [] → ⊥
not_nil x xs h = let long = ap length h in omega (arith, long)

-- what is written of these bytes, if no delimiter is due before them
abbrev Joins : List ℕ → List ℕ → ℕ → List ℕ → Type 0
Joins circle zs k xs =
    joined_from (map Some circle) k (map content (lines (xs ++ zs)))
    ≡ put_in circle k (content xs) ++ joined_on (map Some circle)
    (record { next = number_after (length circle) k (content xs); due = ends_line xs })
    (map content (lines zs))

one_plain : (x : ℕ) → eqb x newline ≡ false → HasNoNewline (x ∷ [])
one_plain x e = All-cons (λ y. eqb y newline ≡ false) x [] e (All-nil (λ y. eqb y newline ≡ false))

byte_plain : (circle : List ℕ) (k x : ℕ) (ys : List ℕ) → eqb x newline ≡ false
    → joined_from (map Some circle) k (map content (lines (x ∷ ys)))
    ≡ x ∷ joined_from (map Some circle) k (map content (lines ys))
byte_plain circle k x ys e =
    ap (λ (ls : List (List ℕ)). joined_from (map Some circle) k (map content ls))
    (lines-open (x ∷ []) ys (one_plain x e))
    ∙ led_joined (map Some circle) k (x ∷ []) (lines ys) (one_plain x e)

byte_newline : (circle : List ℕ) (k x : ℕ) (ys : List ℕ) → eqb x newline ≡ true
    → joined_from (map Some circle) k (map content (lines (x ∷ ys)))
    ≡ behind (map Some circle) k (map content (lines ys))
byte_newline circle k x ys e =
    ap (λ (b : ℕ). joined_from (map Some circle) k (map content (lines (b ∷ ys))))
    (eqb-true x newline e)

last_by : (b : Bool) (circle zs : List ℕ) (k x : ℕ) → eqb x newline ≡ b
    → joined_from (map Some circle) k (map content (lines (x ∷ zs)))
    ≡ put_in circle k (cond b [] (x ∷ [])) ++ joined_on (map Some circle)
    (record { next = number_after (length circle) k (cond b [] (x ∷ [])); due = b })
    (map content (lines zs))
last_by true circle zs k x e = byte_newline circle k x zs e
last_by false circle zs k x e =
    byte_plain circle k x zs e
    ∙ (ap (λ (b : Bool). cond b (get_or circle k 0 ∷ []) (x ∷ []) ++ joined_from (map Some circle) k
    (map content (lines zs))) (sym e)
    ∙ ap (λ (b : Bool). cond (eqb x newline) (get_or circle k 0 ∷ []) (x ∷ []) ++ joined_from
    (map Some circle) (cond b (after (length circle) k) k) (map content (lines zs))) (sym e))

more_by : (b : Bool) (circle zs : List ℕ) (k x : ℕ) (ys : List ℕ) → k < length circle
    → 1 ≤ length ys → ((j : ℕ) → j < length circle → Joins circle zs j ys) → eqb x newline ≡ b
    → joined_from (map Some circle) k (map content (lines (x ∷ (ys ++ zs))))
    ≡ cond b (get_or circle k 0 ∷ put_in circle (after (length circle) k) (content ys))
    (x ∷ put_in circle k (content ys)) ++ joined_on (map Some circle)
    (record {
      next = cond b (number_after (length circle) (after (length circle) k) (content ys))
          (number_after (length circle) k (content ys));
      due = ends_line ys;
    }) (map content (lines zs))
more_by true circle zs k x ys low some later e =
    byte_newline circle k x (ys ++ zs) e
    ∙ (due_step circle k (lines (ys ++ zs)) low
    (lines_some ys zs (λ none. let long = ap length none in omega (arith, some, long)))
    ∙ ap (λ (l : List ℕ). get_or circle k 0 ∷ l)
    (later (after (length circle) k)
    (after_low (eqb (k + 1) (length circle)) (length circle) k refl low)))
more_by false circle zs k x ys low some later e = byte_plain circle k x (ys ++ zs) e
    ∙ ap (λ (l : List ℕ). x ∷ l) (later k low)

joins : (circle zs : List ℕ) (k : ℕ) (xs : List ℕ) → k < length circle → 1 ≤ length xs
    → Joins circle zs k xs
joins circle zs k [] low some = absurd (omega (arith, some))
joins circle zs k (x ∷ []) low some = last_by (eqb x newline) circle zs k x refl
joins circle zs k (x ∷ y ∷ ys) low some =
    more_by (eqb x newline) circle zs k x (y ∷ ys) low (omega arith)
    (λ j h. joins circle zs j (y ∷ ys) h (omega arith)) refl

long_by : (b : Bool) (x : ℕ) → length (cond b [] (x ∷ [])) + cond b 1 0 ≡ 1
long_by true x = omega arith
long_by false x = omega arith

long : (xs : List ℕ) → length (content xs) + cond (ends_line xs) 1 0 ≡ length xs
long [] = omega arith
long (x ∷ []) = long_by (eqb x newline) x
long (x ∷ y ∷ ys) = let e = long (y ∷ ys) in omega (arith, e)

below_by : (b : Bool) (m n : ℕ) → m + cond b 1 0 ≡ n → ltb m n ≡ b
below_by true m n e = lt-ltb m n (omega (arith, e))
below_by false m n e = le-ltb m n (omega (arith, e))

-- a newline is at the end of what is longer than its content
shorter : (xs : List ℕ) → ltb (length (content xs)) (length xs) ≡ ends_line xs
shorter xs = below_by (ends_line xs) (length (content xs)) (length xs) (long xs)

-- a piece, with no delimiter due before it
pub piece_joined : (circle : List ℕ) (joint : Joint) (xs made : List ℕ) (next : ℕ)
    → joint.due ≡ false → joint.next < length circle → 1 ≤ length xs
    → made ≡ put_in circle joint.next (content xs)
    → next ≡ number_after (length circle) joint.next (content xs)
    → JoinsBytes (map Some circle) joint
    (record { next = next; due = ltb (length (content xs)) (length xs) }) xs [] made
piece_joined circle joint xs made next none low some e n =
    let ds : List (Option ℕ) = map Some circle in
    record {
      splits = λ zs.
          let cells = map content (lines (xs ++ zs)) in
          let cells' = map content (lines zs) in
          ap (λ (b : Bool). cond b (behind ds joint.next cells) (joined_from ds joint.next cells))
          none
          ∙ (joins circle zs joint.next xs low some
          ∙ (ap (λ (x : List ℕ). x ++ joined_on ds
          (record {
            next = number_after (length circle) joint.next (content xs);
            due =
                ends_line xs;
          }) cells') (sym e)
          ∙ (ap (λ (m : ℕ). made ++ joined_on ds (record { next = m; due = ends_line xs }) cells')
          (sym n)
          ∙ ap (λ (b : Bool). made ++ joined_on ds (record { next = next; due = b }) cells')
          (sym (shorter xs)))));
    }

-- and with one
pub piece_joined_due : (circle : List ℕ) (joint : Joint) (xs made : List ℕ) (next : ℕ)
    → joint.due ≡ true → joint.next < length circle → 1 ≤ length xs
    → made ≡ put_in circle joint.next (newline ∷ content xs)
    → next ≡ number_after (length circle) joint.next (newline ∷ content xs)
    → JoinsBytes (map Some circle) joint
    (record { next = next; due = ltb (length (content xs)) (length xs) }) xs [] made
piece_joined_due circle joint xs made next due low some e n =
    let ds : List (Option ℕ) = map Some circle in
    let k = joint.next in
    let k' = after (length circle) k in
    record {
      splits = λ zs.
          let ls = lines (xs ++ zs) in
          let cells' = map content (lines zs) in
          ap (λ (b : Bool). cond b (behind ds k (map content ls))
          (joined_from ds k (map content ls))) due
          ∙ (due_step circle k ls low
          (lines_some xs zs (λ none. let long = ap length none in omega (arith, some, long)))
          ∙ (ap (λ (l : List ℕ). get_or circle k 0 ∷ l)
          (joins circle zs k' xs
          (after_low (eqb (k + 1) (length circle)) (length circle) k refl low) some)
          ∙ (ap (λ (x : List ℕ). x ++ joined_on ds
          (record { next = number_after (length circle) k' (content xs); due = ends_line xs })
          cells') (sym e)
          ∙ (ap (λ (m : ℕ). made ++ joined_on ds (record { next = m; due = ends_line xs }) cells')
          (sym n)
          ∙ ap (λ (b : Bool). made ++ joined_on ds (record { next = next; due = b }) cells')
          (sym (shorter xs))))));
    }
