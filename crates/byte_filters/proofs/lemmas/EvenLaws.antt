-- Bytes that move the column by one, as many as a segment has of them.
use Rattle.std.proofs.Common.{◌≡◌, ℕ, zero, suc, ◌+◌, ◌-◌, ◌*◌, ◌/◌, ◌<◌, ◌≤◌, List, [], ◌∷◌, Bool}
use Rattle.std.proofs.Common.{true, false, cond, get_or, take, length, Option, Some, None, refl, ap}
use Rattle.std.proofs.Common.{◌∙◌, sym, arith, eqb}
use Rattle.std.specs.Prelude.{◌&&◌, ◌||◌, not, nat_le, nat_lt}
use Rattle.std.specs.List.{prefix_len}
use Rattle.std.proofs.lemmas.Bool.{false_from_ne_true}
use Rattle.std.proofs.lemmas.Bool.Decides.{nat_tests}
use Rattle.machine.specs.Lines.{newline}
use Rattle.command_words.specs.Bytes.{is_blank_byte}
use Rattle.commands.specs.declared.fold_words.FoldForm.{FoldForm}
use Rattle.byte_filters.specs.declared.segment.Scan.{Scan}
use Rattle.byte_filters.specs.declared.segment.SegmentStep.TheVariants.{Goes, Ends}
use Rattle.byte_filters.specs.declared.segment.SegmentEnd.{SegmentEnd}
use Rattle.byte_filters.specs.declared.segment.SegmentEnd.TheVariants.{Cut, Line, Open}
use Rattle.commands.specs.Fold.{begins_back, column_after, is_back, is_break, last_break}
use Rattle.byte_filters.specs.inner.Scans.{begun, column_within, found_before, is_even, is_inside}
use Rattle.byte_filters.specs.inner.Scans.{next_step, scan_of, scan_step, scanned, step_by, unfit}
use Rattle.byte_filters.proofs.lemmas.SkipLaws.{fewer, first_plain, le_is}

-- ---- one byte

adds_by : (b i j k : Bool) (c tab : ℕ) → (b || not (i || j || k)) ≡ true
    → cond b (c + 1) (cond i (c - 1) (cond k 0 (cond j tab (c + 1)))) ≡ c + 1
adds_by true i j k c tab h = refl
adds_by false true j k c tab h = absurd (cc)
adds_by false false true k c tab h = absurd (cc)
adds_by false false false true c tab h = absurd (cc)
adds_by false false false false c tab h = refl

-- it adds one
even_adds : (spec : FoldForm) (c x : ℕ) → is_even spec x ≡ true → column_after spec c x ≡ c + 1
even_adds spec c x h = adds_by spec.bytes (eqb x 8) (eqb x 9) (eqb x 13) c ((c / 8 + 1) * 8) h

no_back_by : (b i j k : Bool) → (b || not (i || j || k)) ≡ true → (b || not (i || k)) ≡ true
no_back_by true i j k h = refl
no_back_by false true j k h = absurd (cc)
no_back_by false false true k h = absurd (cc)
no_back_by false false false true h = absurd (cc)
no_back_by false false false false h = refl

-- it is no backspace or carriage return, if those matter
even_stays : (spec : FoldForm) (x : ℕ) → is_even spec x ≡ true
    → (spec.bytes || not (is_back x)) ≡ true
even_stays spec x h = no_back_by spec.bytes (eqb x 8) (eqb x 9) (eqb x 13) h

neither_back : (b i j : Bool) → (b || not i) ≡ true → (b || not j) ≡ true
    → (not b && (i || j)) ≡ false
neither_back true i j h k = refl
neither_back false true j h k = absurd (cc)
neither_back false false true h k = absurd (cc)
neither_back false false false h k = refl

pub not_so : (b : Bool) → not b ≡ true → b ≡ false
not_so true h = absurd (cc)
not_so false h = refl

pub so : (b : Bool) → not b ≡ false → b ≡ true
so true h = refl
so false h = absurd (cc)

not_below : (a b : ℕ) → a ≡ b → nat_le (a + 1) b ≡ false
not_below a b h = grind (arith, nat_tests)

-- what is known once such a byte is there
abbrev pub one_on : FoldForm → Scan → ℕ → Scan
one_on spec s x = record {
  column = s.column + 1;
  over = false;
  last = x;
  at = s.at + 1;
  found =
      found_before spec s x;
}

-- one that fits
pub one_even : (spec : FoldForm) (s : Scan) (x : ℕ) (xs : List ℕ) → s.over ≡ false
    → is_even spec x ≡ true → is_inside x ≡ true → s.column + 1 ≤ spec.width
    → scanned spec s (x ∷ xs) ≡ scanned spec (one_on spec s x) xs
one_even spec s x xs over even inside fit =
    let next = λ (t : Scan). scanned spec t xs in
    let column : column_within spec s.column x ≡ Some (s.column + 1) =
    ap (λ (c : ℕ). cond (nat_le c spec.width) (Some c) None) (even_adds spec s.column x even)
    ∙ ap (λ (b : Bool). cond b (Some (s.column + 1)) None)
    (le_is (s.column + 1) spec.width fit) in
    ap (λ (b : Bool). cond b (Line (s.at + 1)) (scan_step next (next_step spec s x)))
    (not_so (eqb x newline) inside)
    ∙ (ap (λ (b : Bool). scan_step next
    (cond b (unfit spec s x) (step_by spec s x (column_within spec s.column x)))) over
    ∙ ap (λ (o : Option ℕ). scan_step next (step_by spec s x o)) column)

-- ---- a segment that is cut

-- the cut of a line if n bytes of it fit, and the last place for a cut among them is b
abbrev pub cut_or : ℕ → ℕ → ℕ
cut_or b n = cond (nat_lt 0 b) b n

cut_by : (k : Bool) (next : Scan → SegmentEnd) (b n : ℕ)
    → scan_step next (cond k (Ends b) (Ends n)) ≡ Cut (cond k b n)
cut_by true next b n = refl
cut_by false next b n = refl

-- a byte that does not fit
one_unfit : (spec : FoldForm) (s : Scan) (x : ℕ) (xs : List ℕ) → s.over ≡ false
    → is_even spec s.last ≡ true → is_even spec x ≡ true → is_inside x ≡ true
    → s.column ≡ spec.width → scanned spec s (x ∷ xs)
    ≡ Cut (cut_or (found_before spec s x) (s.at + 1))
one_unfit spec s x xs over before even inside full =
    let next = λ (t : Scan). scanned spec t xs in
    let f = found_before spec s x in
    let column : column_within spec s.column x ≡ None =
    ap (λ (c : ℕ). cond (nat_le c spec.width) (Some c) None) (even_adds spec s.column x even)
    ∙ ap (λ (b : Bool). cond b (Some (s.column + 1)) None)
    (not_below s.column spec.width full) in
    ap (λ (b : Bool). cond b (Line (s.at + 1)) (scan_step next (next_step spec s x)))
    (not_so (eqb x newline) inside)
    ∙ (ap (λ (b : Bool). scan_step next
    (cond b (unfit spec s x) (step_by spec s x (column_within spec s.column x)))) over
    ∙ (ap (λ (o : Option ℕ). scan_step next (step_by spec s x o)) column
    ∙ (ap (λ (b : Bool). scan_step next
    (cond (nat_lt 0 f) (Ends f)
    (cond b (Goes (scan_of None x (s.at + 1) f)) (Ends (s.at + 1)))))
    (neither_back spec.bytes (is_back s.last) (is_back x) (even_stays spec s.last before)
    (even_stays spec x even))
    ∙ cut_by (nat_lt 0 f) next f (s.at + 1))))

-- n bytes that fit, and one that does not
even_cut : (n : ℕ) (spec : FoldForm) (s : Scan) (xs : List ℕ) → s.over ≡ false
    → is_even spec s.last ≡ true → suc n ≤ prefix_len (is_even spec) xs
    → suc n ≤ prefix_len is_inside xs → s.column + n ≡ spec.width
    → scanned spec s xs ≡ Cut (cut_or (last_break spec s.found s.at (suc n) (s.last ∷ xs))
    (s.at + n + 1))
even_cut n spec s [] over before even inside full = absurd (omega arith)
even_cut zero spec s (x ∷ xs) over before even inside full =
    one_unfit spec s x xs over before
    (first_plain (is_even spec x) 0 (prefix_len (is_even spec) xs) even)
    (first_plain (is_inside x) 0 (prefix_len is_inside xs) inside) (omega arith)
    ∙ ap (λ (m : ℕ). Cut (cut_or (found_before spec s x) m))
    (let e : s.at + 1 ≡ s.at + 0 + 1 = omega arith in e)
even_cut (suc n) spec s (x ∷ xs) over before even inside full =
    let here = first_plain (is_even spec x) (suc n) (prefix_len (is_even spec) xs) even in
    one_even spec s x xs over here
    (first_plain (is_inside x) (suc n) (prefix_len is_inside xs) inside) (omega arith)
    ∙ (even_cut n spec (one_on spec s x) xs refl here
    (fewer (is_even spec x) (suc n) (prefix_len (is_even spec) xs) even)
    (fewer (is_inside x) (suc n) (prefix_len is_inside xs) inside) (omega arith)
    ∙ ap (λ (m : ℕ). Cut
    (cut_or (last_break spec (found_before spec s x) (s.at + 1) (suc n) (x ∷ xs)) m))
    (let e : s.at + 1 + n + 1 ≡ s.at + suc n + 1 = omega arith in e))

-- ---- a line that fits

none_inside : (b : Bool) (more : ℕ) → 0 ≡ cond b (1 + more) 0 → b ≡ false
none_inside true more h = absurd (omega arith)
none_inside false more h = refl

one_less : (b : Bool) (n more : ℕ) → suc n ≡ cond b (1 + more) 0 → n ≡ more
one_less true n more h = omega arith
one_less false n more h = absurd (omega arith)

-- n bytes that fit, and a newline
even_line : (n : ℕ) (spec : FoldForm) (s : Scan) (xs : List ℕ) → s.over ≡ false
    → n ≡ prefix_len is_inside xs → n ≤ prefix_len (is_even spec) xs → n < length xs
    → s.column + n ≤ spec.width → scanned spec s xs ≡ Line (s.at + 1 + n)
even_line n spec s [] over inside even more fit = absurd (omega arith)
even_line zero spec s (x ∷ xs) over inside even more fit =
    ap (λ (b : Bool). cond b (Line (s.at + 1))
    (scan_step (λ (t : Scan). scanned spec t xs) (next_step spec s x)))
    (so (eqb x newline) (none_inside (is_inside x) (prefix_len is_inside xs) inside))
    ∙ ap Line (let e : s.at + 1 ≡ s.at + 1 + 0 = omega arith in e)
even_line (suc n) spec s (x ∷ xs) over inside even more fit =
    one_even spec s x xs over (first_plain (is_even spec x) n (prefix_len (is_even spec) xs) even)
    (first_plain (is_inside x) n (prefix_len is_inside xs) (omega arith)) (omega arith)
    ∙ (even_line n spec (one_on spec s x) xs refl
    (one_less (is_inside x) n (prefix_len is_inside xs) inside)
    (fewer (is_even spec x) n (prefix_len (is_even spec) xs) even) (omega arith) (omega arith)
    ∙ ap Line (let e : s.at + 1 + 1 + n ≡ s.at + 1 + suc n = omega arith in e))

-- bytes that fit, and nothing after them
even_open : (xs : List ℕ) (spec : FoldForm) (s : Scan) → s.over ≡ false
    → length xs ≤ prefix_len is_inside xs → length xs ≤ prefix_len (is_even spec) xs
    → s.column + length xs ≤ spec.width → (t : Scan) × (scanned spec s xs ≡ Open t)
even_open [] spec s over inside even fit = (s, refl)
even_open (x ∷ xs) spec s over inside even fit =
    let on = even_open xs spec (one_on spec s x) refl
    (fewer (is_inside x) (length xs) (prefix_len is_inside xs) inside)
    (fewer (is_even spec x) (length xs) (prefix_len (is_even spec) xs) even) (omega arith) in (
      on.0,
      one_even spec s x xs over
          (first_plain (is_even spec x) (length xs) (prefix_len (is_even spec) xs) even)
          (first_plain (is_inside x) (length xs) (prefix_len is_inside xs) inside) (omega arith)
          ∙ on.1,
    )

-- ---- from the first byte of a segment

-- a first byte that fits
abbrev first_on : ℕ → Scan
first_on x = record { column = 1; over = false; last = x; at = 0; found = 0 }

begun_even : (spec : FoldForm) (x : ℕ) → is_even spec x ≡ true → 1 ≤ spec.width
    → begun spec x ≡ first_on x
begun_even spec x even some =
    ap (λ (c : ℕ). scan_of (cond (nat_le c spec.width) (Some c) None) x 0 0)
    (even_adds spec 0 x even)
    ∙ ap (λ (b : Bool). scan_of (cond b (Some 1) None) x 0 0) (le_is 1 spec.width some)

pub first_cut : (n : ℕ) (spec : FoldForm) (x : ℕ) (xs : List ℕ) → spec.width ≡ suc n
    → suc (suc n) ≤ prefix_len (is_even spec) (x ∷ xs) → suc (suc n) ≤ prefix_len is_inside (x ∷ xs)
    → scanned spec (begun spec x) xs ≡ Cut (cut_or (last_break spec 0 0 (suc n) (x ∷ xs)) (suc n))
first_cut n spec x xs width even inside =
    let here = first_plain (is_even spec x) (suc n) (prefix_len (is_even spec) xs) even in
    ap (λ (s : Scan). scanned spec s xs) (begun_even spec x here (omega arith))
    ∙ (even_cut n spec (first_on x) xs refl here
    (fewer (is_even spec x) (suc n) (prefix_len (is_even spec) xs) even)
    (fewer (is_inside x) (suc n) (prefix_len is_inside xs) inside) (omega arith)
    ∙ ap (λ (m : ℕ). Cut (cut_or (last_break spec 0 0 (suc n) (x ∷ xs)) m))
    (let e : 0 + n + 1 ≡ suc n = omega arith in e))

pub first_line : (n : ℕ) (spec : FoldForm) (x : ℕ) (xs : List ℕ)
    → suc n ≡ prefix_len is_inside (x ∷ xs) → suc n ≤ prefix_len (is_even spec) (x ∷ xs)
    → suc n < length (x ∷ xs) → suc n ≤ spec.width → scanned spec (begun spec x) xs ≡ Line (suc n)
first_line n spec x xs inside even more fit =
    ap (λ (s : Scan). scanned spec s xs)
    (begun_even spec x (first_plain (is_even spec x) n (prefix_len (is_even spec) xs) even)
    (omega arith))
    ∙ (even_line n spec (first_on x) xs refl
    (one_less (is_inside x) n (prefix_len is_inside xs) inside)
    (fewer (is_even spec x) n (prefix_len (is_even spec) xs) even) (omega arith) (omega arith)
    ∙ ap Line (let e : 0 + 1 + n ≡ suc n = omega arith in e))

pub first_open : (spec : FoldForm) (x : ℕ) (xs : List ℕ)
    → length (x ∷ xs) ≤ prefix_len is_inside (x ∷ xs)
    → length (x ∷ xs) ≤ prefix_len (is_even spec) (x ∷ xs) → length (x ∷ xs) ≤ spec.width
    → (t : Scan) × (scanned spec (begun spec x) xs ≡ Open t)
first_open spec x xs inside even fit =
    let on = even_open xs spec (first_on x) refl
    (fewer (is_inside x) (length xs) (prefix_len is_inside xs) inside)
    (fewer (is_even spec x) (length xs) (prefix_len (is_even spec) xs) even) (omega arith) in (
      on.0,
      ap (λ (s : Scan). scanned spec s xs)
          (begun_even spec x (first_plain (is_even spec x) (length xs)
          (prefix_len (is_even spec) xs) even) (omega arith)) ∙ on.1,
    )

-- ---- the last place for a cut

all_stay : (spec : FoldForm) (xs : List ℕ) → length xs ≤ prefix_len (is_even spec) xs
    → (spec.bytes || not (begins_back xs)) ≡ true
all_stay spec [] h = either_way spec.bytes
  where
    either_way : (b : Bool) → (b || true) ≡ true
    either_way true = refl
    either_way false = refl
all_stay spec (x ∷ xs) h =
    even_stays spec x (first_plain (is_even spec x) (length xs) (prefix_len (is_even spec) xs) h)

break_by : (s blank stays : Bool) → s ≡ true → stays ≡ true → (s && (blank && stays)) ≡ blank
break_by true true true h k = refl
break_by true false true h k = refl
break_by true blank false h k = absurd (cc)
break_by false blank stays h k = absurd (cc)

-- a cut may be after each blank
blank_breaks : (spec : FoldForm) (x : ℕ) (xs : List ℕ) → spec.spaces ≡ true
    → length xs ≤ prefix_len (is_even spec) xs → is_break spec x xs ≡ is_blank_byte x
blank_breaks spec x xs spaces even = break_by spec.spaces (is_blank_byte x)
    (spec.bytes || not (begins_back xs)) spaces (all_stay spec xs even)

pub never_broken : (spec : FoldForm) (found place n : ℕ) (xs : List ℕ) → spec.spaces ≡ false
    → last_break spec found place n xs ≡ found
never_broken spec found place zero xs h = refl
never_broken spec found place (suc n) [] h = refl
never_broken spec found place (suc n) (x ∷ xs) h =
    ap (λ (b : Bool). last_break spec
    (cond (b && (is_blank_byte x && (spec.bytes || not (begins_back xs)))) (place + 1) found)
    (place + 1) n xs) h ∙ never_broken spec found (place + 1) n xs h

pub no_blank : (spec : FoldForm) (found place : ℕ) (xs : List ℕ) → spec.spaces ≡ true
    → length xs ≤ prefix_len (is_even spec) xs
    → ((k : ℕ) → k < length xs → is_blank_byte (get_or xs k 0) ≡ true → ⊥)
    → last_break spec found place (length xs) xs ≡ found
no_blank spec found place [] spaces even none = refl
no_blank spec found place (x ∷ xs) spaces even none =
    let later = fewer (is_even spec x) (length xs) (prefix_len (is_even spec) xs) even in
    let blank : is_blank_byte x ≡ false =
    false_from_ne_true (is_blank_byte x) (none 0 (omega arith)) in
    ap (λ (b : Bool). last_break spec (cond b (place + 1) found) (place + 1) (length xs) xs)
    (blank_breaks spec x xs spaces later ∙ blank)
    ∙ no_blank spec found (place + 1) xs spaces later (λ k h. none (suc k) (omega arith))

pub last_blank : (k : ℕ) (spec : FoldForm) (found place : ℕ) (xs : List ℕ) → spec.spaces ≡ true
    → length xs ≤ prefix_len (is_even spec) xs → k < length xs
    → is_blank_byte (get_or xs k 0) ≡ true
    → ((m : ℕ) → k + 1 ≤ m → m < length xs → is_blank_byte (get_or xs m 0) ≡ true → ⊥)
    → last_break spec found place (length xs) xs ≡ place + k + 1
last_blank k spec found place [] spaces even within here none = absurd (omega arith)
last_blank zero spec found place (x ∷ xs) spaces even within here none =
    let later = fewer (is_even spec x) (length xs) (prefix_len (is_even spec) xs) even in
    ap (λ (b : Bool). last_break spec (cond b (place + 1) found) (place + 1) (length xs) xs)
    (blank_breaks spec x xs spaces later ∙ here)
    ∙ (no_blank spec (place + 1) (place + 1) xs spaces later
    (λ k h. none (suc k) (omega arith) (omega arith)) ∙ omega arith)
last_blank (suc k) spec found place (x ∷ xs) spaces even within here none =
    let later = fewer (is_even spec x) (length xs) (prefix_len (is_even spec) xs) even in
    last_blank k spec (cond (is_break spec x xs) (place + 1) found) (place + 1) xs spaces later
    (omega arith) here (λ m h l. none (suc m) (omega arith) (omega arith)) ∙ omega arith

-- it is seen in the bytes that fit, if the next one moves the column by one
pub break_taken : (n : ℕ) (spec : FoldForm) (found place : ℕ) (xs : List ℕ)
    → n < prefix_len (is_even spec) xs → last_break spec found place n (take n xs)
    ≡ last_break spec found place n xs
break_taken zero spec found place xs h = refl
break_taken (suc n) spec found place [] h = absurd (omega arith)
break_taken (suc n) spec found place (x ∷ xs) h =
    let later = fewer (is_even spec x) (suc n) (prefix_len (is_even spec) xs) h in
    ap (λ (b : Bool). last_break spec (cond b (place + 1) found) (place + 1) n (take n xs))
    (same n xs later)
    ∙ break_taken n spec (cond (is_break spec x xs) (place + 1) found) (place + 1) xs later
  where
    both_stay : (b c d e : Bool) → (b || not c) ≡ true → (b || not d) ≡ true
        → (e && (is_blank_byte x && (b || not c))) ≡ (e && (is_blank_byte x && (b || not d)))
    both_stay b c d e g k = ap (λ (s : Bool). e && (is_blank_byte x && s)) (g ∙ sym k)

    same : (n : ℕ) (ys : List ℕ) → n < prefix_len (is_even spec) ys
        → is_break spec x (take n ys) ≡ is_break spec x ys
    same n [] g = absurd (omega arith)
    same zero (y ∷ ys) g = both_stay spec.bytes false (is_back y) spec.spaces
        (all_stay spec [] (omega arith))
        (even_stays spec y (first_plain (is_even spec y) 0 (prefix_len (is_even spec) ys) g))
    same (suc n) (y ∷ ys) g = refl
