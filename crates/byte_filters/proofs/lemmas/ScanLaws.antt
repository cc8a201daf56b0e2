-- The scan of a segment finds its end.
use Rattle.std.proofs.Common.{◌≡◌, ℕ, zero, suc, ◌+◌, ◌-◌, ◌<◌, List, [], ◌∷◌, Bool, true, false}
use Rattle.std.proofs.Common.{cond, get_or, drop, length, max, Option, Some, None, refl, ap, ◌∙◌}
use Rattle.std.proofs.Common.{sym, arith, eqb}
use Rattle.std.specs.Prelude.{◌&&◌, ◌||◌, not, nat_le, nat_lt}
use Rattle.std.specs.List.{prefix_len}
use Rattle.std.proofs.lemmas.List.{drop_more}
use Rattle.std.proofs.lemmas.Bool.Decides.{nat_tests}
use Rattle.machine.specs.Lines.{newline}
use Rattle.command_words.specs.Bytes.{is_blank_byte}
use Rattle.commands.specs.declared.fold_words.FoldForm.{FoldForm}
use Rattle.byte_filters.specs.declared.segment.Scan.{Scan}
use Rattle.byte_filters.specs.declared.segment.SegmentStep.{SegmentStep}
use Rattle.byte_filters.specs.declared.segment.SegmentStep.TheVariants.{Goes, Ends}
use Rattle.byte_filters.specs.declared.segment.SegmentEnd.{SegmentEnd}
use Rattle.byte_filters.specs.declared.segment.SegmentEnd.TheVariants.{Cut, Line, Open}
use Rattle.commands.specs.Fold.{column_after, columns, fits, is_back, is_break, last_break}
use Rattle.commands.specs.Fold.{lengthened, segment}
use Rattle.byte_filters.specs.inner.Scans.{begun, column_within, found_before, next_step, scan_of}
use Rattle.byte_filters.specs.inner.Scans.{scan_step, scanned, step_by, unfit}

-- ---- one byte

unfit_by : (b : Bool) (spec : FoldForm) (s t : Scan) (x : ℕ)
    → cond b (Goes (scan_of None x (s.at + 1) (found_before spec s x))) (Ends (s.at + 1)) ≡ Goes t
    → t.at ≡ s.at + 1
unfit_by true spec s t x h =
    let e : scan_of None x (s.at + 1) (found_before spec s x) ≡ t = cc in
    sym (ap (λ (u : Scan). u.at) e)
unfit_by false spec s t x h = absurd (cc)

unfit_at : (spec : FoldForm) (s t : Scan) (x : ℕ) → unfit spec s x ≡ Goes t → t.at ≡ s.at + 1
unfit_at spec s t x h = unfit_by (not spec.bytes && (is_back s.last || is_back x)) spec s t x h

none_by : (b : Bool) (spec : FoldForm) (s t : Scan) (x : ℕ)
    → cond b (Ends (found_before spec s x)) (unfit spec s x) ≡ Goes t → t.at ≡ s.at + 1
none_by true spec s t x h = absurd (cc)
none_by false spec s t x h = unfit_at spec s t x h

step_by_at : (o : Option ℕ) (spec : FoldForm) (s t : Scan) (x : ℕ) → step_by spec s x o ≡ Goes t
    → t.at ≡ s.at + 1
step_by_at None spec s t x h = none_by (nat_lt 0 (found_before spec s x)) spec s t x h
step_by_at (Some column) spec s t x h =
    let e : scan_of (Some column) x (s.at + 1) (found_before spec s x) ≡ t = cc in
    sym (ap (λ (u : Scan). u.at) e)

over_by : (b : Bool) (spec : FoldForm) (s t : Scan) (x : ℕ)
    → cond b (unfit spec s x) (step_by spec s x (column_within spec s.column x)) ≡ Goes t
    → t.at ≡ s.at + 1
over_by true spec s t x h = unfit_at spec s t x h
over_by false spec s t x h = step_by_at (column_within spec s.column x) spec s t x h

-- a segment that goes on has one byte more
pub goes_at : (spec : FoldForm) (s t : Scan) (x : ℕ) → next_step spec s x ≡ Goes t → t.at ≡ s.at + 1
goes_at spec s t x h = over_by s.over spec s t x h

abbrev scanned_by : FoldForm → Scan → ℕ → List ℕ → Bool → SegmentStep → SegmentEnd
scanned_by spec s x xs b step = cond b (Line (s.at + 1))
    (scan_step (λ (t : Scan). scanned spec t xs) step)

-- one byte more of those that are scanned
pub scanned_more : (spec : FoldForm) (s t : Scan) (bytes : List ℕ) (i : ℕ) (whole : SegmentEnd)
    → i < length bytes → eqb (get_or bytes i 0) newline ≡ false
    → next_step spec s (get_or bytes i 0) ≡ Goes t → scanned spec s (drop i bytes) ≡ whole
    → scanned spec t (drop (i + 1) bytes) ≡ whole
scanned_more spec s t bytes i whole h n e inv =
    let x = get_or bytes i 0 in
    let xs = drop (i + 1) bytes in
    sym (ap (scanned spec s) (drop_more bytes i 0 h)
    ∙ (ap (λ (b : Bool). scanned_by spec s x xs b (next_step spec s x)) n
    ∙ ap (λ (p : SegmentStep). scanned_by spec s x xs false p) e))
    ∙ inv

-- ---- the whole rest of a line

-- after how many bytes the segment ends, if nothing but these bytes is left of the line
abbrev pub ends_at : SegmentEnd → ℕ
ends_at (Cut n) = n
ends_at (Line n) = n
ends_at (Open s) = s.at + 1

-- no byte is a newline
abbrev pub Plain : List ℕ → Type 0
Plain [] = Unit {0}
Plain (x ∷ xs) = (eqb x newline ≡ false) × Plain xs

plain_first : (spec : FoldForm) (s : Scan) (x : ℕ) (xs : List ℕ) → eqb x newline ≡ false
    → scanned spec s (x ∷ xs) ≡ scan_step (λ (t : Scan). scanned spec t xs) (next_step spec s x)
plain_first spec s x xs h = ap (λ (b : Bool). scanned_by spec s x xs b (next_step spec s x)) h

-- the place at which one byte did not fit
abbrev over_long : FoldForm → ℕ → ℕ → List ℕ → ℕ
over_long spec at last xs = at + 1 + cond spec.bytes 0 (lengthened last xs)

unfit_long : (b l : Bool) (spec : FoldForm) (s : Scan) (x : ℕ) (xs : List ℕ) → spec.bytes ≡ b
    → (is_back s.last || is_back x) ≡ l
    → ((at found : ℕ) → ends_at (scanned spec (scan_of None x at found) xs)
    ≡ over_long spec at x xs)
    → ends_at (scan_step (λ (t : Scan). scanned spec t xs)
    (cond (not b && l) (Goes (scan_of None x (s.at + 1) (found_before spec s x)))
    (Ends (s.at + 1)))) ≡ s.at + 1 + cond b 0 (cond l (lengthened x xs + 1) 0)
unfit_long true l spec s x xs e f h = omega arith
unfit_long false false spec s x xs e f h = omega arith
unfit_long false true spec s x xs e f h =
    let k = h (s.at + 1) (found_before spec s x) in
    let g = ap (λ (b : Bool). cond b 0 (lengthened x xs)) e in
    omega arith

unfit_ends : (spec : FoldForm) (s : Scan) (x : ℕ) (xs : List ℕ)
    → ((at found : ℕ) → ends_at (scanned spec (scan_of None x at found) xs)
    ≡ over_long spec at x xs)
    → ends_at (scan_step (λ (t : Scan). scanned spec t xs) (unfit spec s x))
    ≡ over_long spec s.at s.last (x ∷ xs)
unfit_ends spec s x xs h = unfit_long spec.bytes
    (is_back s.last || is_back x) spec s x xs refl refl h

nothing_more : (b : Bool) → cond {A = ℕ} b 0 0 ≡ zero
nothing_more true = refl
nothing_more false = refl

over_ends : (spec : FoldForm) (last at found : ℕ) (xs : List ℕ) → Plain xs
    → ends_at (scanned spec (scan_of None last at found) xs) ≡ over_long spec at last xs
over_ends spec last at found [] p = let e = nothing_more spec.bytes in omega arith
over_ends spec last at found (x ∷ xs) p =
    ap ends_at (plain_first spec (scan_of None last at found) x xs p.0)
    ∙ unfit_ends spec (scan_of None last at found) x xs (λ a f. over_ends spec x a f xs p.1)

-- how long a segment is if n bytes of it fit, and the last break among them is at b
abbrev chosen : FoldForm → ℕ → ℕ → ℕ → List ℕ → ℕ
chosen spec b n last rest = cond (nat_lt 0 b) b (cond spec.bytes n (n + lengthened last rest))

-- how long a segment is if at + 1 bytes of it are known to fit, and m more
abbrev with_more : FoldForm → ℕ → ℕ → ℕ → List ℕ → ℕ → ℕ
with_more spec at last found xs m =
    cond (nat_le (length xs) m) (at + 1 + length xs)
    (chosen spec (last_break spec found at (m + 1) (last ∷ xs)) (at + 1 + m)
    (get_or (last ∷ xs) m 0) (drop m xs))

same_choice : (spec : FoldForm) (t t' : Bool) (a a' b b' n n' last : ℕ) (rest : List ℕ) → t ≡ t'
    → a ≡ a' → b ≡ b' → n ≡ n' → cond t a (chosen spec b n last rest)
    ≡ cond t' a' (chosen spec b' n' last rest)
same_choice spec t t' a a' b b' n n' last rest e f g h =
    ap (λ (z : Bool). cond z a (chosen spec b n last rest)) e
    ∙ (ap (λ (z : ℕ). cond t' z (chosen spec b n last rest)) f
    ∙ (ap (λ (z : ℕ). cond t' a' (chosen spec z n last rest)) g
    ∙ ap (λ (z : ℕ). cond t' a' (chosen spec b' z last rest)) h))

le_suc : (a b : ℕ) → nat_le a b ≡ nat_le (suc a) (suc b)
le_suc a b = grind (arith, nat_tests)

one_more_fits : (spec : FoldForm) (at last found x m : ℕ) (xs : List ℕ)
    → with_more spec (at + 1) x (cond (is_break spec last (x ∷ xs)) (at + 1) found) xs m
    ≡ with_more spec at last found (x ∷ xs) (1 + m)
one_more_fits spec at last found x m xs =
    let e : suc m ≡ 1 + m = omega arith in
    let g : suc (m + 1) ≡ suc m + 1 = omega arith in
    same_choice spec (nat_le (length xs) m) (nat_le (suc (length xs)) (suc m))
    (at + 1 + 1 + length xs) (at + 1 + suc (length xs))
    (last_break spec (cond (is_break spec last (x ∷ xs)) (at + 1) found) (at + 1) (m + 1)
    (x ∷ xs)) (last_break spec found at (suc m + 1) (last ∷ x ∷ xs)) (at + 1 + 1 + m)
    (at + 1 + suc m) (get_or (x ∷ xs) m 0) (drop m xs)
    (le_suc (length xs) m) (omega arith)
    (ap (λ (k : ℕ). last_break spec found at k (last ∷ x ∷ xs)) g) (omega arith)
    ∙ ap (with_more spec at last found (x ∷ xs)) e

not_le_zero : (n : ℕ) → nat_le (suc n) 0 ≡ false
not_le_zero n = grind (arith, nat_tests)

by_bytes : (b : Bool) (n l : ℕ) → n + cond b 0 l ≡ cond b (n + 0) (n + 0 + l)
by_bytes true n l = refl
by_bytes false n l = omega arith

none_fits_by : (k : Bool) (spec : FoldForm) (s : Scan) (x : ℕ) (xs : List ℕ) → Plain xs
    → ends_at (scan_step (λ (t : Scan). scanned spec t xs)
    (cond k (Ends (found_before spec s x)) (unfit spec s x)))
    ≡ cond k (found_before spec s x)
    (cond spec.bytes (s.at + 1 + 0) (s.at + 1 + 0 + lengthened s.last (x ∷ xs)))
none_fits_by true spec s x xs p = refl
none_fits_by false spec s x xs p =
    unfit_ends spec s x xs (λ a f. over_ends spec x a f xs p)
    ∙ by_bytes spec.bytes (s.at + 1) (lengthened s.last (x ∷ xs))

-- the next byte, by whether it fits
fits_by : (b : Bool) (spec : FoldForm) (c at last found x : ℕ) (xs : List ℕ) → Plain xs
    → ((found' : ℕ)
    → ends_at (scanned spec (scan_of (Some (column_after spec c x)) x (at + 1) found') xs)
    ≡ with_more spec (at + 1) x found' xs
    (prefix_len (fits spec) (columns spec (column_after spec c x) xs)))
    → ends_at (scan_step (λ (t : Scan). scanned spec t xs)
    (step_by spec (scan_of (Some c) last at found) x (cond b (Some (column_after spec c x)) None)))
    ≡ with_more spec at last found (x ∷ xs)
    (cond b (1 + prefix_len (fits spec) (columns spec (column_after spec c x) xs)) 0)
fits_by true spec c at last found x xs p h =
    h (found_before spec (scan_of (Some c) last at found) x)
    ∙ one_more_fits spec at last found x
    (prefix_len (fits spec) (columns spec (column_after spec c x) xs)) xs
fits_by false spec c at last found x xs p h =
    let s = scan_of (Some c) last at found in
    none_fits_by (nat_lt 0 (found_before spec s x)) spec s x xs p
    ∙ ap (λ (b : Bool). cond b (at + 1 + suc (length xs))
    (chosen spec (found_before spec s x) (at + 1 + 0) last (x ∷ xs)))
    (sym (not_le_zero (length xs)))

-- if all bytes before these fit
fits_ends : (spec : FoldForm) (c at last found : ℕ) (xs : List ℕ) → Plain xs
    → ends_at (scanned spec (scan_of (Some c) last at found) xs)
    ≡ with_more spec at last found xs (prefix_len (fits spec) (columns spec c xs))
fits_ends spec c at last found [] p = omega arith
fits_ends spec c at last found (x ∷ xs) p =
    ap ends_at (plain_first spec (scan_of (Some c) last at found) x xs p.0)
    ∙ fits_by (fits spec (column_after spec c x)) spec c at last found x xs p.1
    (λ f. fits_ends spec (column_after spec c x) (at + 1) x f xs p.1)

-- ---- a segment from its first byte

pub blank_is_not_back : (x : ℕ) → is_blank_byte x ≡ true → is_back x ≡ false
blank_is_not_back x h = grind (arith, nat_tests)

lone_by : (spaces blank bytes back : Bool) (x l : ℕ) → is_blank_byte x ≡ blank →
    cond (nat_lt 0 (cond (spaces && (blank && (bytes || not back))) 1 0))
    (cond (spaces && (blank && (bytes || not back))) 1 0)
    (cond bytes 1 (1 + cond (is_back x || back) l 0))
    ≡ 0 + 1 + cond bytes 0 (cond (is_back x || back) l 0)
lone_by true true true back x l h = refl
lone_by true true false true x l h = refl
lone_by true true false false x l h = ap (λ (b : Bool). 1 + cond (b || false) l 0)
    (sym (blank_is_not_back x h))
lone_by true false true back x l h = refl
lone_by true false false true x l h = refl
lone_by true false false false x l h = refl
lone_by false blank true back x l h = refl
lone_by false blank false true x l h = refl
lone_by false blank false false x l h = refl

le_one : (n : ℕ) → nat_le (suc (suc n)) 1 ≡ false
le_one n = grind (arith, nat_tests)

-- a first byte that does not fit
lone : (spec : FoldForm) (x : ℕ) (xs : List ℕ)
    → cond (nat_le (length (x ∷ xs)) 1) (length (x ∷ xs))
    (chosen spec (last_break spec 0 0 1 (x ∷ xs)) 1 x xs) ≡ over_long spec 0 x xs
lone spec x [] = let e = nothing_more spec.bytes in omega arith
lone spec x (y ∷ ys) =
    ap (λ (b : Bool). cond b (length (x ∷ y ∷ ys))
    (chosen spec (last_break spec 0 0 1 (x ∷ y ∷ ys)) 1 x (y ∷ ys))) (le_one (length ys))
    ∙ lone_by spec.spaces (is_blank_byte x) spec.bytes (is_back y) x (lengthened y ys + 1) refl

abbrev segment_by : FoldForm → List ℕ → ℕ → ℕ
segment_by spec xs n =
    cond (nat_le (length xs) n) (length xs)
    (chosen spec (last_break spec 0 0 n xs) n (get_or xs (n - 1) 0) (drop n xs))

first_fits : (spec : FoldForm) (x m : ℕ) (xs : List ℕ)
    → segment_by spec (x ∷ xs) (suc m) ≡ with_more spec 0 x 0 xs m
first_fits spec x m xs =
    let e : suc m - 1 ≡ m = omega arith in
    ap (λ (k : ℕ). cond (nat_le (suc (length xs)) (suc m)) (suc (length xs))
    (chosen spec (last_break spec 0 0 (suc m) (x ∷ xs)) (suc m) (get_or (x ∷ xs) k 0)
    (drop m xs))) e
    ∙ same_choice spec (nat_le (suc (length xs)) (suc m)) (nat_le (length xs) m) (suc (length xs))
    (0 + 1 + length xs) (last_break spec 0 0 (suc m) (x ∷ xs))
    (last_break spec 0 0 (m + 1) (x ∷ xs)) (suc m) (0 + 1 + m) (get_or (x ∷ xs) m 0) (drop m xs)
    (sym (le_suc (length xs) m)) (omega arith)
    (ap (λ (k : ℕ). last_break spec 0 0 k (x ∷ xs)) (let g : suc m ≡ m + 1 = omega arith in g))
    (omega arith)

segment_first_by : (b : Bool) (spec : FoldForm) (x : ℕ) (xs : List ℕ) → Plain xs
    → segment_by spec (x ∷ xs)
    (max 1 (cond b (1 + prefix_len (fits spec) (columns spec (column_after spec 0 x) xs)) 0))
    ≡ ends_at (scanned spec (scan_of (cond b (Some (column_after spec 0 x)) None) x 0 0) xs)
segment_first_by true spec x xs p =
    let m = prefix_len (fits spec) (columns spec (column_after spec 0 x) xs) in
    let e : max 1 (1 + m) ≡ suc m = omega arith in
    ap (segment_by spec (x ∷ xs)) e
    ∙ (first_fits spec x m xs ∙ sym (fits_ends spec (column_after spec 0 x) 0 x 0 xs p))
segment_first_by false spec x xs p = lone spec x xs ∙ sym (over_ends spec x 0 0 xs p)

-- the first segment of what is left of a line ends at the end that the scan finds
pub segment_is : (spec : FoldForm) (x : ℕ) (xs : List ℕ) → Plain xs
    → segment spec (x ∷ xs) ≡ ends_at (scanned spec (begun spec x) xs)
segment_is spec x xs p = segment_first_by (fits spec (column_after spec 0 x)) spec x xs p
