-- The beginning of a stream, and the parts that are known from it.
use Rattle.std.proofs.Common.{◌≡◌, ℕ, zero, suc, ◌+◌, ◌-◌, ◌<◌, ◌≤◌, List, [], ◌∷◌, ◌++◌, Bool}
use Rattle.std.proofs.Common.{true, false, cond, get_or, drop, take, length, refl, ap, ◌∙◌, sym}
use Rattle.std.proofs.Common.{subst, arith, eqb, length-take}
use Rattle.std.specs.Prelude.{◌||◌, not, nat_lt}
use Rattle.std.specs.List.{prefix_len}
use Rattle.std.proofs.lemmas.Bool.{eqb-true, false_from_ne_true, not_from_false, not_from_true}
use Rattle.std.proofs.lemmas.Bool.Decides.{nat_tests}
use Rattle.std.proofs.lemmas.List.Elements.{All-cons, All-head, All-nil, All-tail}
use Rattle.std.proofs.lemmas.List.Sums.{prefix_len_is, prefix_len-le-length}
use Rattle.machine.specs.Lines.{newline, HasNoNewline}
use Rattle.machine.specs.inner.Places.{FirstFrom}
use Rattle.memchr.specs.Find.{Nowhere, NoneAfter, NoneBefore, Passes, is_byte2}
use Rattle.commands.specs.declared.fold_words.FoldForm.{FoldForm}
use Rattle.commands.specs.Fold.{folded, last_break}
use Rattle.byte_filters.specs.inner.Scans.{IsEvenUpTo, IsPart, is_even, is_inside, is_plain}
use Rattle.byte_filters.proofs.lemmas.EvenLaws.{break_taken, cut_or, first_cut, first_line}
use Rattle.byte_filters.proofs.lemmas.EvenLaws.{first_open, last_blank, never_broken, no_blank}
use Rattle.byte_filters.proofs.lemmas.EvenLaws.{not_so, so}
use Rattle.byte_filters.proofs.lemmas.FoldLaws.{part_cut, part_line, part_newline, rest_stays}
use Rattle.byte_filters.proofs.lemmas.SkipLaws.{above, apart, first_plain}

-- ---- how many stand in front

pub first_place : (test : ℕ → Bool) (xs : List ℕ) (k : ℕ)
    → NoneBefore (Passes test xs) 0 (length xs) k → Passes test xs k
    → k ≡ prefix_len (λ x. not (test x)) xs
first_place test xs k h here =
    let within : k < length xs = h.high in
    sym (prefix_len_is (λ x. not (test x)) xs k 0 (omega arith)
    (λ m l. not_from_false (test (get_or xs m 0))
    (false_from_ne_true (test (get_or xs m 0)) (h.before m (omega arith) l)))
    (λ l. not_from_true (test (get_or xs k 0)) here))

pub no_place : (test : ℕ → Bool) (xs : List ℕ) → Nowhere (Passes test xs) 0 (length xs)
    → length xs ≡ prefix_len (λ x. not (test x)) xs
no_place test xs h =
    sym (prefix_len_is (λ x. not (test x)) xs (length xs) 0 (omega arith)
    (λ m l. not_from_false (test (get_or xs m 0))
    (false_from_ne_true (test (get_or xs m 0)) (h m (omega arith) l)))
    (λ l. absurd (omega arith)))

first_inside : (front after : List ℕ) → HasNoNewline front
    → length front ≡ prefix_len is_inside (front ++ newline ∷ after)
first_inside [] after h = refl
first_inside (x ∷ xs) after h =
    let more : length xs ≡ prefix_len is_inside (xs ++ newline ∷ after) =
    first_inside xs after (All-tail (λ y. eqb y newline ≡ false) x xs h) in
    let here : prefix_len is_inside (x ∷ xs ++ newline ∷ after)
    ≡ 1 + prefix_len is_inside (xs ++ newline ∷ after) =
    ap (λ (b : Bool). cond (not b) (1 + prefix_len is_inside (xs ++ newline ∷ after)) 0)
    (All-head (λ y. eqb y newline ≡ false) x xs h) in
    omega (arith, more, here)

-- how many bytes come before the first newline
pub before_newline : (bytes : List ℕ) (k : ℕ) → FirstFrom bytes newline 0 k
    → k ≡ prefix_len is_inside bytes
before_newline bytes k f =
    let front = take (k - 0) bytes in
    let long : k ≡ length front = omega (arith, f.within, length-take (k - 0) bytes) in
    long ∙ (first_inside front (drop (k + 1) bytes) f.none_before
    ∙ ap (prefix_len is_inside) (sym f.here))

pub all_inside : (bytes : List ℕ) → HasNoNewline bytes → length bytes ≡ prefix_len is_inside bytes
all_inside [] h = refl
all_inside (x ∷ xs) h =
    let more : length xs ≡ prefix_len is_inside xs =
    all_inside xs (All-tail (λ y. eqb y newline ≡ false) x xs h) in
    let here : prefix_len is_inside (x ∷ xs) ≡ 1 + prefix_len is_inside xs =
    ap (λ (b : Bool). cond (not b) (1 + prefix_len is_inside xs) 0)
    (All-head (λ y. eqb y newline ≡ false) x xs h) in
    omega (arith, more, here)

all_pass : (xs : List ℕ) → length xs ≡ prefix_len (λ (x : ℕ). true) xs
all_pass [] = refl
all_pass (x ∷ xs) = let e = all_pass xs in omega arith

pub all_even : (spec : FoldForm) (xs : List ℕ) → spec.bytes ≡ true
    → length xs ≡ prefix_len (is_even spec) xs
all_even spec xs h = all_pass xs
    ∙ ap (λ (b : Bool). prefix_len (λ x. b || not (eqb x 8 || eqb x 9 || eqb x 13)) xs) (sym h)

pub some_even : (spec : FoldForm) (xs : List ℕ) (n : ℕ) → spec.bytes ≡ false
    → n ≡ prefix_len (λ x. not (eqb x 8 || eqb x 9 || eqb x 13)) xs
    → n ≡ prefix_len (is_even spec) xs
some_even spec xs n h e = e
    ∙ ap (λ (b : Bool). prefix_len (λ x. b || not (eqb x 8 || eqb x 9 || eqb x 13)) xs) (sym h)

behind_by : (b : Bool) (n m rest : ℕ) → suc n ≤ cond b (1 + m) 0 → (n ≤ m → m - n ≡ rest)
    → cond b (1 + m) 0 - suc n ≡ rest
behind_by true n m rest h k = let e : 1 + m - suc n ≡ m - n = omega arith in e ∙ k (omega arith)
behind_by false n m rest h k = absurd (omega arith)

prefix_behind : (p : ℕ → Bool) (n : ℕ) (xs : List ℕ) → n ≤ prefix_len p xs
    → prefix_len p xs - n ≡ prefix_len p (drop n xs)
prefix_behind p zero xs h = omega arith
prefix_behind p (suc n) [] h = absurd (omega arith)
prefix_behind p (suc n) (x ∷ xs) h = behind_by (p x) n (prefix_len p xs)
    (prefix_len p (drop n xs)) h (prefix_behind p n xs)

pub prefix_behind_same : (p : ℕ → Bool) (m n : ℕ) (xs : List ℕ) → m ≡ prefix_len p xs → n ≤ m
    → m - n ≡ prefix_len p (drop n xs)
prefix_behind_same p m n xs e h = ap (λ (k : ℕ). k - n) e ∙ prefix_behind p n xs (omega arith)

front_by : (b : Bool) (n m front : ℕ) → suc n ≤ cond b (1 + m) 0 → (n ≤ m → n ≤ front)
    → suc n ≤ cond b (1 + front) 0
front_by true n m front h k = let e = k (omega arith) in omega arith
front_by false n m front h k = absurd (omega arith)

pub prefix_front : (p : ℕ → Bool) (n : ℕ) (xs : List ℕ) → n ≤ prefix_len p xs
    → n ≤ prefix_len p (take n xs)
prefix_front p zero xs h = omega arith
prefix_front p (suc n) [] h = absurd (omega arith)
prefix_front p (suc n) (x ∷ xs) h = front_by (p x) n (prefix_len p xs) (prefix_len p (take n xs)) h
    (prefix_front p n xs)

-- ---- where a line is cut

some_first : (n : ℕ) → nat_lt 0 (0 + n + 1) ≡ true
some_first n = grind (arith, nat_tests)

pub cut_behind_all : (spec : FoldForm) (xs : List ℕ) → spec.spaces ≡ false
    → length xs ≡ cut_or (last_break spec 0 0 (length xs) xs) (length xs)
cut_behind_all spec xs h = ap (λ (b : ℕ). cut_or b (length xs))
    (sym (never_broken spec 0 0 (length xs) xs h))

pub cut_behind_none : (spec : FoldForm) (xs : List ℕ) → spec.spaces ≡ true
    → length xs ≤ prefix_len (is_even spec) xs → Nowhere (Passes (is_byte2 32 9) xs) 0 (length xs)
    → length xs ≡ cut_or (last_break spec 0 0 (length xs) xs) (length xs)
cut_behind_none spec xs h even none = ap (λ (b : ℕ). cut_or b (length xs))
    (sym (no_blank spec 0 0 xs h even (λ k l. none k (omega arith) l)))

pub cut_behind_last : (spec : FoldForm) (xs : List ℕ) (k : ℕ) → spec.spaces ≡ true
    → length xs ≤ prefix_len (is_even spec) xs
    → NoneAfter (Passes (is_byte2 32 9) xs) 0 (length xs) k → Passes (is_byte2 32 9) xs k
    → k + 1 ≡ cut_or (last_break spec 0 0 (length xs) xs) (length xs)
cut_behind_last spec xs k h even none here =
    let e : last_break spec 0 0 (length xs) xs ≡ 0 + k + 1 =
    last_blank k spec 0 0 xs h even none.high here none.after in
    sym (ap (λ (b : ℕ). cut_or b (length xs)) e
    ∙ (ap (λ (b : Bool). cond b (0 + k + 1) (length xs)) (some_first k) ∙ omega arith))

-- ---- parts

inside_first : (x n : ℕ) (xs : List ℕ) → suc n ≤ prefix_len is_inside (x ∷ xs)
    → eqb x newline ≡ false
inside_first x n xs h = not_so (eqb x newline)
    (first_plain (is_inside x) n (prefix_len is_inside xs) h)

cut_at : (n : ℕ) (spec : FoldForm) (bytes : List ℕ) → spec.width ≡ suc n
    → suc (suc n) ≤ prefix_len is_inside bytes → suc (suc n) ≤ prefix_len (is_even spec) bytes
    → IsPart spec bytes (cut_or (last_break spec 0 0 (suc n) bytes) (suc n)) true
cut_at n spec [] width inside even = absurd (omega arith)
cut_at n spec (x ∷ xs) width inside even =
    part_cut spec x xs (cut_or (last_break spec 0 0 (suc n) (x ∷ xs)) (suc n))
    (inside_first x (suc n) xs inside) (first_cut n spec x xs width even inside)

cut_by_width : (w : ℕ) (spec : FoldForm) (bytes : List ℕ) → spec.width ≡ w → 1 ≤ w
    → w < prefix_len is_inside bytes → w < prefix_len (is_even spec) bytes
    → IsPart spec bytes (cut_or (last_break spec 0 0 w bytes) w) true
cut_by_width zero spec bytes e some inside even = absurd (omega arith)
cut_by_width (suc n) spec bytes e some inside even =
    cut_at n spec bytes e (omega arith) (omega arith)

-- a line that is cut
pub even_cut_part : (spec : FoldForm) (bytes window : List ℕ) (even count : ℕ)
    → IsEvenUpTo spec bytes even → 1 ≤ spec.width → spec.width < even
    → window ≡ take spec.width bytes
    → count ≡ cut_or (last_break spec 0 0 (length window) window) (length window)
    → IsPart spec bytes count true
even_cut_part spec bytes window even count a some more front e =
    let fewer = prefix_len-le-length is_inside bytes in
    let long : length window ≡ spec.width = ap length front
    ∙ (length-take spec.width bytes ∙ omega (arith, a.inside)) in
    let same : count ≡ cut_or (last_break spec 0 0 spec.width bytes) spec.width =
    e ∙ (ap (λ (n : ℕ). cut_or (last_break spec 0 0 n window) n) long
    ∙ (ap (λ (z : List ℕ). cut_or (last_break spec 0 0 spec.width z) spec.width) front
    ∙ ap (λ (b : ℕ). cut_or b spec.width)
    (break_taken spec.width spec 0 0 bytes (omega (arith, a.even))))) in
    subst (λ (k : ℕ). IsPart spec bytes k true) (sym same)
    (cut_by_width spec.width spec bytes refl some (omega (arith, a.inside))
    (omega (arith, a.even)))

none_in_front : (b : Bool) (more : ℕ) → 0 ≡ cond b (1 + more) 0 → b ≡ false
none_in_front true more h = absurd (omega arith)
none_in_front false more h = refl

line_at : (n : ℕ) (spec : FoldForm) (bytes : List ℕ) → n ≡ prefix_len is_inside bytes
    → n ≤ prefix_len (is_even spec) bytes → n ≤ spec.width → n < length bytes
    → IsPart spec bytes (n + 1) false
line_at n spec [] inside even fit more = absurd (omega arith)
line_at zero spec (x ∷ xs) inside even fit more =
    part_newline spec x xs
    (eqb-true x newline
    (so (eqb x newline) (none_in_front (is_inside x) (prefix_len is_inside xs) inside)))
line_at (suc n) spec (x ∷ xs) inside even fit more =
    part_line spec x xs (suc n) (inside_first x n xs (omega arith))
    (first_line n spec x xs inside even more fit)

stops_by : (b : Bool) (more : ℕ) → b ≡ true → 0 ≡ cond (not b) (1 + more) 0
stops_by true more h = refl
stops_by false more h = absurd (cc)

longer_by : (b : Bool) (n m : ℕ) → suc n ≤ cond b (1 + m) 0 → (n ≤ m → n ≡ m)
    → suc n ≡ cond b (1 + m) 0
longer_by true n m h k = let e = k (omega arith) in omega arith
longer_by false n m h k = absurd (omega arith)

-- if a newline follows them, these are all bytes before it
stops_there : (n : ℕ) (bytes : List ℕ) → n ≤ prefix_len is_inside bytes → n < length bytes
    → eqb (get_or bytes n 0) newline ≡ true → n ≡ prefix_len is_inside bytes
stops_there n [] inside more here = absurd (omega arith)
stops_there zero (x ∷ xs) inside more here = stops_by (eqb x newline) (prefix_len is_inside xs) here
stops_there (suc n) (x ∷ xs) inside more here =
    longer_by (is_inside x) n (prefix_len is_inside xs) inside
    (λ h. stops_there n xs h (omega arith) here)

-- a line that fits
pub even_line_part : (spec : FoldForm) (bytes : List ℕ) (even : ℕ) → IsEvenUpTo spec bytes even
    → even ≤ spec.width → even < length bytes → eqb (get_or bytes even 0) newline ≡ true
    → IsPart spec bytes (even + 1) false
even_line_part spec bytes even a fit more here =
    line_at even spec bytes (stops_there even bytes a.inside more here) a.even fit more

open_at : (spec : FoldForm) (bytes : List ℕ) → length bytes ≤ prefix_len is_inside bytes
    → length bytes ≤ prefix_len (is_even spec) bytes → length bytes ≤ spec.width
    → folded spec bytes ≡ bytes
open_at spec [] inside even fit = refl
open_at spec (x ∷ xs) inside even fit =
    let on = first_open spec x xs inside even fit in
    rest_stays spec x xs on.0 (inside_first x (length xs) xs inside) on.1

-- one that fits, and that nothing ends yet
pub even_open_part : (spec : FoldForm) (bytes : List ℕ) (even : ℕ) → IsEvenUpTo spec bytes even
    → even ≤ spec.width → even ≡ length bytes → folded spec bytes ≡ bytes
even_open_part spec bytes even a fit all =
    open_at spec bytes (omega (arith, a.inside, all)) (omega (arith, a.even, all)) (omega arith)

inside_by : (b : Bool) (n m : ℕ) → suc n ≤ cond b (1 + m) 0 → n ≤ m
inside_by true n m h = omega arith
inside_by false n m h = absurd (omega arith)

inside_all : (bytes : List ℕ) → length bytes ≤ prefix_len is_inside bytes → HasNoNewline bytes
inside_all [] h = All-nil (λ x. eqb x newline ≡ false)
inside_all (x ∷ xs) h =
    All-cons (λ y. eqb y newline ≡ false) x xs (inside_first x (length xs) xs h)
    (inside_all xs (inside_by (is_inside x) (length xs) (prefix_len is_inside xs) h))

-- bytes before the first newline, if they are all
pub open_plain : (spec : FoldForm) (bytes : List ℕ) (even : ℕ) → IsEvenUpTo spec bytes even
    → even ≡ length bytes → HasNoNewline bytes
open_plain spec bytes even a all = inside_all bytes (omega (arith, a.inside, all))

pub even_within : (spec : FoldForm) (bytes : List ℕ) (even : ℕ) → IsEvenUpTo spec bytes even
    → even ≤ length bytes
even_within spec bytes even a = omega (arith, a.inside, prefix_len-le-length is_inside bytes)

-- the bytes that fit are among those that move the column by one
pub front_even : (spec : FoldForm) (bytes window : List ℕ) (even : ℕ) → IsEvenUpTo spec bytes even
    → spec.width < even → window ≡ take spec.width bytes
    → length window ≤ prefix_len (is_even spec) window
front_even spec bytes window even a more front =
    let same : prefix_len (is_even spec) window ≡ prefix_len (is_even spec)
    (take spec.width bytes) = ap (prefix_len (is_even spec)) front in
    let some = prefix_front (is_even spec) spec.width bytes (omega (arith, a.even)) in
    let long : length window ≡ length (take spec.width bytes) = ap length front in
    let short = length-take spec.width bytes in
    omega arith

-- ---- bytes that are even

-- those that are left
pub even_behind : (spec : FoldForm) (bytes : List ℕ) (even count : ℕ) → IsEvenUpTo spec bytes even
    → count ≤ even → IsEvenUpTo spec (drop count bytes) (even - count)
even_behind spec bytes even count a h =
    let i = prefix_behind is_inside count bytes (omega (arith, a.inside)) in
    let e = prefix_behind (is_even spec) count bytes (omega (arith, a.even)) in
    record {
      inside = omega (arith, i, a.inside);
      even = omega (arith, e, a.even);
    }

more_by : (p q : Bool) (m n : ℕ) → (p ≡ true → q ≡ true) → m ≤ n
    → cond p (1 + m) 0 ≤ cond q (1 + n) 0
more_by true true m n h k = omega arith
more_by true false m n h k = absurd (let e = h refl in cc)
more_by false q m n h k = omega arith

-- what passes one test passes another
fewer_pass : (p q : ℕ → Bool) (xs : List ℕ) → ((x : ℕ) → p x ≡ true → q x ≡ true)
    → prefix_len p xs ≤ prefix_len q xs
fewer_pass p q [] h = omega arith
fewer_pass p q (x ∷ xs) h = more_by (p x) (q x) (prefix_len p xs) (prefix_len q xs) (h x)
    (fewer_pass p q xs h)

inside_plain : (x : ℕ) → is_plain x ≡ true → is_inside x ≡ true
inside_plain x h = ap not (apart x newline (omega (arith, above x h)))

either : (b : Bool) → (b || true) ≡ true
either true = refl
either false = refl

even_plain : (spec : FoldForm) (x : ℕ) → is_plain x ≡ true → is_even spec x ≡ true
even_plain spec x h =
    let high = above x h in
    ap (λ (b : Bool). spec.bytes || not (b || eqb x 9 || eqb x 13)) (apart x 8 (omega arith))
    ∙ (ap (λ (b : Bool). spec.bytes || not (b || eqb x 13)) (apart x 9 (omega arith))
    ∙ (ap (λ (b : Bool). spec.bytes || not b) (apart x 13 high) ∙ either spec.bytes))

-- plain ones are even
pub even_from_plain : (spec : FoldForm) (bytes : List ℕ) (n : ℕ) → n ≤ prefix_len is_plain bytes
    → IsEvenUpTo spec bytes n
even_from_plain spec bytes n h =
    record {
      inside = omega (arith, h, fewer_pass is_plain is_inside bytes inside_plain);
      even = omega (arith, h, fewer_pass is_plain (is_even spec) bytes (even_plain spec));
    }

-- if bytes are counted, all are
pub even_from_bytes : (spec : FoldForm) (bytes : List ℕ) (n : ℕ) → spec.bytes ≡ true
    → n ≡ prefix_len is_inside bytes → IsEvenUpTo spec bytes n
even_from_bytes spec bytes n h e =
    record {
      inside = omega (arith, e);
      even = omega (arith, e, prefix_len-le-length is_inside bytes, all_even spec bytes h);
    }

-- a run more
pub plain_more : (bytes rest : List ℕ) (at run : ℕ) → rest ≡ drop at bytes
    → at ≤ prefix_len is_plain bytes → run ≤ prefix_len is_plain rest
    → at + run ≤ prefix_len is_plain bytes
plain_more bytes rest at run e h more =
    let same = ap (prefix_len is_plain) e in
    let behind = prefix_behind is_plain at bytes h in
    omega (arith, same, behind, more, h)
