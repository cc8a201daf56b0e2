-- The ends of a line's segments.
use Rattle.std.proofs.Common.{◌≡◌, ◌∙◌, ◌<◌, ◌≤◌, ◌⊎◌, ◌+◌, ◌-◌, ℕ, zero, suc, List, [], ◌∷◌, ◌++◌}
use Rattle.std.proofs.Common.{Bool, true, false, cond, get_or, drop, take, length, refl, ap, sym}
use Rattle.std.proofs.Common.{subst, arith, inl, inr, length-drop}
use Rattle.std.specs.Prelude.{◌&&◌, ◌||◌, not, max, nat_le, nat_lt}
use Rattle.std.specs.List.{prefix_len}
use Rattle.std.proofs.lemmas.List.{get_or-take, get_or-drop, length-take, length-take-le}
use Rattle.std.proofs.lemmas.List.{take-append-drop, take_all, append-nil}
use Rattle.std.proofs.lemmas.List.Elements.{All-cons, All-nil}
use Rattle.std.proofs.lemmas.List.Sums.{prefix_len-le-length}
use Rattle.std.proofs.lemmas.Bool.Decides.{nat_tests}
use Rattle.machine.specs.Lines.{newline}
use Rattle.command_words.specs.Bytes.{is_blank_byte}
use Rattle.commands.specs.declared.fold_words.FoldForm.{FoldForm}
use Rattle.commands.specs.Fold.{begins_back, columns, column_after, fits, fitting, is_back}
use Rattle.commands.specs.Fold.{is_break, last_break, lengthened, segment, segments, segments_after}
use Rattle.byte_filters.specs.FoldCuts.{AreSegmentsOf, HasBack, IsSegment, IsWithin, LinesAreCut}
use Rattle.byte_filters.proofs.lemmas.AheadLaws.{prefix_front}
use Rattle.byte_filters.proofs.lemmas.FoldLaws.{passed, next_segment}
use Rattle.byte_filters.proofs.lemmas.ScanLaws.{blank_is_not_back}

-- ---- columns

columns-take : (spec : FoldForm) (column k : ℕ) (xs : List ℕ)
    → columns spec column (take k xs) ≡ take k (columns spec column xs)
columns-take spec column zero xs = refl
columns-take spec column (suc k) [] = refl
columns-take spec column (suc k) (x ∷ xs) =
    ap (λ cs. column_after spec column x ∷ cs) (columns-take spec (column_after spec column x) k xs)

columns-length : (spec : FoldForm) (column : ℕ) (xs : List ℕ)
    → length (columns spec column xs) ≡ length xs
columns-length spec column [] = refl
columns-length spec column (x ∷ xs) = ap suc (columns-length spec (column_after spec column x) xs)

-- the first bytes fit, if no more are taken than fit
front_fits : (spec : FoldForm) (k : ℕ) (xs : List ℕ)
    → k ≤ prefix_len (fits spec) (columns spec 0 xs) → IsWithin spec (take k xs)
front_fits spec k xs few =
    let all : k ≤ prefix_len (fits spec) (columns spec 0 (take k xs)) =
    subst (λ cs. k ≤ prefix_len (fits spec) cs) (sym (columns-take spec 0 k xs))
    (prefix_front (fits spec) k (columns spec 0 xs) few) in
    let most = prefix_len-le-length (fits spec) (columns spec 0 (take k xs)) in
    let same = columns-length spec 0 (take k xs) in
    let long = length-take k xs in
    omega arith

-- a first part of no more than fit, or of one byte
first_part : (spec : FoldForm) (k : ℕ) (xs : List ℕ) → 1 ≤ k → k ≤ length xs → k ≤ fitting spec xs
    → IsSegment spec (take k xs)
first_part spec k xs some within few = by_case (prefix_len (fits spec) (columns spec 0 xs)) refl
  where
    by_case : (n : ℕ) → prefix_len (fits spec) (columns spec 0 xs) ≡ n → IsSegment spec (take k xs)
    by_case zero none =
        inr (inl (let long = length-take-le k xs within in
        let most : k ≤ 1 = subst (λ n. k ≤ max 1 n) none few in omega arith))
    by_case (suc n) is =
        inl (front_fits spec k xs (let most : k ≤ max 1 (suc n) = subst (λ n. k ≤ max 1 n) is few in
        omega arith))

-- ---- behind a blank

-- the place after a blank at which a line may be cut, or none is found
abbrev BreaksAt : FoldForm → ℕ → ℕ → List ℕ → ℕ → Type 0
BreaksAt spec place n xs at = (j : ℕ) × (j < n) × (j < length xs) × (at ≡ place + j + 1)
    × (is_break spec (get_or xs j 0) (drop (suc j) xs) ≡ true)

break_first : (b : Bool) (spec : FoldForm) (found place n x : ℕ) (xs : List ℕ) (at : ℕ)
    → is_break spec x xs ≡ b → at ≡ cond b (place + 1) found
    → (at ≡ found) ⊎ BreaksAt spec place (suc n) (x ∷ xs) at
break_first true spec found place n x xs at is e =
    inr (0, omega arith, omega arith, omega (arith, e), is)
break_first false spec found place n x xs at is e = inl e

break_at : (spec : FoldForm) (found place n : ℕ) (xs : List ℕ)
    → (last_break spec found place n xs ≡ found)
    ⊎ BreaksAt spec place n xs (last_break spec found place n xs)
break_at spec found place zero xs = inl refl
break_at spec found place (suc n) [] = inl refl
break_at spec found place (suc n) (x ∷ xs) =
    elim (break_at spec (cond (is_break spec x xs) (place + 1) found) (place + 1) n xs) [
      | inl e ↦ break_first (is_break spec x xs) spec found place n x xs _ refl e
      | inr h ↦ inr (suc h.0, omega (arith, h.1), omega (arith, h.2), omega (arith, h.3), h.4)
    ]

-- ---- beside a backspace or a carriage return

long_by : (b : Bool) (more few : ℕ) → more ≤ few → cond b (more + 1) 0 ≤ suc few
long_by true more few h = omega arith
long_by false more few h = omega arith

long_within : (last : ℕ) (xs : List ℕ) → lengthened last xs ≤ length xs
long_within last [] = omega arith
long_within last (x ∷ xs) = long_by (is_back last || is_back x) (lengthened x xs) (length xs)
    (long_within x xs)

neither : (a b : Bool) → (a || b) ≡ false → (a ≡ false) × (b ≡ false)
neither true b h = cc
neither false b h = (refl, h)

either : (a b : Bool) → (a || b) ≡ true → (a ≡ true) ⊎ (b ≡ true)
either true b h = inl refl
either false b h = inr h

abbrev StopsAt : ℕ → List ℕ → ℕ → Type 0
StopsAt last xs l = l < length xs → (is_back (get_or (last ∷ xs) l 0) ≡ false)
    × (is_back (get_or xs l 0) ≡ false)

stops_by : (b : Bool) (last x : ℕ) (xs : List ℕ) (more : ℕ) → (is_back last || is_back x) ≡ b
    → StopsAt x xs more → StopsAt last (x ∷ xs) (cond b (more + 1) 0)
stops_by false last x xs more is h = λ within. neither (is_back last) (is_back x) is
stops_by true last x xs more is h = subst (StopsAt last (x ∷ xs))
    (let e : suc more ≡ more + 1 = omega arith in e) (λ within. h (omega (arith, within)))

stops : (last : ℕ) (xs : List ℕ) → StopsAt last xs (lengthened last xs)
stops last [] = λ within. absurd (omega (arith, within))
stops last (x ∷ xs) = stops_by (is_back last || is_back x) last x xs (lengthened x xs) refl
    (stops x xs)

-- a segment grows only next to one of them
abbrev Grows : ℕ → List ℕ → Type 0
Grows last xs = (is_back last ≡ true) ⊎ ((0 < length xs) × (is_back (get_or xs 0 0) ≡ true))

grows_by : (b : Bool) (last x : ℕ) (xs : List ℕ) (more : ℕ) → (is_back last || is_back x) ≡ b
    → 1 ≤ cond b (more + 1) 0 → Grows last (x ∷ xs)
grows_by false last x xs more is h = absurd (omega (arith, h))
grows_by true last x xs more is h = elim (either (is_back last) (is_back x) is) [
  | inl e ↦ inl e
  | inr e ↦ inr (omega arith, e)
]

grows : (last : ℕ) (xs : List ℕ) → 1 ≤ lengthened last xs → Grows last xs
grows last [] h = absurd (omega (arith, h))
grows last (x ∷ xs) h = grows_by (is_back last || is_back x) last x xs (lengthened x xs) refl h

-- ---- the first segment

record EndsAt (spec : FoldForm) (xs : List ℕ) (at : ℕ) : Type 0 where
  some : 1 ≤ at
  within : at ≤ length xs
  sized : IsSegment spec (take at xs)
  apart : spec.bytes ≡ false → at < length xs → (is_back (get_or xs (at - 1) 0) ≡ false)
      × (is_back (get_or xs at 0) ≡ false)

-- all fit
ends_all : (spec : FoldForm) (x : ℕ) (xs : List ℕ) → length (x ∷ xs) ≤ fitting spec (x ∷ xs)
    → EndsAt spec (x ∷ xs) (length (x ∷ xs))
ends_all spec x xs few = record {
  some = omega arith;
  within = omega arith;
  sized = first_part spec (length (x ∷ xs)) (x ∷ xs) (omega arith) (omega arith) few;
  apart = λ none less. absurd (omega (arith, less));
}

-- after a blank
broken : (spaces blank bytes back : Bool) → (spaces && (blank && (bytes || not back))) ≡ true
    → (blank ≡ true) × (bytes ≡ false → back ≡ false)
broken true true true back h = (refl, λ e. let bad : true ≡ false = e in cc)
broken true true false false h = (refl, λ e. refl)
broken true true false true h = cc
broken true false bytes back h = cc
broken false blank bytes back h = cc

not_begun : (xs : List ℕ) → 0 < length xs → begins_back xs ≡ false → is_back (get_or xs 0 0) ≡ false
not_begun [] some h = absurd (omega arith)
not_begun (x ∷ xs) some h = h

ends_behind : (spec : FoldForm) (xs : List ℕ) (n at : ℕ) → n ≤ fitting spec xs
    → BreaksAt spec 0 n xs at → EndsAt spec xs at
ends_behind spec xs n at few h =
    let j = h.0 in
    let place : at ≡ suc j = omega (arith, h.3) in
    let may = broken spec.spaces (is_blank_byte (get_or xs j 0)) spec.bytes
    (begins_back (drop (suc j) xs)) h.4 in
    record {
      some = omega (arith, h.3);
      within = omega (arith, h.2, h.3);
      sized = first_part spec at xs (omega (arith, h.3)) (omega (arith, h.2, h.3))
          (omega (arith, h.1, h.3, few));
      apart = λ none less. (
        subst (λ k. is_back (get_or xs k 0) ≡ false) (let e : j ≡ at - 1 = omega (arith, place) in
            e) (blank_is_not_back (get_or xs j 0) may.0),
        (let e : suc j + 0 ≡ at = omega (arith, place) in
            let same : get_or (drop (suc j) xs) 0 0 ≡ get_or xs at 0 = get_or-drop (suc j) xs 0 0
            ∙ ap (λ k. get_or xs k 0) e in
            subst (λ b. is_back b ≡ false) same
            (not_begun (drop (suc j) xs) (let l = length-drop (suc j) xs in
            omega (arith, less, place)) (may.1 none))),
      );
    }

-- at the last byte that fits, or after it next to a backspace or a carriage return
back_in : (spec : FoldForm) (xs : List ℕ) (n l : ℕ) → 1 ≤ n → 1 ≤ l → n + l ≤ length xs
    → Grows (get_or xs (n - 1) 0) (drop n xs) → HasBack (take (n + l) xs)
back_in spec xs n l some more within h =
    let long : length (take (n + l) xs) ≡ n + l = length-take-le (n + l) xs within in
    elim h [
      | inl e ↦ (
        n - 1,
        omega (arith, long),
        ap is_back (get_or-take (n + l) xs (n - 1) 0 (omega arith))
            ∙ e,
      )
      | inr e ↦ (
        n,
        omega (arith, long),
        ap is_back (get_or-take (n + l) xs n 0 (omega arith)
            ∙ (let same : n + 0 ≡ n = omega arith in ap (λ k. get_or xs k 0) (sym same))
            ∙ sym (get_or-drop n xs 0 0)) ∙ e.1,
      )
    ]

-- the byte before a place after n bytes, and the one at it
shifted : (xs : List ℕ) (n l : ℕ) → 1 ≤ n
    → get_or (get_or xs (n - 1) 0 ∷ drop n xs) l 0 ≡ get_or xs (n + l - 1) 0
shifted xs n zero some = let e : n - 1 ≡ n + 0 - 1 = omega arith in ap (λ k. get_or xs k 0) e
shifted xs n (suc l) some = get_or-drop n xs l 0
    ∙ (let e : n + l ≡ n + suc l - 1 = omega arith in ap (λ k. get_or xs k 0) e)

ends_beside : (spec : FoldForm) (xs : List ℕ) (n l : ℕ) → spec.bytes ≡ false → 1 ≤ n → n ≤ length xs
    → n ≤ fitting spec xs → l ≡ lengthened (get_or xs (n - 1) 0) (drop n xs)
    → EndsAt spec xs (n + l)
ends_beside spec xs n l none some within few is =
    let rest = length-drop n xs in
    let most : l ≤ length (drop n xs) = subst (λ k. k ≤ length (drop n xs)) (sym is)
    (long_within (get_or xs (n - 1) 0) (drop n xs)) in
    let fits : n + l ≤ length xs = omega (arith, most, rest) in
    record {
      some = omega arith;
      within = fits;
      sized = sized l is most;
      apart = λ none less.
          let stopped = subst (StopsAt (get_or xs (n - 1) 0) (drop n xs)) (sym is)
          (stops (get_or xs (n - 1) 0) (drop n xs)) (omega (arith, less, rest)) in (
            ap is_back (sym (shifted xs n l some))
                ∙ stopped.0,
            ap is_back (sym (get_or-drop n xs l 0)) ∙ stopped.1,
          );
    }
  where
    sized : (k : ℕ) → k ≡ lengthened (get_or xs (n - 1) 0) (drop n xs) → k ≤ length (drop n xs)
        → IsSegment spec (take (n + k) xs)
    sized zero e h = first_part spec (n + 0) xs (omega arith) (omega arith) (omega arith)
    sized (suc k) e h =
        inr (inr (
          none,
          back_in spec xs n (suc k) some (omega arith) (let rest = length-drop n xs in
              omega (arith, h, rest))
              (grows (get_or xs (n - 1) 0) (drop n xs) (subst (λ m. 1 ≤ m) e (omega arith))),
        ))

-- every segment ends so
ends_by : (whole found bytes : Bool) (spec : FoldForm) (x : ℕ) (xs : List ℕ) (n b : ℕ)
    → n ≡ fitting spec (x ∷ xs) → b ≡ last_break spec 0 0 n (x ∷ xs) → spec.bytes ≡ bytes →
    nat_le (length (x ∷ xs)) n ≡ whole → nat_lt 0 b ≡ found →
    EndsAt spec (x ∷ xs) (cond whole (length (x ∷ xs))
    (cond found b
    (cond bytes n (n + lengthened (get_or (x ∷ xs) (n - 1) 0) (drop n (x ∷ xs))))))
ends_by true found bytes spec x xs n b few at is whole none =
    ends_all spec x xs (grind (arith, nat_tests))
ends_by false true bytes spec x xs n b few at is whole none =
    elim (break_at spec 0 0 n (x ∷ xs)) [
      | inl e ↦ absurd (grind (arith, nat_tests))
      | inr h ↦ ends_behind spec (x ∷ xs) n b (omega (arith, few))
          (subst (BreaksAt spec 0 n (x ∷ xs)) (sym at) h)
    ]
ends_by false false true spec x xs n b few at is whole none =
    let less : n ≤ length (x ∷ xs) = grind (arith, nat_tests) in
    let some : 1 ≤ n = omega (arith, few) in
    record {
      some = some;
      within = less;
      sized = first_part spec n (x ∷ xs) some less (omega (arith, few));
      apart = λ other. let bad : true ≡ false = sym is ∙ other in cc;
    }
ends_by false false false spec x xs n b few at is whole none =
    let less : n ≤ length (x ∷ xs) = grind (arith, nat_tests) in
    ends_beside spec (x ∷ xs) n _ is (omega (arith, few)) less (omega (arith, few)) refl

ends : (spec : FoldForm) (x : ℕ) (xs : List ℕ) → EndsAt spec (x ∷ xs) (segment spec (x ∷ xs))
ends spec x xs =
    let n = fitting spec (x ∷ xs) in
    let b = last_break spec 0 0 n (x ∷ xs) in
    ends_by (nat_le (length (x ∷ xs)) n) (nat_lt 0 b) spec.bytes spec x xs n b refl refl refl refl
    refl

-- ---- all segments

-- the first segment begins as the line does
abbrev StartsAs : List ℕ → List (List ℕ) → Type 0
StartsAs [] parts = Unit {0}
StartsAs (x ∷ xs) [] = ⊥
StartsAs (x ∷ xs) ([] ∷ parts) = ⊥
StartsAs (x ∷ xs) ((y ∷ ys) ∷ parts) = x ≡ y

record IsCut (spec : FoldForm) (line : List ℕ) : Type 0 where
  parts : List (List ℕ)
  are : AreSegmentsOf spec line parts
  starts : StartsAs line parts

-- one segment, and the others after it
one_more : (spec : FoldForm) (line front : List ℕ) (y : ℕ) (ys : List ℕ) (at : ℕ)
    → EndsAt spec line at → front ≡ take at line → y ∷ ys ≡ drop at line
    → segments spec line ≡ front ++ newline ∷ segments spec (y ∷ ys) → (parts : List (List ℕ))
    → AreSegmentsOf spec (y ∷ ys) parts → StartsAs (y ∷ ys) parts
    → AreSegmentsOf spec line (front ∷ parts)
one_more spec line front y ys at end is behind written [] are starts = absurd starts
one_more spec line front y ys at end is behind written ([] ∷ parts) are starts = absurd starts
one_more spec line front y ys at end is behind written ((z ∷ zs) ∷ parts) are starts =
    let long : length front ≡ at = ap length is ∙ length-take-le at line end.within in
    let rest : suc (length ys) ≡ length line - at = ap length behind ∙ length-drop at line in
    let last : get_or front (length front - 1) 0 ≡ get_or line (at - 1) 0 =
    ap (λ k. get_or front (k - 1) 0) long ∙ ap (λ f. get_or f (at - 1) 0) is
    ∙ get_or-take at line (at - 1) 0 (let some = end.some in omega arith) in
    let same : at + 0 ≡ at = omega arith in
    let first : z ≡ get_or line at 0 = sym starts ∙ ap (λ f. get_or f 0 0) behind
    ∙ get_or-drop at line 0 0 ∙ ap (λ k. get_or line k 0) same in
    record {
      joined = ap (λ rest. front ++ rest) (are.joined ∙ behind) ∙ ap (λ f. f ++ drop at line) is
          ∙ take-append-drop at line;
      written = written ∙ ap (λ rest. front ++ newline ∷ rest) are.written;
      sized = All-cons (IsSegment spec) front ((z ∷ zs) ∷ parts)
          (subst (IsSegment spec) (sym is) end.sized) are.sized;
      apart = λ none. let kept = end.apart none (omega (arith, rest)) in
          ((ap is_back last ∙ kept.0, ap is_back first ∙ kept.1), are.apart none);
    }

-- one segment alone
only_one : (spec : FoldForm) (line : List ℕ) (at : ℕ) → EndsAt spec line at → [] ≡ drop at line
    → segments spec line ≡ take at line → AreSegmentsOf spec line (take at line ∷ [])
only_one spec line at end behind written =
    let none : 0 ≡ length line - at = ap length behind ∙ length-drop at line in
    record {
      joined = append-nil (take at line) ∙ take_all at line (omega (arith, none));
      written = written;
      sized = All-cons (IsSegment spec) (take at line) [] end.sized (All-nil (IsSegment spec));
      apart = λ other. tt;
    }

starts_first : (x : ℕ) (xs : List ℕ) (at : ℕ) (parts : List (List ℕ)) → 1 ≤ at
    → StartsAs (x ∷ xs) (take at (x ∷ xs) ∷ parts)
starts_first x xs zero parts h = absurd (omega arith)
starts_first x xs (suc at) parts h = refl

cut : (fuel : ℕ) (spec : FoldForm) (line : List ℕ) → length line ≤ fuel → IsCut spec line
cut fuel spec [] h = record {
  parts = [];
  are = record {
    joined = refl;
    written = refl;
    sized = All-nil (IsSegment spec);
    apart =
        λ other. tt;
  };
  starts = tt;
}
cut zero spec (x ∷ xs) h = absurd (omega arith)
cut (suc fuel) spec (x ∷ xs) h = by_case (cut fuel spec) (segment spec (x ∷ xs)) (ends spec x xs)
    (passed spec (segment spec (x ∷ xs)) (x ∷ xs)) (drop (segment spec (x ∷ xs)) (x ∷ xs)) refl
  where
    by_case : ((line : List ℕ) → length line ≤ fuel → IsCut spec line) → (at : ℕ)
        → EndsAt spec (x ∷ xs) at → segments spec (x ∷ xs)
        ≡ take at (x ∷ xs) ++ segments_after spec 0 (drop at (x ∷ xs)) → (rest : List ℕ)
        → rest ≡ drop at (x ∷ xs) → IsCut spec (x ∷ xs)
    by_case others at end written [] behind = record {
      parts = take at (x ∷ xs) ∷ [];
      are = only_one spec (x ∷ xs) at end behind (written
          ∙ ap (λ rest. take at (x ∷ xs) ++ segments_after spec 0 rest) (sym behind)
          ∙ append-nil (take at (x ∷ xs)));
      starts = starts_first x xs at [] end.some;
    }
    by_case others at end written (y ∷ ys) behind =
        let some = end.some in
        let rest : suc (length ys) ≡ suc (length xs) - at = ap length behind
        ∙ length-drop at (x ∷ xs) in
        let more = others (y ∷ ys) (omega (arith, rest)) in
        record {
          parts = take at (x ∷ xs) ∷ more.parts;
          are = one_more spec (x ∷ xs) (take at (x ∷ xs)) y ys at end refl behind
              (written ∙ ap (λ rest. take at (x ∷ xs) ++ segments_after spec 0 rest) (sym behind)
              ∙ ap (λ rest. take at (x ∷ xs) ++ rest)
              (next_segment spec (y ∷ ys) (omega arith)))
              more.parts more.are more.starts;
          starts = starts_first x xs at more.parts end.some;
        }

pub lines_are_cut : LinesAreCut
lines_are_cut spec line =
    let all = cut (length line) spec line (omega arith) in
    (all.parts, all.are)
