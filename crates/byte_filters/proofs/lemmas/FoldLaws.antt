-- What fold makes of a stream, part by part.
use Rattle.std.proofs.Common.{◌≡◌, ℕ, zero, suc, ◌+◌, ◌-◌, ◌≤◌, List, [], ◌∷◌, ◌++◌, Bool, true}
use Rattle.std.proofs.Common.{false, cond, get_or, drop, take, length, refl, ap, ◌∙◌, sym, arith}
use Rattle.std.proofs.Common.{eqb, append_assoc, length-append, length-drop, Option, Some, None}
use Rattle.std.specs.Prelude.{◌&&◌, ◌||◌, not, nat_le, nat_lt}
use Rattle.std.specs.List.{flat_map}
use Rattle.std.proofs.lemmas.List.{append-nil, take-append-le, drop-append-le, take_all, drop_all}
use Rattle.std.proofs.Math.Seq.{take-append-add, drop-append-add}
use Rattle.std.proofs.lemmas.List.Elements.{All-cons, All-nil}
use Rattle.std.proofs.lemmas.Bool.{eqb-true}
use Rattle.std.proofs.lemmas.Bool.Decides.{nat_tests}
use Rattle.machine.specs.Lines.{content, lines, newline, HasNoNewline, IsLine}
use Rattle.command_words.specs.Bytes.{is_blank_byte}
use Rattle.machine.proofs.LinesLaws.{lines-open, lines-whole, content-whole}
use Rattle.commands.specs.declared.fold_words.FoldForm.{FoldForm}
use Rattle.byte_filters.specs.declared.segment.Scan.{Scan}
use Rattle.byte_filters.specs.declared.segment.SegmentStep.{SegmentStep}
use Rattle.byte_filters.specs.declared.segment.SegmentStep.TheVariants.{Goes, Ends}
use Rattle.byte_filters.specs.declared.segment.SegmentEnd.{SegmentEnd}
use Rattle.byte_filters.specs.declared.segment.SegmentEnd.TheVariants.{Cut, Line, Open}
use Rattle.commands.specs.Fold.{is_back, fitting, folded, folded_line, last_break, lengthened}
use Rattle.commands.specs.Fold.{segment, segments, segments_after}
use Rattle.byte_filters.specs.inner.Scans.{IsPart, begun, column_within, found_before, step_by}
use Rattle.byte_filters.specs.inner.Scans.{next_step, scan_of, scan_step, scanned, unfit}
use Rattle.byte_filters.proofs.lemmas.ScanLaws.{Plain, ends_at, segment_is}

-- ---- lines

plain_has_none : (xs : List ℕ) → Plain xs → HasNoNewline xs
plain_has_none [] p = All-nil (λ x. eqb x newline ≡ false)
plain_has_none (x ∷ xs) p = All-cons (λ x. eqb x newline ≡ false) x xs p.0 (plain_has_none xs p.1)

content-plain : (xs : List ℕ) → Plain xs → content xs ≡ xs
content-plain [] p = refl
content-plain (x ∷ []) p = ap (λ (b : Bool). cond b [] (x ∷ [])) p.0
content-plain (x ∷ y ∷ ys) p = ap (λ (zs : List ℕ). x ∷ zs) (content-plain (y ∷ ys) p.1)

folded_line-plain : (spec : FoldForm) (xs : List ℕ) → Plain xs
    → folded_line spec xs ≡ segments spec xs
folded_line-plain spec xs p =
    ap (λ (c : List ℕ). segments spec c ++ drop (length c) xs) (content-plain xs p)
    ∙ (ap (λ (z : List ℕ). segments spec xs ++ z) (drop_all (length xs) xs (omega arith))
    ∙ append-nil (segments spec xs))

-- a stream without newline
pub folded-plain : (spec : FoldForm) (xs : List ℕ) → Plain xs → folded spec xs ≡ segments spec xs
folded-plain spec [] p = refl
folded-plain spec (x ∷ xs) p =
    ap (λ (ls : List (List ℕ)). flat_map (folded_line spec) ls)
    (ap lines (sym (append-nil (x ∷ xs))) ∙ lines-open (x ∷ xs) [] (plain_has_none (x ∷ xs) p))
    ∙ (append-nil (folded_line spec (x ∷ xs)) ∙ folded_line-plain spec (x ∷ xs) p)

-- a line and what follows it
folded-newline : (spec : FoldForm) (xs ys : List ℕ) → Plain xs
    → folded spec (xs ++ newline ∷ ys) ≡ segments spec xs ++ newline ∷ folded spec ys
folded-newline spec xs ys p =
    let l = xs ++ newline ∷ [] in
    let whole : IsLine l = (xs, plain_has_none xs p, refl) in
    ap (folded spec) (sym (append_assoc xs (newline ∷ []) ys))
    ∙ (ap (λ (ls : List (List ℕ)). flat_map (folded_line spec) ls) (lines-whole l ys whole)
    ∙ (ap (λ (c : List ℕ). (segments spec c ++ drop (length c) l) ++ folded spec ys)
    (content-whole xs)
    ∙ (ap (λ (z : List ℕ). (segments spec xs ++ z) ++ folded spec ys)
    (drop-append-le (length xs) xs (newline ∷ []) (omega arith)
    ∙ ap (λ (z : List ℕ). z ++ newline ∷ []) (drop_all (length xs) xs (omega arith)))
    ∙ append_assoc (segments spec xs) (newline ∷ []) (folded spec ys))))

-- what follows the content of a line
abbrev folded_after : FoldForm → List ℕ → List ℕ
folded_after spec [] = []
folded_after spec (x ∷ xs) = x ∷ folded spec xs

-- the first line of a stream, and what follows its content
record Split (zs : List ℕ) : Type 0 where
  pub front : List ℕ
  pub after : List ℕ
  pub plain : Plain front
  pub joined : zs ≡ front ++ after
  pub text : (spec : FoldForm) (xs : List ℕ) → Plain xs
      → folded spec (xs ++ after) ≡ segments spec xs ++ folded_after spec after
  pub stops : (spec : FoldForm) (k : ℕ) (t : Scan) → scanned spec t after ≡ Cut k → ⊥

newline_stops : (spec : FoldForm) (z : ℕ) (zs : List ℕ) (k : ℕ) (t : Scan) → eqb z newline ≡ true
    → scanned spec t (z ∷ zs) ≡ Cut k → ⊥
newline_stops spec z zs k t e h =
    let f : scanned spec t (z ∷ zs) ≡ Line (t.at + 1) =
    ap (λ (b : Bool). cond b (Line (t.at + 1))
    (scan_step (λ (u : Scan). scanned spec u zs) (next_step spec t z))) e in
    let g : Line (t.at + 1) ≡ Cut k = sym f ∙ h in
    cc

nothing_stops : (k : ℕ) (t : Scan) → Open t ≡ Cut k → ⊥
nothing_stops k t h = cc

split_by : (b : Bool) (z : ℕ) (zs : List ℕ) → eqb z newline ≡ b → Split zs → Split (z ∷ zs)
split_by true z zs e s =
    record {
      front = [];
      after = z ∷ zs;
      plain = tt;
      joined = refl;
      text = λ spec xs p.
          let same : z ≡ newline = eqb-true z newline e in
          ap (λ (k : ℕ). folded spec (xs ++ k ∷ zs)) same
          ∙ (folded-newline spec xs zs p
          ∙ ap (λ (k : ℕ). segments spec xs ++ k ∷ folded spec zs) (sym same));
      stops = λ spec k t h. newline_stops spec z zs k t e h;
    }
split_by false z zs e s =
    record {
      front = z ∷ s.front;
      after = s.after;
      plain = (e, s.plain);
      joined = ap (λ (k : List ℕ). z ∷ k) s.joined;
      text = s.text;
      stops = s.stops;
    }

split : (zs : List ℕ) → Split zs
split [] =
    record {
      front = [];
      after = [];
      plain = tt;
      joined = refl;
      text = λ spec xs p. ap (folded spec) (append-nil xs)
          ∙ (folded-plain spec xs p ∙ sym (append-nil (segments spec xs)));
      stops = λ spec k t h. nothing_stops k t h;
    }
split (z ∷ zs) = split_by (eqb z newline) z zs refl (split zs)

-- ---- segments

pub passed : (spec : FoldForm) (n : ℕ) (xs : List ℕ)
    → segments_after spec n xs ≡ take n xs ++ segments_after spec 0 (drop n xs)
passed spec zero xs = refl
passed spec (suc n) [] = refl
passed spec (suc n) (x ∷ xs) = ap (λ (k : List ℕ). x ∷ k) (passed spec n xs)

positive : (m : ℕ) → nat_lt 0 m ≡ true → 1 ≤ m
positive m e = grind (arith, nat_tests)

positive_by : (t s k : Bool) (long n m l : ℕ) → 1 ≤ long → 1 ≤ n → (s ≡ true → 1 ≤ m)
    → 1 ≤ cond t long (cond s m (cond k n (n + l)))
positive_by true s k long n m l h g e = h
positive_by false true k long n m l h g e = e refl
positive_by false false true long n m l h g e = g
positive_by false false false long n m l h g e = omega arith

pub segment_some : (spec : FoldForm) (x : ℕ) (xs : List ℕ) → 1 ≤ segment spec (x ∷ xs)
segment_some spec x xs =
    let n = fitting spec (x ∷ xs) in
    let b = last_break spec 0 0 n (x ∷ xs) in
    let some : 1 ≤ n = omega arith in
    positive_by (nat_le (length (x ∷ xs)) n) (nat_lt 0 b) spec.bytes (length (x ∷ xs)) n b
    (lengthened (get_or (x ∷ xs) (n - 1) 0) (drop n (x ∷ xs))) (omega arith) some (positive b)

-- a segment after another one
pub next_segment : (spec : FoldForm) (xs : List ℕ) → 1 ≤ length xs
    → segments_after spec 0 xs ≡ newline ∷ segments spec xs
next_segment spec [] h = absurd (omega arith)
next_segment spec (x ∷ xs) h =
    let n = segment spec (x ∷ xs) in
    let some = segment_some spec x xs in
    let e : suc (n - 1) ≡ n = omega arith in
    ap (λ (k : ℕ). newline ∷ segments_after spec k (x ∷ xs)) e

-- ---- the scan of a stream

pub at_of_scan : (o : Option ℕ) (last at found : ℕ) → (scan_of o last at found).at ≡ at
at_of_scan None last at found = refl
at_of_scan (Some c) last at found = refl

found_of_scan : (o : Option ℕ) (last at found : ℕ) → (scan_of o last at found).found ≡ found
found_of_scan None last at found = refl
found_of_scan (Some c) last at found = refl

-- a step stays within the bytes that are known
abbrev StepsWithin : Scan → SegmentStep → Type 0
StepsWithin s (Goes t) = (t.at ≡ s.at + 1) × (t.found ≤ s.at + 1)
StepsWithin s (Ends n) = n ≤ s.at + 1

break_within : (b : Bool) (at found : ℕ) → found ≤ at + 1 → cond b (at + 1) found ≤ at + 1
break_within true at found h = omega arith
break_within false at found h = h

goes_within : (spec : FoldForm) (s : Scan) (x : ℕ) (o : Option ℕ) → found_before spec s x ≤ s.at + 1
    → StepsWithin s (Goes (scan_of o x (s.at + 1) (found_before spec s x)))
goes_within spec s x o h =
    let e = found_of_scan o x (s.at + 1) (found_before spec s x) in
    (at_of_scan o x (s.at + 1) (found_before spec s x), omega arith)

unfit_within : (b : Bool) (spec : FoldForm) (s : Scan) (x : ℕ) → found_before spec s x ≤ s.at + 1
    → StepsWithin s (cond b (Goes (scan_of None x (s.at + 1) (found_before spec s x)))
    (Ends (s.at + 1)))
unfit_within true spec s x h = goes_within spec s x None h
unfit_within false spec s x h = omega arith

none_within : (b : Bool) (spec : FoldForm) (s : Scan) (x : ℕ) → found_before spec s x ≤ s.at + 1
    → StepsWithin s (cond b (Ends (found_before spec s x)) (unfit spec s x))
none_within true spec s x h = h
none_within false spec s x h =
    unfit_within (not spec.bytes && (is_back s.last || is_back x)) spec s x h

by_within : (o : Option ℕ) (spec : FoldForm) (s : Scan) (x : ℕ) → found_before spec s x ≤ s.at + 1
    → StepsWithin s (step_by spec s x o)
by_within None spec s x h = none_within (nat_lt 0 (found_before spec s x)) spec s x h
by_within (Some c) spec s x h = goes_within spec s x (Some c) h

over_within : (b : Bool) (spec : FoldForm) (s : Scan) (x : ℕ) → found_before spec s x ≤ s.at + 1
    → StepsWithin s (cond b (unfit spec s x) (step_by spec s x (column_within spec s.column x)))
over_within true spec s x h =
    unfit_within (not spec.bytes && (is_back s.last || is_back x)) spec s x h
over_within false spec s x h = by_within (column_within spec s.column x) spec s x h

step_within : (spec : FoldForm) (s : Scan) (x : ℕ) → s.found ≤ s.at + 1
    → StepsWithin s (next_step spec s x)
step_within spec s x h = over_within s.over spec s x
    (break_within (spec.spaces && (is_blank_byte s.last && (spec.bytes || not (is_back x)))) s.at
    s.found h)

-- what a scan gives, by what the next byte is and does
abbrev segment_end_by : (Scan → SegmentEnd) → ℕ → Bool → SegmentStep → SegmentEnd
segment_end_by next n b p = cond b (Line n) (scan_step next p)

cut_long_by : (b : Bool) (p : SegmentStep) (spec : FoldForm) (s : Scan) (xs : List ℕ) (k : ℕ)
    → StepsWithin s p → ((t : Scan) → scanned spec t xs ≡ Cut k → t.found ≤ t.at + 1
    → k ≤ t.at + length xs) → segment_end_by (λ (t : Scan). scanned spec t xs) (s.at + 1) b p
    ≡ Cut k → k ≤ s.at + suc (length xs)
cut_long_by true p spec s xs k w h e = absurd (cc)
cut_long_by false (Goes t) spec s xs k w h e =
    let at : t.at ≡ s.at + 1 = w.0 in
    let found : t.found ≤ s.at + 1 = w.1 in
    let g = h t e (omega arith) in
    omega arith
cut_long_by false (Ends n) spec s xs k w h e =
    let f : n ≡ k = cc in
    let g : n ≤ s.at + 1 = w in
    omega arith

-- a cut comes before the byte that shows it
cut_long : (spec : FoldForm) (s : Scan) (xs : List ℕ) (k : ℕ) → scanned spec s xs ≡ Cut k
    → s.found ≤ s.at + 1 → k ≤ s.at + length xs
cut_long spec s [] k e h = absurd (cc)
cut_long spec s (x ∷ xs) k e h =
    cut_long_by (eqb x newline) (next_step spec s x) spec s xs k (step_within spec s x h)
    (λ t f g. cut_long spec t xs k f g) e

cut_over : (b : Bool) (p : SegmentStep) (n k : ℕ) (f g : Scan → SegmentEnd)
    → ((t : Scan) → f t ≡ Cut k → g t ≡ Cut k) → segment_end_by f n b p ≡ Cut k
    → segment_end_by g n b p ≡ Cut k
cut_over true p n k f g h e = absurd (cc)
cut_over false (Goes t) n k f g h e = h t e
cut_over false (Ends m) n k f g h e = e

-- a cut stays, whatever follows
cut_stays : (spec : FoldForm) (s : Scan) (xs ys : List ℕ) (k : ℕ) → scanned spec s xs ≡ Cut k
    → scanned spec s (xs ++ ys) ≡ Cut k
cut_stays spec s [] ys k e = absurd (cc)
cut_stays spec s (x ∷ xs) ys k e =
    cut_over (eqb x newline) (next_step spec s x) (s.at + 1) k (λ (t : Scan). scanned spec t xs)
    (λ (t : Scan). scanned spec t (xs ++ ys)) (λ t f. cut_stays spec t xs ys k f) e

-- it is in the first line
cut_first : (spec : FoldForm) (s : Scan) (front after : List ℕ) (k : ℕ)
    → ((t : Scan) → scanned spec t after ≡ Cut k → ⊥) → scanned spec s (front ++ after) ≡ Cut k
    → scanned spec s front ≡ Cut k
cut_first spec s [] after k stops e = absurd (stops s e)
cut_first spec s (x ∷ front) after k stops e =
    cut_over (eqb x newline) (next_step spec s x) (s.at + 1) k
    (λ (t : Scan). scanned spec t (front ++ after)) (λ (t : Scan). scanned spec t front)
    (λ t f. cut_first spec t front after k stops f) e

plain-drop : (n : ℕ) (xs : List ℕ) → Plain xs → Plain (drop n xs)
plain-drop zero xs p = p
plain-drop (suc n) [] p = tt
plain-drop (suc n) (x ∷ xs) p = plain-drop n xs p.1

-- ---- parts

begun_cut_long : (spec : FoldForm) (x : ℕ) (xs : List ℕ) (k : ℕ)
    → scanned spec (begun spec x) xs ≡ Cut k → k ≤ length xs
begun_cut_long spec x xs k e =
    let o = column_within spec 0 x in
    let at = at_of_scan o x 0 0 in
    let found = found_of_scan o x 0 0 in
    let g = cut_long spec (begun spec x) xs k e (omega arith) in
    omega arith

-- a line that is cut after k bytes
cut_line : (spec : FoldForm) (x : ℕ) (front after : List ℕ) (k : ℕ) → Plain (x ∷ front)
    → ((ys : List ℕ) → Plain ys → folded spec (ys ++ after)
    ≡ segments spec ys ++ folded_after spec after) → scanned spec (begun spec x) front ≡ Cut k
    → folded spec ((x ∷ front) ++ after) ≡ (take k (x ∷ front) ++ newline ∷ []) ++ folded spec
    (drop k (x ∷ front) ++ after)
cut_line spec x front after k p text e =
    let c = x ∷ front in
    let long = begun_cut_long spec x front k e in
    let seg : segment spec c ≡ k = segment_is spec x front p.1 ∙ ap ends_at e in
    let some : 1 ≤ length (drop k c) = omega (arith, length-drop k c) in
    let cut : segments spec c ≡ take k c ++ newline ∷ segments spec (drop k c) =
    ap (λ (n : ℕ). segments_after spec n c) seg
    ∙ (passed spec k c ∙ ap (λ (z : List ℕ). take k c ++ z)
    (next_segment spec (drop k c) some)) in
    text c p
    ∙ (ap (λ (z : List ℕ). z ++ folded_after spec after) cut
    ∙ (append_assoc (take k c) (newline ∷ segments spec (drop k c)) (folded_after spec after)
    ∙ (ap (λ (z : List ℕ). take k c ++ newline ∷ z) (sym (text (drop k c) (plain-drop k c p)))
    ∙ sym (append_assoc (take k c) (newline ∷ []) (folded spec (drop k c ++ after))))))

pub part_cut : (spec : FoldForm) (x : ℕ) (xs : List ℕ) (k : ℕ) → eqb x newline ≡ false
    → scanned spec (begun spec x) xs ≡ Cut k → IsPart spec (x ∷ xs) k true
part_cut spec x xs k n e =
    let long = begun_cut_long spec x xs k e in
    let here = split xs in
    let whole : scanned spec (begun spec x) here.front ≡ Cut k =
    cut_first spec (begun spec x) here.front here.after k (here.stops spec k)
    (ap (scanned spec (begun spec x)) (sym here.joined) ∙ e) in
    let seg : segment spec (x ∷ here.front) ≡ k = segment_is spec x here.front here.plain
    ∙ ap ends_at whole in
    let some = segment_some spec x here.front in
    record {
      some = omega arith;
      within = omega arith;
      goes_on = λ ys.
          let w = split (xs ++ ys) in
          let inside : scanned spec (begun spec x) w.front ≡ Cut k =
          cut_first spec (begun spec x) w.front w.after k (w.stops spec k)
          (ap (scanned spec (begun spec x)) (sym w.joined)
          ∙ cut_stays spec (begun spec x) xs ys k e) in
          let c = x ∷ w.front in
          let fits = begun_cut_long spec x w.front k inside in
          let same : (x ∷ xs) ++ ys ≡ c ++ w.after = ap (λ (z : List ℕ). x ∷ z) w.joined in
          let t : take k c ≡ take k (x ∷ xs) = sym (take-append-le k c w.after (omega arith))
          ∙ (ap (take k) (sym same) ∙ take-append-le k (x ∷ xs) ys (omega arith)) in
          let d : drop k c ++ w.after ≡ drop k (x ∷ xs) ++ ys =
          sym (drop-append-le k c w.after (omega arith))
          ∙ (ap (drop k) (sym same) ∙ drop-append-le k (x ∷ xs) ys (omega arith)) in
          ap (folded spec) same
          ∙ (cut_line spec x w.front w.after k (n, w.plain) (w.text spec) inside
          ∙ (ap (λ (z : List ℕ). (z ++ newline ∷ []) ++ folded spec (drop k c ++ w.after)) t
          ∙ ap (λ (z : List ℕ). (take k (x ∷ xs) ++ newline ∷ []) ++ folded spec z) d));
    }

-- a segment that is all of its line
whole_line : (spec : FoldForm) (xs : List ℕ) → segment spec xs ≡ length xs → segments spec xs ≡ xs
whole_line spec xs e =
    ap (λ (n : ℕ). segments_after spec n xs) e
    ∙ (passed spec (length xs) xs
    ∙ (ap (λ (z : List ℕ). take (length xs) xs ++ segments_after spec 0 z)
    (drop_all (length xs) xs (omega arith))
    ∙ (append-nil (take (length xs) xs) ∙ take_all (length xs) xs (omega arith))))

-- the place at which a scan meets a newline
record Meets (spec : FoldForm) (s : Scan) (xs : List ℕ) (k : ℕ) : Type 0 where
  pub front : List ℕ
  pub after : List ℕ
  pub plain : Plain front
  pub joined : xs ≡ front ++ newline ∷ after
  pub outcome : ends_at (scanned spec s front) ≡ k
  pub long : s.at + 1 + length front ≡ k

line_step : (p : SegmentStep) (spec : FoldForm) (s : Scan) (x : ℕ) (xs : List ℕ) (k : ℕ)
    → eqb x newline ≡ false → next_step spec s x ≡ p → StepsWithin s p
    → ((t : Scan) → scanned spec t xs ≡ Line k → t.found ≤ t.at + 1 → Meets spec t xs k)
    → scan_step (λ (t : Scan). scanned spec t xs) p ≡ Line k → Meets spec s (x ∷ xs) k
line_step (Ends n) spec s x xs k b q w h e = absurd (cc)
line_step (Goes t) spec s x xs k b q w h e =
    let at : t.at ≡ s.at + 1 = w.0 in
    let found : t.found ≤ s.at + 1 = w.1 in
    let m = h t e (omega arith) in
    record {
      front = x ∷ m.front;
      after = m.after;
      plain = (b, m.plain);
      joined = ap (λ (z : List ℕ). x ∷ z) m.joined;
      outcome =
          ap ends_at
          (ap (λ (z : Bool). segment_end_by (λ (u : Scan). scanned spec u m.front) (s.at + 1) z
          (next_step spec s x)) b ∙ ap (scan_step (λ (u : Scan). scanned spec u m.front)) q)
          ∙ m.outcome;
      long = let l = m.long in omega arith;
    }

line_by : (b : Bool) (spec : FoldForm) (s : Scan) (x : ℕ) (xs : List ℕ) (k : ℕ) → eqb x newline ≡ b
    → s.found ≤ s.at + 1 → ((t : Scan) → scanned spec t xs ≡ Line k → t.found ≤ t.at + 1
    → Meets spec t xs k) → segment_end_by (λ (t : Scan). scanned spec t xs) (s.at + 1) b
    (next_step spec s x) ≡ Line k → Meets spec s (x ∷ xs) k
line_by true spec s x xs k n f h e =
    let same : s.at + 1 ≡ k = cc in
    record {
      front = [];
      after = xs;
      plain = tt;
      joined = ap (λ (z : ℕ). z ∷ xs) (eqb-true x newline n);
      outcome = same;
      long = omega arith;
    }
line_by false spec s x xs k n f h e = line_step (next_step spec s x) spec s x xs k n refl
    (step_within spec s x f) h e

meets : (spec : FoldForm) (s : Scan) (xs : List ℕ) (k : ℕ) → scanned spec s xs ≡ Line k
    → s.found ≤ s.at + 1 → Meets spec s xs k
meets spec s [] k e f = absurd (cc)
meets spec s (x ∷ xs) k e f = line_by (eqb x newline) spec s x xs k refl f
    (λ t g i. meets spec t xs k g i) e

pub part_line : (spec : FoldForm) (x : ℕ) (xs : List ℕ) (k : ℕ) → eqb x newline ≡ false
    → scanned spec (begun spec x) xs ≡ Line k → IsPart spec (x ∷ xs) (k + 1) false
part_line spec x xs k n e =
    let o = column_within spec 0 x in
    let at = at_of_scan o x 0 0 in
    let found = found_of_scan o x 0 0 in
    let m = meets spec (begun spec x) xs k e (omega arith) in
    let c = x ∷ m.front in
    let l = m.long in
    let long : k ≡ length c = omega arith in
    let seg : segment spec c ≡ length c = segment_is spec x m.front m.plain ∙ (m.outcome ∙ long) in
    let same : x ∷ xs ≡ c ++ newline ∷ m.after = ap (λ (z : List ℕ). x ∷ z) m.joined in
    let t : take (k + 1) (x ∷ xs) ≡ c ++ newline ∷ [] = ap (take (k + 1)) same
    ∙ (ap (λ (i : ℕ). take (i + 1) (c ++ newline ∷ m.after)) long
    ∙ take-append-add c (newline ∷ m.after) 1) in
    let d : drop (k + 1) (x ∷ xs) ≡ m.after = ap (drop (k + 1)) same
    ∙ (ap (λ (i : ℕ). drop (i + 1) (c ++ newline ∷ m.after)) long
    ∙ drop-append-add c (newline ∷ m.after) 1) in
    let many = ap length m.joined ∙ length-append m.front (newline ∷ m.after) in
    record {
      some = omega arith;
      within = omega arith;
      goes_on = λ ys.
          ap (λ (z : List ℕ). folded spec (z ++ ys)) same
          ∙ (ap (folded spec) (append_assoc c (newline ∷ m.after) ys)
          ∙ (folded-newline spec c (m.after ++ ys) (n, m.plain)
          ∙ (ap (λ (z : List ℕ). z ++ newline ∷ folded spec (m.after ++ ys)) (whole_line spec c seg)
          ∙ (sym (append_assoc c (newline ∷ []) (folded spec (m.after ++ ys)))
          ∙ (ap (λ (z : List ℕ). z ++ folded spec (m.after ++ ys)) (sym t
          ∙ sym (append-nil (take (k + 1) (x ∷ xs))))
          ∙ ap (λ (z : List ℕ). (take (k + 1) (x ∷ xs) ++ []) ++ folded spec (z ++ ys))
          (sym d))))));
    }

pub part_newline : (spec : FoldForm) (x : ℕ) (xs : List ℕ) → x ≡ newline
    → IsPart spec (x ∷ xs) 1 false
part_newline spec x xs e =
    record {
      some = omega arith;
      within = omega arith;
      goes_on = λ ys. ap (λ (z : ℕ). folded spec (z ∷ xs ++ ys)) e
          ∙ (folded-newline spec [] (xs ++ ys) tt
          ∙ ap (λ (z : ℕ). z ∷ folded spec (xs ++ ys)) (sym e));
    }

open_by : (b : Bool) (p : SegmentStep) (spec : FoldForm) (s t : Scan) (xs : List ℕ)
    → StepsWithin s p → ((u : Scan) → scanned spec u xs ≡ Open t → u.found ≤ u.at + 1
    → Plain xs × (t.at ≡ u.at + length xs))
    → segment_end_by (λ (u : Scan). scanned spec u xs) (s.at + 1) b p ≡ Open t
    → (b ≡ false) × Plain xs × (t.at ≡ s.at + suc (length xs))
open_by true p spec s t xs w h e = absurd (cc)
open_by false (Goes u) spec s t xs w h e =
    let at : u.at ≡ s.at + 1 = w.0 in
    let found : u.found ≤ s.at + 1 = w.1 in
    let g = h u e (omega arith) in
    let l : t.at ≡ u.at + length xs = g.1 in
    (refl, g.0, omega arith)
open_by false (Ends n) spec s t xs w h e = absurd (cc)

opened : (spec : FoldForm) (s t : Scan) (xs : List ℕ) → scanned spec s xs ≡ Open t
    → s.found ≤ s.at + 1 → Plain xs × (t.at ≡ s.at + length xs)
opened spec s t [] e f =
    let same : s ≡ t = cc in
    let a = ap (λ (u : Scan). u.at) same in
    (tt, omega arith)
opened spec s t (x ∷ xs) e f =
    let g = open_by (eqb x newline) (next_step spec s x) spec s t xs (step_within spec s x f)
    (λ u i j. opened spec u t xs i j) e in
    ((g.0, g.1), g.2)

pub rest_plain : (spec : FoldForm) (x : ℕ) (xs : List ℕ) (t : Scan) → eqb x newline ≡ false
    → scanned spec (begun spec x) xs ≡ Open t → HasNoNewline (x ∷ xs)
rest_plain spec x xs t n e =
    let o = column_within spec 0 x in
    let at = at_of_scan o x 0 0 in
    let found = found_of_scan o x 0 0 in
    let g = opened spec (begun spec x) t xs e (omega arith) in
    plain_has_none (x ∷ xs) (n, g.0)

pub rest_stays : (spec : FoldForm) (x : ℕ) (xs : List ℕ) (t : Scan) → eqb x newline ≡ false
    → scanned spec (begun spec x) xs ≡ Open t → folded spec (x ∷ xs) ≡ x ∷ xs
rest_stays spec x xs t n e =
    let o = column_within spec 0 x in
    let at = at_of_scan o x 0 0 in
    let found = found_of_scan o x 0 0 in
    let g = opened spec (begun spec x) t xs e (omega arith) in
    let l : t.at ≡ (begun spec x).at + length xs = g.1 in
    let long : t.at + 1 ≡ length (x ∷ xs) = omega arith in
    folded-plain spec (x ∷ xs) (n, g.0)
    ∙ whole_line spec (x ∷ xs) (segment_is spec x xs g.0 ∙ (ap ends_at e ∙ long))
