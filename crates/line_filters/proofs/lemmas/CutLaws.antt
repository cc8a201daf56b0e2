-- The content of a line, and the bytes of it that cut puts.
use Rattle.std.proofs.Common.{◌≡◌, ℕ, ◌+◌, ◌-◌, ◌<◌, ◌≤◌, Bool, true, false, cond, eqb, leb, List}
use Rattle.std.proofs.Common.{[], ◌∷◌, ◌++◌, length, take, drop, refl, ap, ◌∙◌, sym, arith}
use Rattle.std.proofs.Common.{append_assoc}
use Rattle.std.specs.List.{All, join_with_byte}
use Rattle.std.proofs.lemmas.Bool.{leb-true, le-leb, and_parts, and_from}
use Rattle.std.proofs.lemmas.List.{append-nil, length-drop}
use Rattle.machine.specs.Lines.{newline}
use Rattle.commands.specs.declared.cut_words.Parts.TheVariants.{Fields}
use Rattle.commands.specs.declared.range.Range.{Range}
use Rattle.commands.specs.Cut.{cut_content, fields, has_byte}
use Rattle.machine.specs.inner.Places.{FirstFrom}
use Rattle.line_filters.specs.inner.Ranges.{IsNextRange, IsNoneFrom, IsPassed}
use Rattle.commands.specs.Selections.{is_in, is_up_to, is_selected, selected_from, selected}
use Rattle.commands.proofs.AnyLaws.{has_first, has_none}
use Rattle.line_filters.proofs.lemmas.SelectLaws.{selected_past, selected_range, selected_none}
use Rattle.line_filters.proofs.lemmas.SelectLaws.{none_from_selected}

-- the selected bytes before `at` are put, if `before` bytes of the line came before them
pub record BytesPut (ranges : List Range) (before : ℕ) (content' : List ℕ) (at passed : ℕ)
    (made made' : List ℕ) : Type 0 where
  pub within : at ≤ length content'
  pub passes : IsPassed ranges passed (before + at + 1)
  pub splits : made ++ selected_from (is_selected ranges) (before + 1) content'
      ≡ made' ++ selected_from (is_selected ranges) (before + at + 1) (drop at content')

pub bytes_none : (ranges : List Range) (before : ℕ) (content' made : List ℕ)
    → BytesPut ranges before content' 0 0 made made
bytes_none ranges before content' made =
    let n : before + 1 ≡ before + 0 + 1 = omega arith in
    record {
      within = omega arith;
      passes = λ k low. refl;
      splits = ap (λ (k : ℕ). made ++ selected_from (is_selected ranges) k content') n;
    }

bytes_end : (ranges : List Range) (before : ℕ) (content' : List ℕ) (at passed : ℕ)
    (made made' : List ℕ) → BytesPut ranges before content' at passed made made'
    → selected_from (is_selected ranges) (before + at + 1) (drop at content') ≡ []
    → made' ≡ made ++ selected_from (is_selected ranges) (before + 1) content'
bytes_end ranges before content' at passed made made' p none =
    sym (p.splits ∙ (ap (λ (x : List ℕ). made' ++ x) none ∙ append-nil made'))

pub bytes_over : (ranges : List Range) (before : ℕ) (content' : List ℕ) (at passed : ℕ)
    (made made' : List ℕ) → BytesPut ranges before content' at passed made made'
    → IsNoneFrom (is_selected ranges) (before + at + 1)
    → made' ≡ made ++ selected_from (is_selected ranges) (before + 1) content'
bytes_over ranges before content' at passed made made' p none =
    bytes_end ranges before content' at passed made made' p
    (none_from_selected (is_selected ranges) (before + at + 1) (drop at content') none)

pub bytes_short : (ranges : List Range) (before : ℕ) (content' : List ℕ) (at passed : ℕ)
    (made made' : List ℕ) (range : Range) → BytesPut ranges before content' at passed made made'
    → IsNextRange (is_selected ranges) (before + at + 1) range
    → length content' < range.first - before
    → made' ≡ made ++ selected_from (is_selected ranges) (before + 1) content'
bytes_short ranges before content' at passed made made' range p r h =
    bytes_end ranges before content' at passed made made' p
    (selected_none (is_selected ranges) (before + at + 1) range.first (drop at content')
    (omega (arith, h, r.after, length-drop at content', p.within)) r.none_before)

within_range : (range : Range) (k : ℕ) → range.first ≤ k → is_up_to range.last k ≡ true
    → is_in range k ≡ true
within_range range k low h = and_from (leb range.first k) (is_up_to range.last k)
    (le-leb range.first k low) h

-- a place up to which a range goes
abbrev pub GoesTo : Range → ℕ → ℕ → ℕ → Type 0
GoesTo range before n end = (k : ℕ) → 1 ≤ k → k ≤ n → is_up_to range.last (before + k) ≡ leb k end

-- the first number of a range is at most the place after the range
pub range_reaches : (range : Range) (before end n : ℕ) → is_in range range.first ≡ true
    → before < range.first → range.first - before ≤ n → GoesTo range before n end
    → range.first - before ≤ end
range_reaches range before end n some low h same =
    let parts = and_parts (leb range.first range.first) (is_up_to range.last range.first) some in
    let k = range.first - before in
    let e : before + k ≡ range.first = omega (arith, low) in
    leb-true k end (sym (same k (omega (arith, low)) h) ∙ (ap (is_up_to range.last) e ∙ parts.1))

is_within : (range : Range) (before n end k : ℕ) → GoesTo range before n end → end ≤ n
    → before < range.first → range.first ≤ k → k < before + end + 1 → is_in range k ≡ true
is_within range before n end k same ends some low high =
    let e : before + (k - before) ≡ k = omega (arith, some, low) in
    within_range range k low (sym (ap (is_up_to range.last) e)
    ∙ (same (k - before) (omega (arith, some, low)) (omega (arith, high, ends))
    ∙ le-leb (k - before) end (omega (arith, high))))

pub bytes_more : (ranges : List Range) (before : ℕ) (content' : List ℕ) (at passed passed' end : ℕ)
    (made made1 made2 : List ℕ) (range : Range)
    → BytesPut ranges before content' at passed made made1
    → IsNextRange (is_selected ranges) (before + at + 1) range
    → IsPassed ranges passed' (before + end + 1) → range.first - before ≤ length content'
    → end ≤ length content' → GoesTo range before (length content') end
    → made2 ≡ made1 ++ take (end - (range.first - before - 1))
    (drop (range.first - before - 1) content')
    → BytesPut ranges before content' end passed' made made2
bytes_more ranges before content' at passed passed' end made made1 made2 range p r passes within
    ends same e =
    let start = range.first - before - 1 in
    let part = take (end - start) (drop start content') in
    let some : before < range.first = omega (arith, r.after) in
    let reach : range.first - before ≤ end =
    range_reaches range before end (length content') r.some some within same in
    record {
      within = ends;
      passes = passes;
      splits =
          p.splits
          ∙ (ap (λ (x : List ℕ). made1 ++ x)
          (selected_past (is_selected ranges) (before + at + 1) range.first at start content'
          (omega (arith, r.after)) (omega (arith, r.after, within))
          (omega (arith, r.after)) r.none_before
          ∙ selected_range (is_selected ranges) range.first (before + end + 1) start end content'
          (omega (arith, reach)) ends (omega (arith, r.after, reach))
          (λ k low high. r.all k
          (is_within range before (length content') end k same ends some low high)))
          ∙ (sym
          (append_assoc made1 part
          (selected_from (is_selected ranges) (before + end + 1) (drop end content')))
          ∙ ap (λ (x : List ℕ). x ++ selected_from (is_selected ranges) (before + end + 1)
          (drop end content')) (sym e)));
    }

-- a content with the delimiter, and one without it
with_fields : (selects : ℕ → Bool) (d : ℕ) (only : Bool) (xs : List ℕ) → has_byte d xs ≡ true
    → cut_content selects (Fields d only) xs ≡ join_with_byte d (selected selects (fields d xs))
    ++ newline ∷ []
with_fields selects d only xs h =
    ap (λ (b : Bool). cond b (join_with_byte d (selected selects (fields d xs)) ++ newline ∷ [])
    (cond only [] (xs ++ newline ∷ []))) h

without_fields : (selects : ℕ → Bool) (d : ℕ) (only : Bool) (xs : List ℕ) → has_byte d xs ≡ false
    → cut_content selects (Fields d only) xs ≡ cond only [] (xs ++ newline ∷ [])
without_fields selects d only xs h =
    ap (λ (b : Bool). cond b (join_with_byte d (selected selects (fields d xs)) ++ newline ∷ [])
    (cond only [] (xs ++ newline ∷ []))) h

-- the content was put, and a newline
pub line_put : (made made1 made2 put whole : List ℕ) → made1 ≡ made ++ put
    → made2 ≡ made1 ++ newline ∷ [] → whole ≡ put ++ newline ∷ [] → made2 ≡ made ++ whole
line_put made made1 made2 put whole e1 e2 w =
    e2 ∙ (ap (λ (x : List ℕ). x ++ newline ∷ []) e1
    ∙ (append_assoc made put (newline ∷ []) ∙ ap (λ (x : List ℕ). made ++ x) (sym w)))

pub fields_put : (selects : ℕ → Bool) (d : ℕ) (only : Bool) (xs made made1 made2 : List ℕ) (k : ℕ)
    → FirstFrom xs d 0 k → made1 ≡ made ++ join_with_byte d (selected selects (fields d xs))
    → made2 ≡ made1 ++ newline ∷ [] → made2 ≡ made ++ cut_content selects (Fields d only) xs
fields_put selects d only xs made made1 made2 k f e1 e2 =
    line_put made made1 made2 (join_with_byte d (selected selects (fields d xs)))
    (cut_content selects (Fields d only) xs) e1 e2
    (with_fields selects d only xs (has_first d xs k f))

-- a content without the delimiter was put whole, or left out
pub none_put : (selects : ℕ → Bool) (d : ℕ) (only : Bool) (xs made made' : List ℕ)
    → All (λ x. eqb x d ≡ false) xs → made' ≡ made ++ cond only [] (xs ++ newline ∷ [])
    → made' ≡ made ++ cut_content selects (Fields d only) xs
none_put selects d only xs made made' none e = e
    ∙ ap (λ (x : List ℕ). made ++ x) (sym (without_fields selects d only xs (has_none d xs none)))
