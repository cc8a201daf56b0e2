-- Fields one after another.
use Rattle.std.proofs.Common.{◌≡◌, ℕ, suc, ⊎_elim, ◌+◌, ◌-◌, ◌<◌, ◌≤◌, Bool, true, false, cond, eqb}
use Rattle.std.proofs.Common.{leb, List, [], ◌∷◌, ◌++◌, length, take, drop, Option, Some, None}
use Rattle.std.proofs.Common.{refl, ap, ◌∙◌, sym, subst, arith, append_assoc}
use Rattle.std.specs.Prelude.{◌≢◌, MatchOption}
use Rattle.std.specs.List.{count_by, flat_map, join_with_byte, onto_first, slice_split}
use Rattle.std.proofs.lemmas.Bool.{cases_lt, eq-eqb, leb-true, le-leb, lt-leb, and_parts, and_from}
use Rattle.std.proofs.lemmas.List.{append-nil, drop-drop, length-drop, length-take}
use Rattle.std.proofs.lemmas.List.Concat.{flat_map-append}
use Rattle.std.proofs.lemmas.List.Splits.{length-slice_split, join_with_byte-slice_split}
use Rattle.std.proofs.lemmas.List.Splits.{slice_split-cons_no, slice_split-cons_yes}
use Rattle.std.proofs.lemmas.List.Sums.{count_by-le-length}
use Rattle.std.proofs.Math.Seq.{take-add, drop-append_seam}
use Rattle.commands.specs.declared.range.Range.{Range}
use Rattle.commands.specs.Cut.{fields}
use Rattle.line_filters.specs.inner.FieldPlaces.{FieldsUpTo, FieldsBefore, FieldsOf, AllFieldsOf}
use Rattle.line_filters.specs.inner.FieldPlaces.{IsLed, IsWalkedTo}
use Rattle.lanes.specs.inner.Walks.{Course, IsNth, places_from}
use Rattle.line_filters.specs.inner.Ranges.{IsNextRange, IsNoneFrom, IsPassed}
use Rattle.commands.specs.Selections.{is_in, is_up_to, is_selected, selected_from, selected}
use Rattle.line_filters.proofs.lemmas.WalkedLaws.{walked_to}
use Rattle.line_filters.proofs.lemmas.SelectLaws.{selected-append, selected_none, selected_all}
use Rattle.line_filters.proofs.lemmas.SelectLaws.{none_from_selected}

-- what is between three places
pub parts_join : (a b c : ℕ) (xs : List ℕ) → a ≤ b → b ≤ c
    → take (c - a) (drop a xs) ≡ take (b - a) (drop a xs) ++ take (c - b) (drop b xs)
parts_join a b c xs h k =
    let m : c - a ≡ (b - a) + (c - b) = omega arith in
    let e : a + (b - a) ≡ b = omega arith in
    ap (λ (j : ℕ). take j (drop a xs)) m
    ∙ (take-add (b - a) (c - b) (drop a xs)
    ∙ ap (λ (ys : List ℕ). take (b - a) (drop a xs) ++ take (c - b) ys) (drop-drop (b - a) a xs
    ∙ ap (λ (j : ℕ). drop j xs) e))

onto_front : (x : ℕ) (xs ys : List (List ℕ)) → 1 ≤ length xs
    → onto_first x (xs ++ ys) ≡ onto_first x xs ++ ys
onto_front x [] ys some = absurd (omega (arith, some))
onto_front x (y ∷ xs) ys some = refl

-- the fields before and after a delimiter
split_by : (p : ℕ → Bool) (x : ℕ) (xs ys : List ℕ) (b : Bool) → p x ≡ b
    → slice_split p (xs ++ ys) ≡ slice_split p xs ++ slice_split p (drop 1 ys)
    → slice_split p (x ∷ (xs ++ ys)) ≡ slice_split p (x ∷ xs) ++ slice_split p (drop 1 ys)
split_by p x xs ys true e h =
    slice_split-cons_yes p x (xs ++ ys) e
    ∙ (ap (λ (ps : List (List ℕ)). [] ∷ ps) h
    ∙ ap (λ (ps : List (List ℕ)). ps ++ slice_split p (drop 1 ys))
    (sym (slice_split-cons_yes p x xs e)))
split_by p x xs ys false e h =
    slice_split-cons_no p x (xs ++ ys) e
    ∙ (ap (onto_first x) h
    ∙ (onto_front x (slice_split p xs) (slice_split p (drop 1 ys))
    (omega (arith, length-slice_split p xs))
    ∙ ap (λ (ps : List (List ℕ)). ps ++ slice_split p (drop 1 ys))
    (sym (slice_split-cons_no p x xs e))))

split_at : (d : ℕ) (xs ys : List ℕ) → fields d (xs ++ d ∷ ys) ≡ fields d xs ++ fields d ys
split_at d [] ys = slice_split-cons_yes (λ x. eqb x d) d ys (eq-eqb d d refl)
split_at d (x ∷ xs) ys = split_by (λ y. eqb y d) x xs (d ∷ ys) (eqb x d) refl (split_at d xs ys)

-- a place of the delimiter, and what follows
led_at : (w : Course) (count end : ℕ) → IsNth w count end → IsLed w.byte w.bytes (end + 1)
led_at w count end n =
    let front = take (end - w.from) (drop w.from w.bytes) in
    let e : w.from + (end - w.from) ≡ end = omega (arith, n.after) in
    let less : end + 1 - 1 ≡ end = omega arith in
    let long : end - w.from ≡ length front =
    omega (
      arith,
      n.after,
      n.within,
      length-take (end - w.from) (drop w.from w.bytes),
      length-drop w.from w.bytes,
    ) in
    record {
      some = omega arith;
      before =
          ap (λ (k : ℕ). drop k w.bytes) (less ∙ sym e)
          ∙ (sym (drop-drop (end - w.from) w.from w.bytes)
          ∙ (ap (drop (end - w.from)) n.here
          ∙ (ap (λ (k : ℕ). drop k (front ++ w.byte ∷ drop (end + 1) w.bytes)) long
          ∙ drop-append_seam front (w.byte ∷ drop (end + 1) w.bytes))));
    }

-- as many fields as the place has delimiters up to it
fields_up_to : (w : Course) (count end : ℕ) → IsNth w count end
    → FieldsUpTo w.byte count w.bytes w.from end
fields_up_to w count end n =
    let front = take (end - w.from) (drop w.from w.bytes) in
    let long : length front ≤ end - w.from =
    omega (arith, length-take (end - w.from) (drop w.from w.bytes)) in
    let few : count_by (λ x. eqb x w.byte) front ≤ length front =
    count_by-le-length (λ x. eqb x w.byte) front in
    record {
      front = fields w.byte front;
      many = omega (arith, n.counted, few, long, n.after);
      within = n.within;
      counted = omega (arith, n.counted, length-slice_split (λ x. eqb x w.byte) front);
      splits = ap (fields w.byte) n.here ∙ split_at w.byte front (drop (end + 1) w.bytes);
      joined = join_with_byte-slice_split w.byte front;
      led = led_at w count end n;
    }

-- what is found by the delimiters from a place on
pub ended_fields : (end : Option ℕ) (w : Course) (count : ℕ) (new : Course) → 1 ≤ count
    → MatchOption end (places_from w < count) (λ place. IsNth w count place
    × (new ≡ record w { from = place + 1 }))
    → MatchOption end (length (fields w.byte (drop w.from w.bytes)) ≤ count)
    (λ place. FieldsUpTo w.byte count w.bytes w.from place × IsWalkedTo (place + 1) w new)
ended_fields None w count new some h =
    omega (arith, h, length-slice_split (λ x. eqb x w.byte) (drop w.from w.bytes))
ended_fields (Some place) w count new some h =
    (fields_up_to w count place h.0, walked_to w w new (place + 1) refl refl h.1)

pub before_none : (d count : ℕ) (content : List ℕ) (at : ℕ) → at ≤ length content → count ≡ 0
    → FieldsBefore d count content at at
before_none d count content at within none =
    record {
      front = [];
      many = omega arith;
      within = within;
      counted = sym none;
      splits =
          refl;
      led = λ some. absurd (some none);
      here = λ _. refl;
    }

pub before_some : (d count : ℕ) (content : List ℕ) (at end : ℕ) → count ≢ 0
    → FieldsUpTo d count content at end → FieldsBefore d count content at (end + 1)
before_some d count content at end some u =
    record {
      front = u.front;
      many = u.many;
      within = omega (arith, u.within);
      counted =
          u.counted;
      splits = u.splits;
      led = λ _. u.led;
      here = λ none. absurd (some none);
    }

-- the fields with the delimiter before them, unless they are the first
pub led_fields : (first : Bool) (d : ℕ) (content : List ℕ) (at start count : ℕ)
    → (first ≡ false → IsLed d content at) → FieldsBefore d count content at start → first ≡ false
    → IsLed d content start
led_fields first d content at start count led b e =
    ⊎_elim (λ (some : 0 < count). b.led (λ none. absurd (omega (arith, some, none))))
    (λ none. subst (IsLed d content) (sym (b.here (omega (arith, none)))) (led e))
    (cases_lt 0 count)

abbrev pub lead : Bool → ℕ → ℕ
lead first start = cond first start (start - 1)

pub with_lead : (first : Bool) (d : ℕ) (content : List ℕ) (start end : ℕ)
    → (first ≡ false → IsLed d content start) → start ≤ end
    → take (end - lead first start) (drop (lead first start) content)
    ≡ cond first (take (end - start) (drop start content))
    (d ∷ take (end - start) (drop start content))
with_lead true d content start end led order = refl
with_lead false d content start end led order =
    let l = led refl in
    let n : end - (start - 1) ≡ suc (end - start) = omega (arith, l.some, order) in
    ap (λ (k : ℕ). take k (drop (start - 1) content)) n ∙ ap (take (suc (end - start))) l.before

-- a range that has its first number does not end before it
pub first_last : (range : Range) (last : ℕ) → is_in range range.first ≡ true
    → range.last ≡ Some last → range.first ≤ last
first_last range last some e =
    let parts = and_parts (leb range.first range.first) (is_up_to range.last range.first) some in
    leb-true range.first last (ap (λ (o : Option ℕ). is_up_to o range.first) (sym e) ∙ parts.1)

in_up_to : (range : Range) (last k : ℕ) → range.last ≡ Some last → range.first ≤ k → k ≤ last
    → is_in range k ≡ true
in_up_to range last k e low high =
    and_from (leb range.first k) (is_up_to range.last k) (le-leb range.first k low)
    (ap (λ (o : Option ℕ). is_up_to o k) e ∙ le-leb k last high)

pub range_open : (range : Range) (d : ℕ) (content : List ℕ) (start : ℕ) → range.last ≡ None
    → AllFieldsOf range d content start
range_open range d content start e k low high =
    and_from (leb range.first k) (is_up_to range.last k) (le-leb range.first k low)
    (ap (λ (o : Option ℕ). is_up_to o k) e)

pub range_short : (range : Range) (d last : ℕ) (content : List ℕ) (start : ℕ)
    → is_in range range.first ≡ true → range.last ≡ Some last
    → length (fields d (drop start content)) ≤ last - range.first + 1
    → AllFieldsOf range d content start
range_short range d last content start some e few k low high =
    let up : range.first ≤ last = first_last range last some e in
    in_up_to range last k e low (omega (arith, few))

pub range_ended : (range : Range) (d last : ℕ) (content : List ℕ) (start end : ℕ)
    → is_in range range.first ≡ true → range.last ≡ Some last → range.first ≤ start + 1
    → FieldsUpTo d (last - range.first + 1) content start end
    → FieldsOf range d content start end (last + 1)
range_ended range d last content start end some e few u =
    let up : range.first ≤ last = first_last range last some e in
    let n : last - range.first + 1 ≡ last + 1 - range.first = omega arith in
    record {
      some = omega arith;
      inside = λ k low high. in_up_to range last k e low (omega arith);
      ends = ap (λ (o : Option ℕ). is_up_to o (last + 1)) e ∙ lt-leb (last + 1) last (omega arith);
      few = omega (arith, u.many);
      places = subst (λ (j : ℕ). FieldsUpTo d j content start end) n u;
    }

-- the parts joined, with a delimiter before the first one too unless it is the first of all
abbrev pub joined : Bool → ℕ → List (List ℕ) → List ℕ
joined first d parts = cond first (join_with_byte d parts) (flat_map (λ (p : List ℕ). d ∷ p) parts)

join-cons : (d : ℕ) (p : List ℕ) (ps : List (List ℕ))
    → join_with_byte d (p ∷ ps) ≡ p ++ flat_map (λ (q : List ℕ). d ∷ q) ps
join-cons d p [] = sym (append-nil p)
join-cons d p (q ∷ qs) = ap (λ (x : List ℕ). p ++ d ∷ x) (join-cons d q qs)

join_front : (d : ℕ) (front parts : List (List ℕ)) → 1 ≤ length front
    → join_with_byte d (front ++ parts) ≡ join_with_byte d front ++ flat_map
    (λ (q : List ℕ). d ∷ q) parts
join_front d [] parts some = absurd (omega (arith, some))
join_front d (f ∷ []) parts some = join-cons d f parts
join_front d (f ∷ g ∷ fs) parts some =
    ap (λ (x : List ℕ). f ++ d ∷ x) (join_front d (g ∷ fs) parts (omega arith))
    ∙ sym (append_assoc f (d ∷ join_with_byte d (g ∷ fs))
    (flat_map (λ (q : List ℕ). d ∷ q) parts))

flat_join : (d : ℕ) (front : List (List ℕ)) → 1 ≤ length front
    → flat_map (λ (q : List ℕ). d ∷ q) front ≡ d ∷ join_with_byte d front
flat_join d [] some = absurd (omega (arith, some))
flat_join d (f ∷ fs) some = ap (λ (x : List ℕ). d ∷ x) (sym (join-cons d f fs))

pub joined-front : (first : Bool) (d : ℕ) (front parts : List (List ℕ)) → 1 ≤ length front
    → joined first d (front ++ parts) ≡ cond first (join_with_byte d front)
    (d ∷ join_with_byte d front) ++ flat_map (λ (q : List ℕ). d ∷ q) parts
joined-front true d front parts some = join_front d front parts some
joined-front false d front parts some =
    flat_map-append (λ (q : List ℕ). d ∷ q) front parts
    ∙ ap (λ (x : List ℕ). x ++ flat_map (λ (q : List ℕ). d ∷ q) parts) (flat_join d front some)

some_field : (d : ℕ) (xs : List ℕ) → 1 ≤ length (fields d xs)
some_field d xs = omega (arith, length-slice_split (λ x. eqb x d) xs)

-- all fields of what is left
pub joined_rest : (first : Bool) (d : ℕ) (xs : List ℕ)
    → joined first d (fields d xs) ≡ cond first xs (d ∷ xs)
joined_rest true d xs = join_with_byte-slice_split d xs
joined_rest false d xs = flat_join d (fields d xs) (some_field d xs)
    ∙ ap (λ (x : List ℕ). d ∷ x) (join_with_byte-slice_split d xs)

pub joined_none : (first : Bool) (d : ℕ) → joined first d [] ≡ []
joined_none true d = refl
joined_none false d = refl

-- the selected fields before `at` are put, if the next field has this number
pub record FieldsPut (ranges : List Range) (d : ℕ) (content : List ℕ) (at number passed : ℕ)
    (first : Bool) (made made' : List ℕ) : Type 0 where
  pub within : at ≤ length content
  pub some : 1 ≤ number
  pub few : number ≤ at + 1
  pub before : IsPassed ranges passed number
  pub splits : made ++ join_with_byte d (selected (is_selected ranges) (fields d content))
      ≡ made' ++ joined first d (selected_from (is_selected ranges) number
      (fields d (drop at content)))

pub put_none : (ranges : List Range) (d : ℕ) (content made : List ℕ)
    → FieldsPut ranges d content 0 1 0 true made made
put_none ranges d content made = record {
  within = omega arith;
  some = omega arith;
  few =
      omega arith;
  before = λ k low. refl;
  splits = refl;
}

-- if no more field is selected
put_ends : (ranges : List Range) (d : ℕ) (content : List ℕ) (at number passed : ℕ) (first : Bool)
    (made made' : List ℕ) → FieldsPut ranges d content at number passed first made made'
    → selected_from (is_selected ranges) number (fields d (drop at content)) ≡ []
    → made' ≡ made ++ join_with_byte d (selected (is_selected ranges) (fields d content))
put_ends ranges d content at number passed first made made' p none =
    sym (p.splits ∙ (ap (λ ps. made' ++ joined first d ps) none
    ∙ (ap (λ (x : List ℕ). made' ++ x) (joined_none first d) ∙ append-nil made')))

pub put_over : (ranges : List Range) (d : ℕ) (content : List ℕ) (at number passed : ℕ)
    (first : Bool) (made made' : List ℕ)
    → FieldsPut ranges d content at number passed first made made'
    → IsNoneFrom (is_selected ranges) number
    → made' ≡ made ++ join_with_byte d (selected (is_selected ranges) (fields d content))
put_over ranges d content at number passed first made made' p none =
    put_ends ranges d content at number passed first made made' p
    (none_from_selected (is_selected ranges) number (fields d (drop at content)) none)

pub put_short : (ranges : List Range) (d : ℕ) (content : List ℕ) (at number passed : ℕ)
    (first : Bool) (made made' : List ℕ) (range : Range)
    → FieldsPut ranges d content at number passed first made made'
    → IsNextRange (is_selected ranges) number range
    → length (fields d (drop at content)) ≤ range.first - number
    → made' ≡ made ++ join_with_byte d (selected (is_selected ranges) (fields d content))
put_short ranges d content at number passed first made made' range p r few =
    put_ends ranges d content at number passed first made made' p
    (selected_none (is_selected ranges) number range.first (fields d (drop at content))
    (omega (arith, r.after, few)) r.none_before)

-- the fields before a range are passed
range_begins : (ranges : List Range) (d : ℕ) (content : List ℕ) (at number start : ℕ)
    (range : Range) → IsNextRange (is_selected ranges) number range
    → FieldsBefore d (range.first - number) content at start
    → selected_from (is_selected ranges) number (fields d (drop at content))
    ≡ selected_from (is_selected ranges) range.first (fields d (drop start content))
range_begins ranges d content at number start range r b =
    ap (selected_from (is_selected ranges) number) b.splits
    ∙ (selected-append (is_selected ranges) number range.first b.front
    (fields d (drop start content)) (omega (arith, b.counted, r.after))
    ∙ ap (λ ys. ys ++ selected_from (is_selected ranges) range.first
    (fields d (drop start content)))
    (selected_none (is_selected ranges) number range.first b.front
    (omega (arith, b.counted, r.after)) r.none_before))

-- a range that goes on to the end is put
pub put_rest : (ranges : List Range) (d : ℕ) (content : List ℕ) (at number passed start : ℕ)
    (first : Bool) (made made1 made2 : List ℕ) (range : Range)
    → FieldsPut ranges d content at number passed first made made1
    → IsNextRange (is_selected ranges) number range
    → FieldsBefore d (range.first - number) content at start → AllFieldsOf range d content start
    → made2 ≡ made1 ++ cond first (drop start content) (d ∷ drop start content)
    → made2 ≡ made ++ join_with_byte d (selected (is_selected ranges) (fields d content))
put_rest ranges d content at number passed start first made made1 made2 range p r b all e =
    let rest = fields d (drop start content) in
    sym (p.splits
    ∙ (ap (λ ps. made1 ++ joined first d ps)
    (range_begins ranges d content at number start range r b)
    ∙ (ap (λ ps. made1 ++ joined first d ps)
    (selected_all (is_selected ranges) range.first (range.first + length rest) rest
    (omega arith) (λ k low high. r.all k (all k low high)))
    ∙ (ap (λ (x : List ℕ). made1 ++ x) (joined_rest first d (drop start content)) ∙ sym e))))

-- a range that ends is put
pub put_more : (ranges : List Range) (d : ℕ) (content : List ℕ)
    (at number passed passed' start end next : ℕ) (first : Bool) (made made1 made2 : List ℕ)
    (range : Range) → FieldsPut ranges d content at number passed first made made1
    → IsNextRange (is_selected ranges) number range → IsPassed ranges passed' next
    → FieldsBefore d (range.first - number) content at start
    → FieldsOf range d content start end next
    → made2 ≡ made1 ++ cond first (take (end - start) (drop start content))
    (d ∷ take (end - start) (drop start content))
    → FieldsPut ranges d content (end + 1) next passed' false made made2
put_more ranges d content at number passed passed' start end next first made made1 made2 range p r
    before b f e =
    let front = f.places.front in
    let later = fields d (drop (end + 1) content) in
    let rest = selected_from (is_selected ranges) next later in
    let many : length front ≡ next - range.first = f.places.counted in
    record {
      within = omega (arith, f.places.within);
      some = omega (arith, f.some);
      few = omega (arith, f.few);
      before = before;
      splits =
          p.splits
          ∙ (ap (λ ps. made1 ++ joined first d ps)
          (range_begins ranges d content at number start range r b
          ∙ (ap (selected_from (is_selected ranges) range.first) f.places.splits
          ∙ (selected-append (is_selected ranges) range.first next front later
          (omega (arith, many, f.some))
          ∙ ap (λ ys. ys ++ rest) (selected_all (is_selected ranges) range.first next front
          (omega (arith, many, f.some)) (λ k low high. r.all k (f.inside k low high))))))
          ∙ (ap (λ (x : List ℕ). made1 ++ x)
          (joined-front first d front rest (omega (arith, many, f.some)))
          ∙ (ap
          (λ (x : List ℕ). made1
          ++ (cond first x (d ∷ x) ++ flat_map (λ (q : List ℕ). d ∷ q) rest)) f.places.joined
          ∙ (sym
          (append_assoc made1 (cond first (take (end - start) (drop start content))
          (d ∷ take (end - start) (drop start content)))
          (flat_map (λ (q : List ℕ). d ∷ q) rest))
          ∙ ap (λ (x : List ℕ). x ++ flat_map (λ (q : List ℕ). d ∷ q) rest) (sym e)))));
    }
