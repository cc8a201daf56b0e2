-- Steps over numbers, and the fields that they take.
use Rattle.std.proofs.Common.{◌≡◌, ℕ, ◌+◌, ◌-◌, ◌<◌, ◌≤◌, ◌^◌, Bool, true, false, cond, eqb, leb}
use Rattle.std.proofs.Common.{max, List, [], ◌∷◌, ◌++◌, length, get_or, take, drop, Option, Some}
use Rattle.std.proofs.Common.{None, refl, ap, ◌∙◌, sym, subst, arith, append_assoc}
use Rattle.std.specs.Prelude.{IfSome, MatchOption}
use Rattle.std.specs.List.{flat_map, join_with_byte}
use Rattle.std.specs.List.Sorted.{IsNonDecreasingBy}
use Rattle.std.proofs.lemmas.List.{append-nil, drop_more, length-drop}
use Rattle.std.proofs.Math.ListN.{drop_of_length-le}
use Rattle.std.proofs.lemmas.List.Splits.{length-slice_split}
use Rattle.std.proofs.lemmas.List.Sums.{count_by-le-length}
use Rattle.commands.specs.declared.range.Range.{Range}
use Rattle.commands.specs.Cut.{fields}
use Rattle.commands.specs.Selections.{is_in, is_up_to, is_selected, selected_from, selected}
use Rattle.line_filters.specs.declared.steps.Step.{Step}
use Rattle.line_filters.specs.inner.FieldPlaces.{FieldsUpTo, FieldsBefore, IsLed}
use Rattle.line_filters.specs.inner.Ranges.{IsNoneBetween, IsPassed}
use Rattle.line_filters.specs.inner.Steps.{Follows, IsAllBetween}
use Rattle.line_filters.proofs.lemmas.FieldLaws.{joined, joined-front, joined_none, joined_rest}
use Rattle.line_filters.proofs.lemmas.FieldLaws.{lead, with_lead}
use Rattle.line_filters.proofs.lemmas.NearLaws.{part_of_first}
use Rattle.line_filters.proofs.lemmas.RangeLaws.{passed_all, passed_more, range_found, range_passed}
use Rattle.line_filters.proofs.lemmas.SelectLaws.{selected-append, selected_none, selected_all}
use Rattle.std.proofs.lemmas.Bool.{and_from, le-leb}

-- steps after these ones, from n on, are steps from 1 on
abbrev pub Leads : (ℕ → Bool) → List Step → ℕ → Type 0
Leads selects steps n = (later : List Step) → Follows selects n later
    → Follows selects 1 (steps ++ later)

pub leads_none : (selects : ℕ → Bool) → Leads selects [] 1
leads_none selects later h = h

leads_push : (selects : ℕ → Bool) (steps : List Step) (step : Step) (n m : ℕ)
    → Leads selects steps n → ((later : List Step) → Follows selects m later
    → Follows selects n (step ∷ later)) → Leads selects (steps ++ step ∷ []) m
leads_push selects steps step n m l more later h =
    subst (λ (ss : List Step). Follows selects 1 ss) (sym (append_assoc steps (step ∷ []) later))
    (l (step ∷ later) (more later h))

-- a range whose numbers all come before `end`
abbrev pub EndsAt : Range → ℕ → Type 0
EndsAt range end = ((k : ℕ) → k < end → is_up_to range.last k ≡ true)
    × ((k : ℕ) → end ≤ k → is_up_to range.last k ≡ false)

in_next : (range : Range) (first k : ℕ) → first ≤ k → is_up_to range.last k ≡ true
    → is_in (record { first = first; last = range.last }) k ≡ true
in_next range first k low h = and_from (leb first k) (is_up_to range.last k) (le-leb first k low) h

-- a range that ends
pub steps_more : (ranges : List Range) (steps steps' : List Step) (i number first end : ℕ)
    (range : Range) → IsNonDecreasingBy (λ (r : Range). r.first) ranges → i < length ranges
    → range ≡ get_or ranges i range → first ≡ max range.first number → first < end
    → EndsAt range end → IsPassed ranges i number → Leads (is_selected ranges) steps number
    → steps' ≡ steps ++ (record { skip = first - number; take = Some (end - first) }) ∷ []
    → IsPassed ranges (i + 1) end × Leads (is_selected ranges) steps' end
steps_more ranges steps steps' i number first end range rising low read e some ends before l push =
    let r = range_found ranges i number first range rising low read e (ends.0 first some) before in
    let at : number + (first - number) ≡ first = omega (arith, e) in
    let next : first + (end - first) ≡ end = omega (arith, some) in
    let one : 1 ≤ end - first = omega (arith, some) in (
      range_passed ranges i number end range low read before (omega (arith, e, some))
          (ends.1 end (omega arith)),
      subst (λ (ss : List Step). Leads (is_selected ranges) ss end) (sym push)
          (leads_push (is_selected ranges) steps
          (record { skip = first - number; take = Some (end - first) }) number end l
          (λ later h. (
            subst (IsNoneBetween (is_selected ranges) number) (sym at) r.none_before,
            (
              one,
              (
                subst (λ (a : ℕ). IsAllBetween (is_selected ranges) a (a + (end - first))) (sym at)
                    (λ k under high. r.all k
                    (in_next range first k under (ends.0 k (omega (arith, high, next))))),
                subst (λ (a : ℕ). Follows (is_selected ranges) (a + (end - first)) later) (sym at)
                    (subst (λ (m : ℕ). Follows (is_selected ranges) m later) (sym next) h),
              ),
            ),
          ))),
    )

-- a range that goes on to the end
pub steps_open : (ranges : List Range) (steps steps' : List Step) (i number first : ℕ)
    (range : Range) → IsNonDecreasingBy (λ (r : Range). r.first) ranges → i < length ranges
    → range ≡ get_or ranges i range → first ≡ max range.first number → first < 2 ^ 64
    → ((k : ℕ) → k < 2 ^ 64 → is_up_to range.last k ≡ true) → IsPassed ranges i number
    → Leads (is_selected ranges) steps number
    → steps' ≡ steps ++ (record { skip = first - number; take = None }) ∷ []
    → Follows (is_selected ranges) 1 steps'
steps_open ranges steps steps' i number first range rising low read e small all before l push =
    let r = range_found ranges i number first range rising low read e (all first small) before in
    let at : number + (first - number) ≡ first = omega (arith, e) in
    subst (λ (ss : List Step). Follows (is_selected ranges) 1 ss) (sym push)
    (l ((record { skip = first - number; take = None }) ∷ []) (
      subst (IsNoneBetween (is_selected ranges) number) (sym at) r.none_before,
      subst (λ (a : ℕ). IsAllBetween (is_selected ranges) a (2 ^ 64)) (sym at)
          (λ k under high. r.all k (in_next range first k under (all k high))),
    ))

-- a range whose numbers are passed
pub steps_past : (ranges : List Range) (i number first end : ℕ) (range : Range) → i < length ranges
    → range ≡ get_or ranges i range → first ≡ max range.first number → end ≤ first
    → EndsAt range end → IsPassed ranges i number → IsPassed ranges (i + 1) number
steps_past ranges i number first end range low read e past ends before =
    passed_more ranges i number range low read
    (ends.1 (max range.first number) (omega (arith, e, past))) before

pub steps_all : (ranges : List Range) (steps : List Step) (i number : ℕ) → length ranges ≤ i
    → IsPassed ranges i number → Leads (is_selected ranges) steps number
    → Follows (is_selected ranges) 1 steps
steps_all ranges steps i number over before l =
    subst (λ (ss : List Step). Follows (is_selected ranges) 1 ss) (append-nil steps)
    (l [] (λ k low high. passed_all ranges i number over before k low))

-- the selected fields before `at` are put, and these steps are left
pub record StepsPut (selects : ℕ → Bool) (steps : List Step) (d : ℕ) (content : List ℕ) (at : ℕ)
    (first : Bool) (made made' : List ℕ) : Type 0 where
  pub number : ℕ
  pub within : at ≤ length content
  pub few : number ≤ at + 1
  pub follows : Follows selects number steps
  pub splits : made ++ join_with_byte d (selected selects (fields d content))
      ≡ made' ++ joined first d (selected_from selects number (fields d (drop at content)))

pub put_none : (selects : ℕ → Bool) (steps : List Step) (d : ℕ) (content made : List ℕ)
    → Follows selects 1 steps → StepsPut selects steps d content 0 true made made
put_none selects steps d content made h =
    record { number = 1; within = omega arith; few = omega arith; follows = h; splits = refl }

abbrev Whole : (ℕ → Bool) → ℕ → List ℕ → List ℕ → List ℕ → Type 0
Whole selects d content made made' = made' ≡ made ++ join_with_byte d
    (selected selects (fields d content))

put_ends : (selects : ℕ → Bool) (d : ℕ) (content : List ℕ) (at n : ℕ) (first : Bool)
    (made made' : List ℕ) → made ++ join_with_byte d (selected selects (fields d content))
    ≡ made' ++ joined first d (selected_from selects n (fields d (drop at content)))
    → selected_from selects n (fields d (drop at content)) ≡ [] → Whole selects d content made made'
put_ends selects d content at n first made made' splits none =
    sym (splits ∙ (ap (λ ps. made' ++ joined first d ps) none
    ∙ (ap (λ (x : List ℕ). made' ++ x) (joined_none first d) ∙ append-nil made')))

-- there are no more fields than places
few_fields : (d at : ℕ) (content : List ℕ) → at ≤ length content
    → length (fields d (drop at content)) + at ≤ length content + 1
few_fields d at content within =
    omega (
      arith,
      within,
      length-slice_split (λ x. eqb x d) (drop at content),
      count_by-le-length (λ x. eqb x d) (drop at content),
      length-drop at content,
    )

-- no step is left
pub put_over : (selects : ℕ → Bool) (d : ℕ) (content : List ℕ) (at : ℕ) (first : Bool)
    (made made' : List ℕ) → length content < 2 ^ 63
    → StepsPut selects [] d content at first made made'
    → made' ≡ made ++ join_with_byte d (selected selects (fields d content))
put_over selects d content at first made made' short p =
    put_ends selects d content at p.number first made made' p.splits
    (selected_none selects p.number (2 ^ 64) (fields d (drop at content))
    (omega (arith, short, p.few, few_fields d at content p.within)) p.follows)

-- the fields end before those that the next step takes
pub put_short : (selects : ℕ → Bool) (step : Step) (steps : List Step) (d : ℕ) (content : List ℕ)
    (at : ℕ) (first : Bool) (made made' : List ℕ)
    → StepsPut selects (step ∷ steps) d content at first made made'
    → length (fields d (drop at content)) ≤ step.skip
    → made' ≡ made ++ join_with_byte d (selected selects (fields d content))
put_short selects step steps d content at first made made' p few =
    put_ends selects d content at p.number first made made' p.splits
    (selected_none selects p.number (p.number + step.skip) (fields d (drop at content))
    (omega (arith, few)) p.follows.0)

-- the fields before those that a step takes
step_begins : (selects : ℕ → Bool) (n skip d : ℕ) (content : List ℕ) (at start : ℕ)
    → IsNoneBetween selects n (n + skip) → FieldsBefore d skip content at start
    → selected_from selects n (fields d (drop at content))
    ≡ selected_from selects (n + skip) (fields d (drop start content))
step_begins selects n skip d content at start none b =
    ap (selected_from selects n) b.splits
    ∙ (selected-append selects n (n + skip) b.front (fields d (drop start content))
    (omega (arith, b.counted))
    ∙ ap (λ ys. ys ++ selected_from selects (n + skip) (fields d (drop start content)))
    (selected_none selects n (n + skip) b.front (omega (arith, b.counted)) none))

-- all that is left is taken
taken : (selects : ℕ → Bool) (n d : ℕ) (content : List ℕ) (start : ℕ) (steps : List Step)
    (count : Option ℕ) → length content < 2 ^ 63 → start ≤ length content → n ≤ start + 1
    → MatchOption count (IsAllBetween selects n (2 ^ 64))
    (λ c. (1 ≤ c) × (IsAllBetween selects n (n + c) × Follows selects (n + c) steps))
    → IfSome count (λ c. length (fields d (drop start content)) ≤ c)
    → selected_from selects n (fields d (drop start content)) ≡ fields d (drop start content)
taken selects n d content start steps None short within few all less =
    selected_all selects n (2 ^ 64) (fields d (drop start content))
    (omega (arith, short, few, few_fields d start content within)) all
taken selects n d content start steps (Some c) short within few all less =
    selected_all selects n (n + c) (fields d (drop start content)) (omega (arith, less)) all.1.0

-- the rest is put
pub put_rest : (selects : ℕ → Bool) (step : Step) (steps : List Step) (d : ℕ) (content : List ℕ)
    (at start : ℕ) (first : Bool) (made made1 made2 : List ℕ) → length content < 2 ^ 63
    → StepsPut selects (step ∷ steps) d content at first made made1
    → FieldsBefore d step.skip content at start
    → IfSome step.take (λ c. length (fields d (drop start content)) ≤ c)
    → made2 ≡ made1 ++ cond first (drop start content) (d ∷ drop start content)
    → made2 ≡ made ++ join_with_byte d (selected selects (fields d content))
put_rest selects step steps d content at start first made made1 made2 short p b less e =
    sym (p.splits
    ∙ (ap (λ ps. made1 ++ joined first d ps)
    (step_begins selects p.number step.skip d content at start p.follows.0 b)
    ∙ (ap (λ ps. made1 ++ joined first d ps)
    (taken selects (p.number + step.skip) d content start steps step.take short b.within
    (omega (arith, p.few, b.many)) p.follows.1 less)
    ∙ (ap (λ (x : List ℕ). made1 ++ x) (joined_rest first d (drop start content)) ∙ sym e))))

-- the part of a step that has a count
counted : (selects : ℕ → Bool) (n c : ℕ) (count : Option ℕ) (steps : List Step) → count ≡ Some c
    → MatchOption count (IsAllBetween selects n (2 ^ 64))
    (λ c. (1 ≤ c) × (IsAllBetween selects n (n + c) × Follows selects (n + c) steps))
    → (1 ≤ c) × (IsAllBetween selects n (n + c) × Follows selects (n + c) steps)
counted selects n c count steps e h =
    subst (λ (o : Option ℕ). MatchOption o (IsAllBetween selects n (2 ^ 64))
    (λ c. (1 ≤ c) × (IsAllBetween selects n (n + c) × Follows selects (n + c) steps))) e h

pub takes_some : (selects : ℕ → Bool) (step : Step) (steps : List Step) (d : ℕ) (content : List ℕ)
    (at c : ℕ) (first : Bool) (made made1 : List ℕ)
    → StepsPut selects (step ∷ steps) d content at first made made1 → step.take ≡ Some c → 1 ≤ c
takes_some selects step steps d content at c first made made1 p some =
    (counted selects (p.number + step.skip) c step.take steps some p.follows.1).0

-- the fields of a step are put
pub put_more : (selects : ℕ → Bool) (step : Step) (steps : List Step) (d : ℕ) (content : List ℕ)
    (at start end c : ℕ) (first : Bool) (made made1 made2 : List ℕ)
    → StepsPut selects (step ∷ steps) d content at first made made1
    → FieldsBefore d step.skip content at start → step.take ≡ Some c
    → FieldsUpTo d c content start end
    → made2 ≡ made1 ++ cond first (take (end - start) (drop start content))
    (d ∷ take (end - start) (drop start content))
    → StepsPut selects steps d content (end + 1) false made made2
put_more selects step steps d content at start end c first made made1 made2 p b some u e =
    let n = p.number + step.skip in
    let f = counted selects n c step.take steps some p.follows.1 in
    let later = fields d (drop (end + 1) content) in
    let rest = selected_from selects (n + c) later in
    record {
      number = n + c;
      within = omega (arith, u.within);
      few = omega (arith, p.few, b.many, u.many);
      follows = f.1.1;
      splits =
          p.splits
          ∙ (ap (λ ps. made1 ++ joined first d ps)
          (step_begins selects p.number step.skip d content at start p.follows.0 b
          ∙ (ap (selected_from selects n) u.splits
          ∙ (selected-append selects n (n + c) u.front later (omega (arith, u.counted))
          ∙ ap (λ ys. ys ++ rest)
          (selected_all selects n (n + c) u.front (omega (arith, u.counted)) f.1.0))))
          ∙ (ap (λ (x : List ℕ). made1 ++ x)
          (joined-front first d u.front rest (omega (arith, u.counted, f.0)))
          ∙ (ap
          (λ (x : List ℕ). made1
          ++ (cond first x (d ∷ x) ++ flat_map (λ (q : List ℕ). d ∷ q) rest)) u.joined
          ∙ (sym
          (append_assoc made1 (cond first (take (end - start) (drop start content))
          (d ∷ take (end - start) (drop start content)))
          (flat_map (λ (q : List ℕ). d ∷ q) rest))
          ∙ ap (λ (x : List ℕ). x ++ flat_map (λ (q : List ℕ). d ∷ q) rest) (sym e)))));
    }

-- the next step
pub step_here : (selects : ℕ → Bool) (steps : List Step) (i : ℕ) (step : Step) (d : ℕ)
    (content : List ℕ) (at : ℕ) (first : Bool) (made made' : List ℕ) → i < length steps
    → get_or steps i step ≡ step → StepsPut selects (drop i steps) d content at first made made'
    → StepsPut selects (step ∷ drop (i + 1) steps) d content at first made made'
step_here selects steps i step d content at first made made' low read p =
    subst (λ ss. StepsPut selects ss d content at first made made') (drop_more steps i step low
    ∙ ap (λ (s : Step). s ∷ drop (i + 1) steps) read) p

-- no step is left
pub no_step : (selects : ℕ → Bool) (steps : List Step) (i : ℕ) (d : ℕ) (content : List ℕ) (at : ℕ)
    (first : Bool) (made made' : List ℕ) → length steps ≤ i
    → StepsPut selects (drop i steps) d content at first made made'
    → StepsPut selects [] d content at first made made'
no_step selects steps i d content at first made made' over p =
    subst (λ ss. StepsPut selects ss d content at first made made') (drop_of_length-le steps over) p

lead_low : (first : Bool) (start : ℕ) → lead first start ≤ start
lead_low true start = omega arith
lead_low false start = omega arith

pub lead_high : (first : Bool) (start : ℕ) → start ≤ lead first start + 1
lead_high true start = omega arith
lead_high false start = omega arith

-- the fields from `start` up to `end` are copied, with the delimiter before them
pub part_put : (first : Bool) (d : ℕ) (bytes : List ℕ) (len start lead' end : ℕ) (few few' : List ℕ)
    → lead' ≡ lead first start → (first ≡ false → IsLed d (take len bytes) start) → start ≤ end
    → end ≤ len → few' ≡ few ++ take (end - lead') (drop lead' bytes)
    → few' ≡ few ++ cond first (take (end - start) (drop start (take len bytes)))
    (d ∷ take (end - start) (drop start (take len bytes)))
part_put first d bytes len start lead' end few few' n led order within e =
    let low : lead' ≤ end = omega (arith, n, order, lead_low first start) in
    e
    ∙ ap (λ (x : List ℕ). few ++ x)
    (part_of_first bytes lead' end len low within
    ∙ (ap (λ (k : ℕ). take (end - k) (drop k (take len bytes))) n
    ∙ with_lead first d (take len bytes) start end led order))
