-- Ranges in the order of their first numbers.
use Rattle.std.proofs.Common.{◌≡◌, ℕ, zero, suc, ◌+◌, ◌-◌, ◌<◌, ◌≤◌, Bool, true, false, leb, max}
use Rattle.std.proofs.Common.{List, [], ◌∷◌, ◌++◌, length, get_or, take, drop, Option, Some, None}
use Rattle.std.proofs.Common.{refl, ap, ◌∙◌, sym, subst, arith, inl, inr}
use mir.Val.{bool_byte}
use Rattle.std.specs.Prelude.{◌||◌, ◌&&◌, not}
use Rattle.std.specs.List.{All, list_any}
use Rattle.std.specs.List.Sorted.{IsNonDecreasingBy, IsPermutation}
use Rattle.std.proofs.lemmas.Bool.{leb-true, leb-false, le-leb, lt-leb, and_parts, and_left}
use Rattle.std.proofs.lemmas.Bool.{and_from, or_from, or_left, or_right, cases_lt, not-true}
use Rattle.std.proofs.lemmas.List.{take_more, take_all, take-append-drop, length-drop}
use Rattle.std.proofs.lemmas.List.{length-append, get_or-drop, get_or_default, get_or_append_left}
use Rattle.std.proofs.lemmas.List.{get_or_push}
use Rattle.std.proofs.lemmas.List.Folds.{list_any-append}
use Rattle.std.proofs.lemmas.List.Elements.{All-cons, All-nil}
use Rattle.std.proofs.lemmas.List.Sorted.{All-permutation, IsPermutation-sym}
use Rattle.std.proofs.lemmas.List.Sorted.{IsNonDecreasingBy-push}
use Rattle.commands.specs.declared.range.Range.{Range}
use Rattle.line_filters.specs.inner.Ranges.{IsAllOf, IsNextRange, IsPassed, is_covered, reaches}
use Rattle.commands.proofs.AnyLaws.{any_none}
use Rattle.commands.specs.Selections.{is_in, is_up_to, is_selected}

or_none : (a b : Bool) → (a || b) ≡ false → (a ≡ false) × (b ≡ false)
or_none true b h = absurd (cc)
or_none false b h = (refl, h)

none_any : {X : Type 0} (p : X → Bool) (xs : List X) → list_any p xs ≡ false
    → All (λ x. p x ≡ false) xs
none_any p [] h = All-nil (λ x. p x ≡ false)
none_any p (x ∷ xs) h =
    let parts = or_none (p x) (list_any p xs) h in
    All-cons (λ x. p x ≡ false) x xs (parts.0) (none_any p xs (parts.1))

same_tests : (a b : Bool) → (a ≡ false → b ≡ false) → (b ≡ false → a ≡ false) → a ≡ b
same_tests true true f g = refl
same_tests true false f g = g refl
same_tests false b f g = sym (f refl)

-- the same is selected in any order
pub any_moved : {X : Type 0} (p : X → Bool) (xs ys : List X) → IsPermutation xs ys
    → list_any p ys ≡ list_any p xs
any_moved p xs ys moved =
    same_tests (list_any p ys) (list_any p xs)
    (λ h. any_none p xs (All-permutation (λ x. p x ≡ false) ys xs (IsPermutation-sym xs ys moved)
    (none_any p ys h)))
    (λ h. any_none p ys (All-permutation (λ x. p x ≡ false) xs ys moved (none_any p xs h)))

pub any_here : {X : Type 0} (p : X → Bool) (xs : List X) (i : ℕ) (d : X) → i < length xs
    → p (get_or xs i d) ≡ true → list_any p xs ≡ true
any_here p [] i d low h = absurd (omega (arith, low))
any_here p (x ∷ xs) zero d low h = or_left (p x) (list_any p xs) h
any_here p (x ∷ xs) (suc i) d low h = or_right (p x) (list_any p xs)
    (any_here p xs i d (omega (arith, low)) h)

-- numbers that end before m end before all later ones
pub up_to_fewer : (last : Option ℕ) (m k : ℕ) → m ≤ k → is_up_to last m ≡ false
    → is_up_to last k ≡ false
up_to_fewer None m k h e = absurd (cc)
up_to_fewer (Some l) m k h e = let low : l < m = leb-false m l e in lt-leb k l (omega arith)

-- a range that ends before n, or is empty, selects nothing from n on
not_in : (range : Range) (n k : ℕ) → n ≤ k → is_up_to range.last (max range.first n) ≡ false
    → is_in range k ≡ false
not_in range n k low e =
    elim (leb range.first k) as (λ b. leb range.first k ≡ b
    → (b && is_up_to range.last k) ≡ false) [
      | true ↦ λ h. let first : range.first ≤ k = leb-true range.first k h in
          up_to_fewer range.last (max range.first n) k (omega arith) e
      | false ↦ λ _. refl
    ] refl

one_none : (a b : Bool) → a ≡ false → b ≡ false → (a || (b || false)) ≡ false
one_none a b f g = or_from a (b || false) f (or_from b false g refl)

-- one range more that is passed
pub passed_more : (ranges : List Range) (passed n : ℕ) (range : Range) → passed < length ranges
    → range ≡ get_or ranges passed range → is_up_to range.last (max range.first n) ≡ false
    → IsPassed ranges passed n → IsPassed ranges (passed + 1) n
passed_more ranges passed n range low read e before k h =
    ap (λ (rs : List Range). is_selected rs k) (take_more ranges passed range low)
    ∙ (list_any-append (λ (r : Range). is_in r k) (take passed ranges)
    (get_or ranges passed range ∷ [])
    ∙ one_none (is_selected (take passed ranges) k) (is_in (get_or ranges passed range) k)
    (before k h)
    (ap (λ (r : Range). is_in r k) (sym read) ∙ not_in range n k h e))

-- the range that was found is passed too after its last number
pub range_passed : (ranges : List Range) (passed n m : ℕ) (range : Range) → passed < length ranges
    → range ≡ get_or ranges passed range → IsPassed ranges passed n → n ≤ m
    → is_up_to range.last m ≡ false → IsPassed ranges (passed + 1) m
range_passed ranges passed n m range low read before later ends =
    passed_more ranges passed m range low read
    (up_to_fewer range.last m (max range.first m) (omega arith) ends)
    (λ k h. before k (omega arith))

-- the range that was found is passed too if it ends before a number
pub passed_if : (ranges : List Range) (passed m step : ℕ) (last : Option ℕ) (ends : Bool)
    → step ≡ bool_byte ends → ends ≡ not (is_up_to last m) → IsPassed ranges passed m
    → (is_up_to last m ≡ false → IsPassed ranges (passed + 1) m) → IsPassed ranges (passed + step) m
passed_if ranges passed m step last true s e before more =
    let n : passed + 1 ≡ passed + step = omega (arith, s) in
    subst (λ (k : ℕ). IsPassed ranges k m) n (more (not-true (is_up_to last m) (sym e)))
passed_if ranges passed m step last false s e before more =
    let n : passed ≡ passed + step = omega (arith, s) in
    subst (λ (k : ℕ). IsPassed ranges k m) n before

-- all are passed
pub passed_all : (ranges : List Range) (passed n : ℕ) → length ranges ≤ passed
    → IsPassed ranges passed n → (k : ℕ) → n ≤ k → is_selected ranges k ≡ false
passed_all ranges passed n over before k h =
    ap (λ (rs : List Range). is_selected rs k) (sym (take_all passed ranges over)) ∙ before k h

pub passed_on : (ranges : List Range) (passed n m : ℕ) → n ≤ m → IsPassed ranges passed n
    → IsPassed ranges passed m
passed_on ranges passed n m h before k low = before k (omega arith)

pub passed_none : (ranges : List Range) (n : ℕ) → IsPassed ranges 0 n
passed_none ranges n k low = refl

-- no range from the first that is not passed on begins before it
later_none : (ranges : List Range) (passed k : ℕ) (range : Range)
    → IsNonDecreasingBy (λ (r : Range). r.first) ranges → passed < length ranges
    → range ≡ get_or ranges passed range → k < range.first
    → is_selected (drop passed ranges) k ≡ false
later_none ranges passed k range rising low read h =
    any_none (λ (r : Range). is_in r k) (drop passed ranges) (λ i d within.
    let j : passed + i < length ranges = omega (arith, within, length-drop passed ranges) in
    let up : (get_or ranges passed range).first ≤ (get_or ranges (passed + i) range).first =
    rising passed (passed + i) range (omega arith) j in
    let same : range.first ≡ (get_or ranges passed range).first =
    ap (λ (r : Range). r.first) read in
    let at : get_or (drop passed ranges) i d ≡ get_or ranges (passed + i) range =
    get_or-drop passed ranges i d ∙ get_or_default ranges (passed + i) d range j in
    ap (λ (r : Range). is_in r k) at
    ∙ and_left (leb (get_or ranges (passed + i) range).first k)
    (is_up_to (get_or ranges (passed + i) range).last k)
    (lt-leb (get_or ranges (passed + i) range).first k (omega arith)))

in_from : (range : Range) (n first k : ℕ) → first ≡ max range.first n
    → is_in (record { first = first; last = range.last }) k ≡ true → is_in range k ≡ true
in_from range n first k e h =
    let parts = and_parts (leb first k) (is_up_to range.last k) h in
    let low : first ≤ k = leb-true first k (parts.0) in
    and_from (leb range.first k) (is_up_to range.last k) (le-leb range.first k (omega arith))
    (parts.1)

-- the first range that is not passed is the next one
pub range_found : (ranges : List Range) (passed n first : ℕ) (range : Range)
    → IsNonDecreasingBy (λ (r : Range). r.first) ranges → passed < length ranges
    → range ≡ get_or ranges passed range → first ≡ max range.first n
    → is_up_to range.last first ≡ true → IsPassed ranges passed n
    → IsNextRange (is_selected ranges) n (record { first = first; last = range.last })
range_found ranges passed n first range rising low read e some before =
    record {
      after = omega arith;
      some = and_from (leb first first) (is_up_to range.last first)
          (le-leb first first (omega arith)) some;
      none_before = λ k at under.
          ap (λ (rs : List Range). is_selected rs k) (sym (take-append-drop passed ranges))
          ∙ (list_any-append (λ (r : Range). is_in r k) (take passed ranges) (drop passed ranges)
          ∙ or_from (is_selected (take passed ranges) k) (is_selected (drop passed ranges) k)
          (before k at) (later_none ranges passed k range rising low read (omega arith)));
      all = λ k h. any_here (λ (r : Range). is_in r k) ranges passed range low
          (ap (λ (r : Range). is_in r k) (sym read) ∙ in_from range n first k e h);
    }

-- whether a range is one of these, if there is one
abbrev pub IsTop : Option Range → List Range → Type 0
IsTop None kept = Unit {0}
IsTop (Some top) kept = (k : ℕ) × (k < length kept) × (get_or kept k top ≡ top)

-- of the ranges before i those are kept that go further than the ones before them
pub record Keeps (ranges kept : List Range) (top : Option Range) (i : ℕ) : Type 0 where
  pub all : IsAllOf (take i ranges) kept
  pub below : (k j : ℕ) (d : Range) → k < length kept → i ≤ j → j < length ranges
      → (get_or kept k d).first ≤ (get_or ranges j d).first
  pub is_top : IsTop top kept

pub keeps_none : (ranges : List Range) → Keeps ranges [] None 0
keeps_none ranges =
    record {
      all = record { rising = λ i j d low high. absurd (omega (arith, high)); same = λ n. refl };
      below = λ k j d low at high. absurd (omega (arith, low));
      is_top = tt;
    }

one_more : (ranges : List Range) (i n : ℕ) (range : Range) → i < length ranges
    → range ≡ get_or ranges i range → is_selected (take (i + 1) ranges) n
    ≡ (is_selected (take i ranges) n || (is_in range n || false))
one_more ranges i n range low read =
    ap (λ (rs : List Range). is_selected rs n) (take_more ranges i range low)
    ∙ (list_any-append (λ (r : Range). is_in r n) (take i ranges) (get_or ranges i range ∷ [])
    ∙ ap (λ (r : Range). is_selected (take i ranges) n || (is_in r n || false)) (sym read))

-- a range more that goes further
more_kept : (ranges kept : List Range) (top : Option Range) (i : ℕ) (range : Range)
    → IsNonDecreasingBy (λ (r : Range). r.first) ranges → i < length ranges
    → range ≡ get_or ranges i range → Keeps ranges kept top i
    → Keeps ranges (kept ++ range ∷ []) (Some range) (i + 1)
more_kept ranges kept top i range up low read k =
    let here = λ (d : Range). ap (λ (r : Range). r.first) (read
    ∙ get_or_default ranges i range d low) in
    record {
      all = record {
        rising = IsNonDecreasingBy-push (λ (r : Range). r.first) kept range k.all.rising
            (λ d some. let before = k.below (length kept - 1) i d (omega arith) (omega arith) low in
            omega (arith, before, here d));
        same = λ n.
            list_any-append (λ (r : Range). is_in r n) kept (range ∷ [])
            ∙ (ap (λ (b : Bool). b || (is_in range n || false)) (k.all.same n)
            ∙ sym (one_more ranges i n range low read));
      };
      below = λ m j d within at high.
          elim (cases_lt m (length kept)) [
            | inl before ↦
                let old = k.below m j d before (omega arith) high in
                let same = ap (λ (r : Range). r.first)
                (get_or_append_left kept (range ∷ []) d m before) in
                omega (arith, old, same)
            | inr last ↦
                let n : length kept ≡ m =
                omega (arith, within, length-append kept (range ∷ []), last) in
                let same = ap (λ (r : Range). r.first) (get_or_push kept range d m n) in
                let later = up i j d (omega arith) high in
                omega (arith, same, later, here d)
          ];
      is_top = (
        length kept,
        omega (arith, length-append kept (range ∷ [])),
        get_or_push kept range range (length kept) refl,
      );
    }

pub keeps_more : (ranges kept kept' : List Range) (top : Option Range) (i : ℕ) (range : Range)
    → IsNonDecreasingBy (λ (r : Range). r.first) ranges → i < length ranges
    → range ≡ get_or ranges i range → kept' ≡ kept ++ range ∷ [] → Keeps ranges kept top i
    → Keeps ranges kept' (Some range) (i + 1)
keeps_more ranges kept kept' top i range up low read e k =
    subst (λ (rs : List Range). Keeps ranges rs (Some range) (i + 1)) (sym e)
    (more_kept ranges kept top i range up low read k)

reach_up : (a b : Option ℕ) (n : ℕ) → reaches a b ≡ true → is_up_to b n ≡ true → is_up_to a n ≡ true
reach_up None b n h u = refl
reach_up (Some top) None n h u = absurd (cc)
reach_up (Some top) (Some last) n h u =
    let far : last ≤ top = leb-true last top h in
    let low : n ≤ last = leb-true n last u in
    le-leb n top (omega arith)

covered_in : (ranges kept : List Range) (top : Option Range) (i n : ℕ) (range : Range)
    → i < length ranges → range ≡ get_or ranges i range → is_covered top range ≡ true
    → Keeps ranges kept top i → is_in range n ≡ true → is_selected kept n ≡ true
covered_in ranges kept None i n range low read covered k h = absurd (cc)
covered_in ranges kept (Some top) i n range low read covered k h =
    let parts = and_parts (leb range.first n) (is_up_to range.last n) h in
    let first : range.first ≤ n = leb-true range.first n (parts.0) in
    let m = k.is_top.0 in
    let before = k.below m i top (k.is_top.1) (omega arith) low in
    let top_is = ap (λ (r : Range). r.first) (k.is_top.2) in
    let here = ap (λ (r : Range). r.first) (read ∙ get_or_default ranges i range top low) in
    any_here (λ (r : Range). is_in r n) kept m top (k.is_top.1)
    (ap (λ (r : Range). is_in r n) (k.is_top.2)
    ∙ and_from (leb top.first n) (is_up_to top.last n)
    (le-leb top.first n (omega (arith, before, top_is, here, first)))
    (reach_up top.last range.last n covered (parts.1)))

absorb : (a b : Bool) → (b ≡ true → a ≡ true) → a ≡ (a || (b || false))
absorb true b h = refl
absorb false true h = h refl
absorb false false h = refl

-- a range that goes no further
pub keeps_covered : (ranges kept : List Range) (top : Option Range) (i : ℕ) (range : Range)
    → i < length ranges → range ≡ get_or ranges i range → is_covered top range ≡ true
    → Keeps ranges kept top i → Keeps ranges kept top (i + 1)
keeps_covered ranges kept top i range low read covered k =
    record {
      all = record {
        rising = k.all.rising;
        same = λ n.
            absorb (is_selected kept n) (is_in range n)
            (λ h. covered_in ranges kept top i n range low read covered k h)
            ∙ (ap (λ (b : Bool). b || (is_in range n || false)) (k.all.same n)
            ∙ sym (one_more ranges i n range low read));
      };
      below = λ m j d within at high. k.below m j d within (omega arith) high;
      is_top = k.is_top;
    }

pub keeps_all : (ranges kept : List Range) (top : Option Range) (i : ℕ) → length ranges ≤ i
    → Keeps ranges kept top i → IsAllOf ranges kept
keeps_all ranges kept top i over k = subst (λ (rs : List Range). IsAllOf rs kept)
    (take_all i ranges over) k.all
