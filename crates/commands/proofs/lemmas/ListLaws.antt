-- Words that are read: numbers, lists and arguments.
use Rattle.std.proofs.Common.{◌≡◌, ℕ, ◌+◌, ◌-◌, ◌<◌, ◌≤◌, Bool, false, cond, eqb, List, [], ◌∷◌}
use Rattle.std.proofs.Common.{◌++◌, length, get_or, take, drop, Option, Some, None, refl, ap, ◌∙◌}
use Rattle.std.proofs.Common.{sym, arith, append_assoc, inl, inr}
use Rattle.std.specs.List.{All, position_or_len, before_first, after_first}
use Rattle.std.proofs.lemmas.Bool.{eq-eqb, cases_lt}
use Rattle.std.proofs.lemmas.List.{take_all, length-take, get_or-take, get_or_at}
use Rattle.std.proofs.lemmas.List.Sums.{position_or_len_is, fails_before_first}
use Rattle.std.proofs.lemmas.List.Splits.{slice_split_none, slice_split_first}
use Rattle.command_words.specs.Bytes.{dash}
use Rattle.command_words.specs.Texts.{◌>>=◌}
use Rattle.commands.specs.declared.range.Range.{Range}
use Rattle.commands.specs.Lists.{is_separator, element, range_between, range_of, ranges_of}
use Rattle.commands.specs.Lists.{ranges_in}
use Rattle.command_words.specs.Numbers.{number}
use Rattle.machine.specs.inner.Places.{FirstFrom}
use Rattle.commands.proofs.AnyLaws.{has_first, has_none}

-- these ranges before others, if there are such
abbrev pub behind : List Range → Option (List Range) → Option (List Range)
behind front o = o >>= λ ranges. Some (front ++ ranges)

behind_more : (front : List Range) (range : Range) (o : Option (List Range))
    → behind front (o >>= λ ranges. Some (range ∷ ranges)) ≡ behind (front ++ range ∷ []) o
behind_more front range None = refl
behind_more front range (Some ranges) = ap Some (sym (append_assoc front (range ∷ []) ranges))

-- the first element of a list, and those after it
first_element : (list : List ℕ) → position_or_len is_separator list < length list
    → ranges_in list
    ≡ (element (take (position_or_len is_separator list) list) >>= λ range. ranges_in
    (drop (position_or_len is_separator list + 1) list) >>= λ ranges. Some (range ∷ ranges))
first_element list low = ap ranges_of (slice_split_first is_separator list 0 low)

element_found : (rest : List ℕ) (end : ℕ) (o : Option Range)
    → end ≡ position_or_len is_separator rest → end < length rest → element (take end rest) ≡ o
    → ranges_in rest ≡ (o >>= λ range. ranges_in (drop (end + 1) rest) >>= λ ranges. Some
    (range ∷ ranges))
element_found rest end o e low one =
    first_element rest (omega arith)
    ∙ (ap (λ (k : ℕ). element (take k rest) >>= λ range. ranges_in
    (drop (k + 1) rest) >>= λ ranges. Some (range ∷ ranges)) (sym e)
    ∙ ap (λ (x : Option Range). x >>= λ range. ranges_in (drop (end + 1) rest) >>= λ ranges. Some
    (range ∷ ranges)) one)

-- the last element of a list
element_alone : (rest : List ℕ) (end : ℕ) (o : Option Range)
    → end ≡ position_or_len is_separator rest → length rest ≤ end → element (take end rest) ≡ o
    → ranges_in rest ≡ (o >>= λ range. Some (range ∷ []))
element_alone rest end o e high one =
    ap ranges_of (slice_split_none is_separator rest
    (λ k d low. fails_before_first is_separator rest k d (omega arith)))
    ∙ (ap (λ (x : List ℕ). element x >>= λ range. Some (range ∷ [])) (sym (take_all end rest high))
    ∙ ap (λ (x : Option Range). x >>= λ range. Some (range ∷ [])) one)

pub element_more : (list rest next : List ℕ) (ranges ranges' : List Range) (end : ℕ) (range : Range)
    → end ≡ position_or_len is_separator rest → end < length rest
    → element (take end rest) ≡ Some range → ranges' ≡ ranges ++ range ∷ []
    → next ≡ drop (end + 1) rest → behind ranges (ranges_in rest) ≡ ranges_in list
    → behind ranges' (ranges_in next) ≡ ranges_in list
element_more list rest next ranges ranges' end range e low one more n inv =
    ap (λ (rs : List Range). behind rs (ranges_in next)) more
    ∙ (ap (λ (x : List ℕ). behind (ranges ++ range ∷ []) (ranges_in x)) n
    ∙ (sym (behind_more ranges range (ranges_in (drop (end + 1) rest)))
    ∙ (ap (behind ranges) (sym (element_found rest end (Some range) e low one)) ∙ inv)))

pub element_last : (list rest : List ℕ) (ranges ranges' : List Range) (end : ℕ) (range : Range)
    → end ≡ position_or_len is_separator rest → length rest ≤ end
    → element (take end rest) ≡ Some range → ranges' ≡ ranges ++ range ∷ []
    → behind ranges (ranges_in rest) ≡ ranges_in list → ranges_in list ≡ Some ranges'
element_last list rest ranges ranges' end range e all one more inv =
    sym inv ∙ (ap (behind ranges) (element_alone rest end (Some range) e all one)
    ∙ ap Some (sym more))

refused_by : (list rest : List ℕ) (ranges : List Range) → ranges_in rest ≡ None
    → behind ranges (ranges_in rest) ≡ ranges_in list → ranges_in list ≡ None
refused_by list rest ranges none inv = sym inv ∙ ap (behind ranges) none

pub element_refused : (list rest : List ℕ) (ranges : List Range) (end : ℕ)
    → end ≡ position_or_len is_separator rest → element (take end rest) ≡ None
    → behind ranges (ranges_in rest) ≡ ranges_in list → ranges_in list ≡ None
element_refused list rest ranges end e none inv =
    elim (cases_lt end (length rest)) [
      | inl low ↦ refused_by list rest ranges (element_found rest end None e low none) inv
      | inr high ↦ refused_by list rest ranges (element_alone rest end None e high none) inv
    ]

first_dash : (part : List ℕ) (at : ℕ) → FirstFrom part dash 0 at
    → position_or_len (λ x. eqb x dash) part ≡ at
first_dash part at f =
    let n : at - 0 ≡ at = omega arith in
    let long : length (take (at - 0) part) ≡ at =
    omega (arith, length-take (at - 0) part, f.within) in
    position_or_len_is (λ x. eqb x dash) part at 0 (omega (arith, f.within))
    (λ k low.
    ap (λ (x : ℕ). eqb x dash) (sym (get_or-take (at - 0) part k 0 (omega arith)))
    ∙ f.none_before k 0 (omega (arith, long)))
    (λ low. ap (λ (x : List ℕ). eqb (get_or x at 0) dash) f.here
    ∙ (ap (λ (x : ℕ). eqb x dash)
    (get_or_at (take (at - 0) part) dash (drop (at + 1) part) 0 at long)
    ∙ eq-eqb dash dash refl))

-- an element with a dash
pub element_split : (part : List ℕ) (at : ℕ) → FirstFrom part dash 0 at
    → element part ≡ range_between (take at part) (drop (at + 1) part)
element_split part at f =
    ap (λ (b : Bool). cond b (range_between (before_first (λ x. eqb x dash) part)
    (after_first (λ x. eqb x dash) part)) (number part >>= λ n. range_of n (Some n)))
    (has_first dash part at f)
    ∙ ap (λ (k : ℕ). range_between (take k part) (drop (k + 1) part)) (first_dash part at f)

pub element_plain : (part : List ℕ) → All (λ x. eqb x dash ≡ false) part
    → element part ≡ (number part >>= λ n. range_of n (Some n))
element_plain part none =
    ap (λ (b : Bool). cond b (range_between (before_first (λ x. eqb x dash) part)
    (after_first (λ x. eqb x dash) part)) (number part >>= λ n. range_of n (Some n)))
    (has_none dash part none)
