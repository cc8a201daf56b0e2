-- A command has as many inputs as names of inputs, and at most one branch besides its output
-- operands.
use Rattle.std.proofs.Common.{◌≡◌, ℕ, ◌+◌, ◌≤◌, ◌==◌, ◌||◌, Bool, true, false, not, cond, max}
use Rattle.std.proofs.Common.{is_none, nat_le, List, [], ◌∷◌, length, map, codes, Option, Some}
use Rattle.std.proofs.Common.{None, refl, sym, subst, arith}
use Rattle.std.specs.List.{enumerate_from, filter, position_or_len}
use Rattle.std.specs.Option.{option_to_list}
use Rattle.std.proofs.lemmas.Bool.{leb-true, or_right}
use Rattle.std.proofs.lemmas.Option.{none-some, same_Some}
use Rattle.command_words.specs.Arguments.{argument, names_input_once, input_names}
use Rattle.command_words.specs.Streams.{is_standard_input}
use Rattle.command_words.specs.Bytes.{dash}
use Rattle.command_words.specs.Letters.{letter_c, letter_n}
use Rattle.command_words.specs.Options.{splits}
use Rattle.command_words.specs.declared.options.Options.{Options}
use Rattle.commands.specs.Filters.{filter_by_name, filter_means, input_count}
use Rattle.commands.specs.Operands as operands
use Rattle.commands.specs.declared.spec.FilterSpec.{FilterSpec}
use Rattle.commands.specs.declared.spec.FilterSpec.TheVariants as spec
use Rattle.commands.proofs.Dashes.{each_of, each_in, each_if, of_each, option_cases, words_cases}
use Rattle.commands.proofs.Dashes.{where_true, of_each_utility, bound}

-- a command has as many inputs as names of inputs
abbrev pub IsCounted : FilterSpec → Type 0
IsCounted f = length (operands.input_names f) ≡ input_count f

-- there are names
abbrev AreSome : List (List ℕ) → Type 0
AreSome names = length (operands.or_standard names) ≡ length names

-- ---- names

some_if : (b : Bool) (word : List ℕ) (words names : List (List ℕ))
    → cond b (Some (word ∷ words)) None ≡ Some names → AreSome names
some_if true word words names e = subst AreSome (same_Some (word ∷ words) names e) refl
some_if false word words names e = absurd (none-some names e)

some_names : (words names : List (List ℕ)) → input_names words ≡ Some names → AreSome names
some_names [] names e = subst AreSome (same_Some ((dash ∷ []) ∷ []) names e) refl
some_names (word ∷ words) names e = some_if (names_input_once (word ∷ words)) word words names e

-- one name, if there is at most one word
abbrev IsSingle : List (List ℕ) → Type 0
IsSingle names = length (operands.or_standard names) ≡ 1

single_name : (words names : List (List ℕ)) → length words ≤ 1 → input_names words ≡ Some names
    → IsSingle names
single_name [] names l e = subst IsSingle (same_Some ((dash ∷ []) ∷ []) names e) refl
single_name (word ∷ []) names l e = by_case (names_input_once (word ∷ [])) e
  where
    by_case : (b : Bool) → cond b (Some (word ∷ [])) None ≡ Some names → IsSingle names
    by_case true e = subst IsSingle (same_Some (word ∷ []) names e) refl
    by_case false e = absurd (none-some names e)
single_name (word ∷ other ∷ words) names l e = absurd (omega arith)

tested : {A : Type 0} (b : Bool) (x : Option A) (y : A) → cond b x None ≡ Some y → b ≡ true
tested true x y e = refl
tested false x y e = absurd (none-some y e)

-- names among which each `-` but the first was left out have the first of them
own_some : (word : List ℕ) (words : List (List ℕ))
    → AreSome (map (λ (p : ℕ × List ℕ). p.1)
    (filter (λ p. (p.0 == position_or_len is_standard_input (word ∷ words)) || not (is_standard_input p.1))
    (enumerate_from 0 (word ∷ words))))
own_some word words =
    let own : ℕ × List ℕ → Bool = λ p. (p.0 == position_or_len is_standard_input (word ∷ words)) || not
    (is_standard_input p.1) in
    let rest = filter own (enumerate_from 1 words) in
    subst (λ b. AreSome (map (λ (p : ℕ × List ℕ). p.1) (cond b ((0, word) ∷ rest) rest)))
    (sym (kept (is_standard_input word))) refl
  where
    kept : (b : Bool) → ((0 == cond (not b) (1 + position_or_len is_standard_input words) 0) || not b) ≡ true
    kept true = refl
    kept false = or_right (0 == 1 + position_or_len is_standard_input words) true refl

-- no word, or a first one
first_word : {P : Type 0} (ws : List (List ℕ)) → (ws ≡ [] → P)
    → ((word : List ℕ) (words : List (List ℕ)) → ws ≡ word ∷ words → P) → P
first_word [] n s = n refl
first_word (word ∷ words) n s = s word words refl

-- ---- each utility

counted_cat : (words : List (List ℕ)) (f : FilterSpec) → filter_by_name (codes "cat") words ≡ Some f
    → IsCounted f
counted_cat words f e = of_each IsCounted _ f e
    (each_in IsCounted _ spec.Cat (search (each_of, some_names)))

counted_cut : (words : List (List ℕ)) (f : FilterSpec) → filter_by_name (codes "cut") words ≡ Some f
    → IsCounted f
counted_cut words f e = of_each IsCounted _ f e
    (each_in IsCounted _ spec.Cut (search (each_if, each_of, some_names) depth 9))

counted_fold : (words : List (List ℕ)) (f : FilterSpec)
    → filter_by_name (codes "fold") words ≡ Some f → IsCounted f
counted_fold words f e = of_each IsCounted _ f e
    (each_in IsCounted _ spec.Fold (search (each_of, some_names)))

counted_head : (words : List (List ℕ)) (f : FilterSpec)
    → filter_by_name (codes "head") words ≡ Some f → IsCounted f
counted_head words f e = of_each IsCounted _ f e
    (each_in IsCounted _ spec.Head (search (each_of, some_names)))

counted_paste : (words : List (List ℕ)) (f : FilterSpec)
    → filter_by_name (codes "paste") words ≡ Some f → IsCounted f
counted_paste words f e =
    bound _ (λ s. Some (spec.Paste s)) f e (λ s es ef. subst IsCounted (same_Some _ f ef)
    (bound (splits (codes "d:s") words) _ s es (λ (o : Options) eo e'.
    first_word o.operands
    (λ w. let e2 = rw w at e' in let own = own_some (dash ∷ []) [] in
    of_each (λ t. IsCounted (spec.Paste t)) _ s e2 (search (each_of, own)))
    (λ word words w. let e2 = rw w at e' in let own = own_some word words in
    of_each (λ t. IsCounted (spec.Paste t)) _ s e2 (search (each_of, own))))))

counted_tail : (words : List (List ℕ)) (f : FilterSpec)
    → filter_by_name (codes "tail") words ≡ Some f → IsCounted f
counted_tail words f e =
    bound _ (λ s. Some (spec.Tail s)) f e (λ s es ef. subst IsCounted (same_Some _ f ef)
    (bound (splits (codes "n:c:") words) _ s es (λ (o : Options) eo e'.
    bound (cond (nat_le (length o.operands) 1) (input_names o.operands) None) _ s e'
    (λ (names : List (List ℕ)) en e''.
    let few = leb-true (length o.operands) 1
    (tested (nat_le (length o.operands) 1) (input_names o.operands) names en) in
    let one = single_name o.operands names few
    (where_true (nat_le (length o.operands) 1) (input_names o.operands) names en) in
    option_cases (argument letter_n o.given)
    (λ n. option_cases (argument letter_c o.given)
    (λ c. let e3 = rw (n, c) at e'' in subst (λ t. IsCounted (spec.Tail t)) (same_Some _ s e3) one)
    (λ bytes c. let e3 = rw (n, c) at e'' in
    bound _ _ s e3 (λ k ek e4. subst (λ t. IsCounted (spec.Tail t)) (same_Some _ s e4) one)))
    (λ lines n. option_cases (argument letter_c o.given)
    (λ c. let e3 = rw (n, c) at e'' in
    bound _ _ s e3 (λ k ek e4. subst (λ t. IsCounted (spec.Tail t)) (same_Some _ s e4) one))
    (λ bytes c. let e3 = rw (n, c) at e'' in absurd (none-some s e3)))))))

counted_tr : (words : List (List ℕ)) (f : FilterSpec) → filter_by_name (codes "tr") words ≡ Some f
    → IsCounted f
counted_tr words f e = bound _ (λ s. Some (spec.Tr s)) f e
    (λ s es ef. subst IsCounted (same_Some _ f ef) refl)

counted_tee : (words : List (List ℕ)) (f : FilterSpec) → filter_by_name (codes "tee") words ≡ Some f
    → IsCounted f
counted_tee words f e = bound _ (λ s. Some (spec.Tee s)) f e
    (λ s es ef. subst IsCounted (same_Some _ f ef) refl)

counted_uniq : (words : List (List ℕ)) (f : FilterSpec)
    → filter_by_name (codes "uniq") words ≡ Some f → IsCounted f
counted_uniq words f e =
    bound _ (λ s. Some (spec.Uniq s)) f e (λ s es ef. subst IsCounted (same_Some _ f ef)
    (bound (splits (codes "cduf:s:") words) _ s es (λ (o : Options) eo e'.
    words_cases o.operands
    (λ w. let e2 = rw w at e' in let one : IsSingle ((dash ∷ []) ∷ []) = refl in
    of_each (λ t. IsCounted (spec.Uniq t)) _ s e2 (search (each_of, one)))
    (λ a w. let e2 = rw w at e' in let one : IsSingle (a ∷ []) = refl in
    of_each (λ t. IsCounted (spec.Uniq t)) _ s e2 (search (each_of, one)))
    (λ a b w. let e2 = rw w at e' in let one : IsSingle (a ∷ []) = refl in
    of_each (λ t. IsCounted (spec.Uniq t)) _ s e2 (search (each_of, one)))
    (λ a b c more w. let e2 = rw w at e' in
    of_each (λ t. IsCounted (spec.Uniq t)) _ s e2 (search (each_of))))))

at_least_one : (names : List (List ℕ)) → length (operands.or_standard names) ≡ max (length names) 1
at_least_one [] = refl
at_least_one (name ∷ names) = omega arith

counted_wc : (words : List (List ℕ)) (f : FilterSpec) → filter_by_name (codes "wc") words ≡ Some f
    → IsCounted f
counted_wc words f e = bound _ (λ s. Some (spec.Wc s)) f e
    (λ s es ef. subst IsCounted (same_Some _ f ef) (at_least_one s.operands))

-- a command that means something has as many inputs as names of inputs
pub inputs_counted : (words : List (List ℕ)) (f : FilterSpec) → filter_means words ≡ Some f
    → IsCounted f
inputs_counted [] f e = absurd (none-some f e)
inputs_counted (name ∷ words) f e = of_each_utility IsCounted name words (record {
  cat = counted_cat words;
  cut = counted_cut words;
  fold = counted_fold words;
  head = counted_head words;
  paste = counted_paste words;
  tail = counted_tail words;
  tee = counted_tee words;
  tr = counted_tr words;
  uniq = counted_uniq words;
  wc = counted_wc words;
}) f e

-- a command has an input
pub some_input : (names : List (List ℕ)) → 1 ≤ length (operands.or_standard names)
some_input [] = omega arith
some_input (name ∷ names) = omega arith

-- ---- branches

pub few_branches : (f : FilterSpec) → operands.operand_count f ≤ 32
    → ◌≤◌ (cond (operands.writes_standard f) 1 0 + length (operands.output_operands f)) 33
few_branches (spec.Cat s) h = omega arith
few_branches (spec.Cut s) h = omega arith
few_branches (spec.Fold s) h = omega arith
few_branches (spec.Head s) h = omega arith
few_branches (spec.Paste s) h = omega arith
few_branches (spec.Tail s) h = omega arith
few_branches (spec.Tee s) h = omega (arith, h)
few_branches (spec.Tr s) h = omega arith
few_branches (spec.Uniq s) h = by_case s.output
  where
    by_case : (o : Option (List ℕ)) → ◌≤◌ (cond (is_none o) 1 0 + length (option_to_list o)) 33
    by_case None = omega arith
    by_case (Some name) = omega arith
few_branches (spec.Wc s) h = omega arith
