-- How many inputs and branches of a stage belong to a channel.
use Rattle.std.proofs.Common.{◌≡◌, ℕ, suc, ◌+◌, ◌*◌, ◌<◌, ◌≤◌, ◌==◌, ◌&&◌, Bool, true, false, not}
use Rattle.std.proofs.Common.{cond, List, [], ◌∷◌, ◌++◌, length, map, get_or, Option, Some, None}
use Rattle.std.proofs.Common.{bytes_eq, refl, ap, ⊎_elim, arith}
use Rattle.std.specs.List.{count_by, sum_by, filter}
use Rattle.std.specs.Option.{option_to_list}
use Rattle.std.proofs.lemmas.Bool.{cases_Bool, cases_lt, eqb-true}
use Rattle.std.proofs.lemmas.Slice.Eq.{bytes_eq-Decides}
use Rattle.std.proofs.lemmas.List.Quantifiers.{position-Some}
use Rattle.std.proofs.lemmas.List.Sums.{sum_by-append, sum_by-le-sum_by}
use Rattle.command_words.specs.Streams.{is_standard_input}
use Rattle.pipeline_text.specs.declared.script.Target.{Target}
use Rattle.commands.specs.Operands.{input_names, output_operands, is_appending, writes_standard}
use Rattle.graphs.specs.NamesByPlace.{place_of}
use Rattle.graphs.specs.Uses.{times}
use Rattle.planner.specs.declared.place.Channel.{Channel}
use Rattle.planner.specs.declared.place.Channel.TheVariants.{Fifo, Bar}
use Rattle.planner.specs.declared.place.Place.{Place}
use Rattle.planner.specs.declared.place.Place.TheVariants as place
use Rattle.planner.specs.Places.{Stage, target_of, source_of, place_by, named_place, first_input, input_by}
use Rattle.planner.specs.Places.{standard_input, output_by, standard_output, input_place}
use Rattle.planner.specs.Places.{operand_place, in_places, written_standard, out_places, is_operand}
use Rattle.planner.specs.Places.{read_names, target_name, written_names}
use Rattle.planner.specs.Ends.{meets_at}
use Rattle.commands.proofs.CountedWords.{count_map, count_agree, count_none, count_filter, sum_add}
use Rattle.commands.proofs.CountedWords.{sum_terms}
use Rattle.planner.proofs.lemmas.SortLaws.{some_counted}

-- if one test passes only with another, no more pass it
pub implied : (a b : Bool) → (a ≡ true → b ≡ true) → ◌≤◌ (cond a 1 0) (cond b 1 0)
implied false b h = omega arith
implied true b h =
    let e : ◌≡◌ {A = ℕ} (cond b 1 0) 1 = ap (λ t. cond t 1 0) (h refl) in
    omega (arith, e)

-- if at most one passes, the terms of those that do are at most one
at_most_one : {A : Type 0} (q : A → Bool) (c : ℕ) (xs : List A) → count_by q xs ≤ 1
    → sum_by (λ x. cond (q x) c 0) xs ≤ c
at_most_one q c xs h = ⊎_elim
    (λ (l : count_by q xs < 1).
    let m = sum_terms q c xs in
    let z : count_by q xs ≡ 0 = omega arith in
    let n : count_by q xs * c ≡ 0 * c = ap (λ n. n * c) z in
    omega (arith, m, n))
    (λ (l : 1 ≤ count_by q xs).
    let m = sum_terms q c xs in
    let z : count_by q xs ≡ 1 = omega arith in
    let n : count_by q xs * c ≡ 1 * c = ap (λ n. n * c) z in
    omega (arith, m, n))
    (cases_lt (count_by q xs) 1)

-- the inputs of a stage among which standard input is at most one
module _ (fifos : List (List ℕ)) (s : Stage) where
  input_term : (g : Place → Bool) (d : Bool) (name : List ℕ)
      → ◌≤◌ (cond (g (cond d (standard_input fifos s) (named_place fifos name false))) 1 0)
      (cond d (cond (g (standard_input fifos s)) 1 0) 0 + cond
      (not d && g (named_place fifos name false)) 1 0)
  input_term g true name = omega arith
  input_term g false name = omega arith

  -- of the inputs of a stage that pass a test, one may be its standard input, and the others are
  -- its operands
  pub inputs_counted : (g : Place → Bool) → count_by is_standard_input (input_names s.filter) ≤ 1
      → count_by g (in_places fifos s) ≤ cond (g (standard_input fifos s)) 1 0 + count_by
      (λ name. g (named_place fifos name false)) (filter is_operand (input_names s.filter))
  inputs_counted g h =
      let names = input_names s.filter in
      let c : ℕ = cond (g (standard_input fifos s)) 1 0 in
      let a = count_map g (input_place fifos s) names in
      let b = sum_by-le-sum_by (λ name. cond (g (input_place fifos s name)) 1 0)
      (λ name. cond (is_standard_input name) c 0 + cond
      (not (is_standard_input name) && g (named_place fifos name false)) 1 0) names
      (λ name. input_term g (is_standard_input name) name) in
      let d = sum_add (λ name. cond (is_standard_input name) c 0)
      (λ name. cond (not (is_standard_input name) && g (named_place fifos name false)) 1 0) names in
      let e = at_most_one is_standard_input c names h in
      let f = count_filter (λ name. g (named_place fifos name false)) is_operand names in
      omega (arith, a, b, d, e, f)

  -- the branches of a stage
  pub branches_counted : (g : Place → Bool)
      → count_by g (out_places fifos s) ≤ cond (g (standard_output fifos s)) 1 0 + count_by
      (λ name. g (operand_place fifos s name)) (output_operands s.filter)
  branches_counted g =
      let a = sum_by-append (λ p. cond (g p) 1 0) (written_standard fifos s)
      (map (operand_place fifos s) (output_operands s.filter)) in
      let b = count_map g (operand_place fifos s) (output_operands s.filter) in
      let c = written (writes_standard s.filter) in
      omega (arith, a, b, c)
    where
      written : (w : Bool) → count_by g (cond w (standard_output fifos s ∷ []) []) ≤ cond
          (g (standard_output fifos s)) 1 0
      written true = omega arith
      written false = omega arith

-- ---- the names of a FIFO

-- whether a name has this place among those of the FIFOs
abbrev pub is_at : ℕ → Option ℕ → Bool
is_at k None = false
is_at k (Some j) = j == k

at_is : (k : ℕ) (o : Option ℕ) → is_at k o ≡ true → o ≡ Some k
at_is k None e = absurd (cc e)
at_is k (Some j) e = ap Some (eqb-true j k e)

-- whether a place is that of a channel
abbrev pub has : Channel → Place → Bool
has c p = meets_at p (place.Through c)

-- how many of some names are that of a channel, and whether a number is that of a `|`
abbrev pub named : List (List ℕ) → Channel → List (List ℕ) → ℕ
named fifos (Fifo k) names = count_by (λ name. is_at k (place_of fifos name)) names
named fifos (Bar k) names = 0

abbrev pub barred : Channel → ℕ → ℕ
barred (Fifo k) n = 0
barred (Bar k) n = cond (n == k) 1 0

-- the place of a name is a FIFO's just if the name is, and it is no `|`
has_fifo : (k : ℕ) (o : Option ℕ) (name : List ℕ) (append : Bool)
    → has (Fifo k) (place_by o name append) ≡ is_at k o
has_fifo k None name append = refl
has_fifo k (Some j) name append = refl

has_bar : (k : ℕ) (o : Option ℕ) (name : List ℕ) (append : Bool)
    → has (Bar k) (place_by o name append) ≡ false
has_bar k None name append = refl
has_bar k (Some j) name append = refl

names_fit : (fifos : List (List ℕ)) (c : Channel) (append : Bool) (names : List (List ℕ))
    → count_by (λ name. has c (named_place fifos name append)) names ≡ named fifos c names
names_fit fifos (Fifo k) append names =
    count_agree (λ name. has (Fifo k) (named_place fifos name append))
    (λ name. is_at k (place_of fifos name)) names
    (λ name. has_fifo k (place_of fifos name) name append)
names_fit fifos (Bar k) append names =
    count_none (λ name. has (Bar k) (named_place fifos name append)) names
    (λ name. has_bar k (place_of fifos name) name append)

named_two : (fifos : List (List ℕ)) (c : Channel) (xs ys : List (List ℕ))
    → named fifos c (xs ++ ys) ≡ named fifos c xs + named fifos c ys
named_two fifos (Fifo k) xs ys =
    sum_by-append (λ name. cond (is_at k (place_of fifos name)) 1 0) xs ys
named_two fifos (Bar k) xs ys = refl

bar_fits : (fifos : List (List ℕ)) (c : Channel) (n : ℕ)
    → ◌≤◌ (cond (has c (place.Through (Bar n))) 1 0) (named fifos c [] + barred c n)
bar_fits fifos (Fifo k) n = omega arith
bar_fits fifos (Bar k) n = omega arith

-- the places of a stage that are a channel's are no more than its names of it, and one if it is the
-- `|` at its standard input or output
module _ (fifos : List (List ℕ)) (c : Channel) (s : Stage) where
  redirected : (n : ℕ) (name : List ℕ) (append : Bool)
      → ◌≤◌ (cond (has c (named_place fifos name append)) 1 0) (named fifos c (name ∷ []) + n)
  redirected n name append = let e = names_fit fifos c append (name ∷ []) in omega (arith, e)

  -- its branches
  pub branches_fit : count_by (has c) (out_places fifos s) ≤ named fifos c
      (written_names s) + barred c (suc s.index)
  branches_fit =
      let a = branches_counted fifos s (has c) in
      let b = names_fit fifos c (is_appending s.filter) (output_operands s.filter) in
      let d = named_two fifos c (target_name (target_of s)) (output_operands s.filter) in
      let e = standard (target_of s) in
      omega (arith, a, b, d, e)
    where
      last : (b : Bool)
          → ◌≤◌ (cond (has c (cond b place.Standard (place.Through (Bar (suc s.index))))) 1 0)
          (named fifos c [] + barred c (suc s.index))
      last true = omega arith
      last false = bar_fits fifos c (suc s.index)

      standard : (t : Option Target)
          → ◌≤◌ (cond (has c (output_by fifos s t)) 1 0)
          (named fifos c (target_name t) + barred c (suc s.index))
      standard None = last s.is_last
      standard (Some t) = redirected (barred c (suc s.index)) t.name t.append

  -- its inputs
  pub inputs_fit : count_by is_standard_input (input_names s.filter) ≤ 1
      → count_by (has c) (in_places fifos s) ≤ named fifos c (read_names s) + barred c s.index
  inputs_fit h =
      let names = filter is_operand (input_names s.filter) in
      let a = inputs_counted fifos s (has c) h in
      let b = names_fit fifos c false names in
      let d = named_two fifos c (option_to_list (source_of s)) names in
      let e = standard (source_of s) in
      omega (arith, a, b, d, e)
    where
      first : (a b : Bool)
          → ◌≤◌ (cond (has c (cond a (first_input b) (place.Through (Bar s.index)))) 1 0)
          (named fifos c [] + barred c s.index)
      first true true = omega arith
      first true false = omega arith
      first false b = bar_fits fifos c s.index

      standard : (o : Option (List ℕ))
          → ◌≤◌ (cond (has c (input_by fifos s o)) 1 0)
          (named fifos c (option_to_list o) + barred c s.index)
      standard None = first s.is_first s.background
      standard (Some name) = redirected (barred c s.index) name false

-- the names with one place among those of the FIFOs are one name, which is a FIFO's
pub few_at : (fifos names : List (List ℕ)) (k : ℕ)
    → ((name : List ℕ) → 0 < times name fifos → times name names ≤ 1)
    → named fifos (Fifo k) names ≤ 1
few_at fifos names k few = ⊎_elim
    (λ (l : k < length fifos).
    let n = get_or fifos k [] in
    let a = some_counted (bytes_eq n) fifos k [] l ((bytes_eq-Decides n n).1 refl) in
    let b = few n (omega (arith, a)) in
    let c = sum_by-le-sum_by (λ name. cond (is_at k (place_of fifos name)) 1 0)
    (λ name. cond (bytes_eq n name) 1 0) names
    (λ name. implied (is_at k (place_of fifos name)) (bytes_eq n name)
    (λ e. (position-Some (λ m. bytes_eq m name) fifos k []
    (at_is k (place_of fifos name) e)).1)) in
    omega (arith, b, c))
    (λ (l : length fifos ≤ k).
    let z = count_none (λ name. is_at k (place_of fifos name)) names
    (λ name. ⊎_elim
    (λ e. absurd (let m =
    (position-Some (λ m. bytes_eq m name) fifos k [] (at_is k (place_of fifos name) e)).0 in
    omega (arith, l, m))) (λ e. e) (cases_Bool (is_at k (place_of fifos name)))) in
    omega (arith, z))
    (cases_lt k (length fifos))
