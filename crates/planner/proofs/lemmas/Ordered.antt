-- The inputs and branches of the stages of a script have channels of its FIFOs and its stages.
use Rattle.std.proofs.Common.{◌≡◌, ℕ, suc, ◌<◌, ◌^◌, Bool, true, false, cond, List, [], ◌∷◌, length}
use Rattle.std.proofs.Common.{map, get_or, Option, Some, None, bytes_eq, refl, sym, subst, arith}
use Rattle.std.specs.List.{All, Contains, enumerate_from}
use Rattle.std.proofs.lemmas.List.Elements.{All-append, All-map, All-nil, All-cons}
use Rattle.std.proofs.lemmas.List.Elements.{All-contains_itself}
use Rattle.std.proofs.lemmas.List.FromFn.{length-enumerate_from, get_or-enumerate_from}
use Rattle.std.proofs.lemmas.List.Quantifiers.{position-Some}
use Rattle.command_words.specs.Streams.{is_standard_input}
use Rattle.pipeline_text.specs.declared.script.Target.{Target}
use Rattle.commands.specs.Operands.{input_names, output_operands, is_appending, writes_standard}
use Rattle.graphs.specs.NamesByPlace.{place_of}
use Rattle.planner.specs.declared.place.Channel.TheVariants.{Bar}
use Rattle.planner.specs.declared.place.Place.{Place}
use Rattle.planner.specs.declared.place.Place.TheVariants as place
use Rattle.planner.specs.Places.{Stage, target_of, source_of, place_by, named_place, first_input, input_by}
use Rattle.planner.specs.Places.{standard_input, output_by, standard_output, input_place}
use Rattle.planner.specs.Places.{operand_place, in_places, written_standard, out_places}
use Rattle.planner.specs.Ends.{end_at, ends_at, all_ends, in_ends, out_ends}
use Rattle.planner.specs.Laws.{AreInTurn}
use Rattle.planner.specs.inner.Ordered.{IsPlaceOf, IsEndOf, AreEndsOf}
use Rattle.planner.proofs.lemmas.TurnLaws.{at_index}
use Rattle.planner.proofs.lemmas.SortLaws.{All-flat_map}

-- what holds of all holds of all of them with their numbers
numbered_all : {A : Type 0} (P : A → Type 0) (xs : List A) → All P xs
    → All (λ (p : ℕ × A). P p.1) (enumerate_from 0 xs)
numbered_all {A} P xs h k d l =
    let n = length-enumerate_from 0 xs in
    let l' : k < length xs = omega (arith, l, n) in
    let e = get_or-enumerate_from 0 xs k d l' in
    subst (λ (p : ℕ × A). P p.1) (sym e) (h k d.1 l')

-- the place of a FIFO's name is below the number of FIFOs
place_named : (fifos : List (List ℕ)) (count : ℕ) (o : Option ℕ) (name : List ℕ) (append : Bool)
    → place_of fifos name ≡ o → IsPlaceOf (length fifos) count (place_by o name append)
place_named fifos count None name append e = tt
place_named fifos count (Some k) name append e =
    (position-Some (λ m. bytes_eq m name) fifos k [] e).0

-- the places of one stage
module _ (fifos : List (List ℕ)) (count : ℕ) (s : Stage) (below : s.index < count) where
  first_in : (a b : Bool) → IsPlaceOf (length fifos) count
      (cond a (first_input b) (place.Through (Bar s.index)))
  first_in true true = tt
  first_in true false = tt
  first_in false b = omega arith

  standard_in : (o : Option (List ℕ)) → IsPlaceOf (length fifos) count (input_by fifos s o)
  standard_in (Some name) = place_named fifos count (place_of fifos name) name false refl
  standard_in None = first_in s.is_first s.background

  input_at : (dash : Bool) (name : List ℕ)
      → IsPlaceOf (length fifos) count
      (cond dash (standard_input fifos s) (named_place fifos name false))
  input_at true name = standard_in (source_of s)
  input_at false name = place_named fifos count (place_of fifos name) name false refl

  inputs_in : All (IsPlaceOf (length fifos) count) (in_places fifos s)
  inputs_in = All-map (IsPlaceOf (length fifos) count) (input_place fifos s) (input_names s.filter)
      (λ k d l. input_at (is_standard_input (get_or (input_names s.filter) k d))
      (get_or (input_names s.filter) k d))

  last_out : (a : Bool) → IsPlaceOf (length fifos) count
      (cond a place.Standard (place.Through (Bar (suc s.index))))
  last_out true = tt
  last_out false = omega arith

  standard_out : (o : Option Target) → IsPlaceOf (length fifos) count (output_by fifos s o)
  standard_out (Some target) = place_named fifos count
      (place_of fifos target.name) target.name target.append refl
  standard_out None = last_out s.is_last

  written_out : (b : Bool) → All (IsPlaceOf (length fifos) count)
      (cond b (standard_output fifos s ∷ []) [])
  written_out true = All-cons (IsPlaceOf (length fifos) count) (standard_output fifos s) []
      (standard_out (target_of s)) (All-nil (IsPlaceOf (length fifos) count))
  written_out false = All-nil (IsPlaceOf (length fifos) count)

  operands_out : All (IsPlaceOf (length fifos) count)
      (map (operand_place fifos s) (output_operands s.filter))
  operands_out = All-map (IsPlaceOf (length fifos) count) (operand_place fifos s)
      (output_operands s.filter) (λ k d l. place_named fifos count
      (place_of fifos (get_or (output_operands s.filter) k d))
      (get_or (output_operands s.filter) k d) (is_appending s.filter) refl)

  branches_out : All (IsPlaceOf (length fifos) count) (out_places fifos s)
  branches_out = All-append (IsPlaceOf (length fifos) count) (written_standard fifos s)
      (map (operand_place fifos s) (output_operands s.filter))
      (written_out (writes_standard s.filter)) operands_out

-- the ends of all stages
all_in : (fifos : List (List ℕ)) (ss : List Stage) → AreInTurn 0 ss → (places : Stage → List Place)
    → ((s : Stage) → s.index < length ss → All (IsPlaceOf (length fifos) (length ss)) (places s))
    → All (IsEndOf (length fifos) (length ss)) (all_ends places ss)
all_in fifos ss turn places h =
    let P = IsPlaceOf (length fifos) (length ss) in
    let Q = IsEndOf (length fifos) (length ss) in
    All-flat_map Q (Contains ss) (ends_at places) ss (λ s c.
    let b = (at_index ss s s turn c).0 in
    All-map Q (end_at s.index) (enumerate_from 0 (places s))
    (λ k d l. (b, numbered_all P (places s) (h s b) k d l))) (All-contains_itself ss)

pub ends_of_stages : (fifos : List (List ℕ)) (ss : List Stage) → AreInTurn 0 ss
    → length fifos < 2 ^ 62 → length ss < 2 ^ 62
    → AreEndsOf (length fifos) (length ss) (in_ends fifos ss) (out_ends fifos ss)
ends_of_stages fifos ss turn few_fifos few_stages = record {
  few_fifos = few_fifos;
  few_stages = few_stages;
  inputs = all_in fifos ss turn (in_places fifos) (inputs_in fifos (length ss));
  branches = all_in fifos ss turn (out_places fifos) (branches_out fifos (length ss));
}
