-- What a new machine shows is what whole runs do.
use Rattle.std.proofs.Common.{◌≡◌, ℕ, Bool, false, List, [], ◌∷◌, ◌++◌, refl, ap, ◌∙◌, sym, subst}
use Rattle.std.proofs.Common.{arith}
use Rattle.std.specs.Prelude.{nat_lt}
use Rattle.std.specs.List.{flat_map}
use Rattle.std.proofs.lemmas.List.Concat.{flat_map-append}
use Rattle.std.proofs.lemmas.Bool.Decides.{nat_tests}
use Rattle.machine.specs.InOrder.{Position}
use Rattle.machine.specs.Law.{IsNew}
use Rattle.machine.specs.Lines.{lines}
use Rattle.machine.specs.Whole.{inputs_of, present}
use Rattle.machine.specs.declared.protocol.Presence.{Presence}
use Rattle.machine.proofs.MakesLaws.{fun_ext}
use Rattle.commands.specs.declared.cut_words.Parts.{Parts}
use Rattle.commands.specs.declared.range.Range.{Range}
use Rattle.commands.specs.declared.cut_words.Parts.TheVariants.{Bytes, Fields}
use Rattle.line_filters.specs.ByLine.{by_input}
use Rattle.line_filters.specs.CutLeft.{cut_input, cut_left}
use Rattle.commands.specs.Cut.{cut_line, cut_whole}
use Rattle.commands.specs.Selections.{is_selected}
use Rattle.line_filters.proofs.lemmas.ByLineLaws.{inputs_left-new}
use Rattle.line_filters.proofs.lemmas.LeftLaws.{left_of_lines}

none_before : (j : ℕ) → nat_lt j 0 ≡ false
none_before j = grind (arith, nat_tests)

-- what is written of an input is what is written of its lines
input_lines : (selects : ℕ → Bool) (parts : Parts) (x : List ℕ)
    → cut_input selects parts x ≡ flat_map (cut_line selects parts) (lines x)
input_lines selects Bytes x = left_of_lines selects x
input_lines selects (Fields delimiter only_delimited) x = refl

inputs_lines : (selects : ℕ → Bool) (parts : Parts) (xs : List (List ℕ))
    → flat_map (cut_input selects parts) xs ≡ flat_map (cut_line selects parts) (flat_map lines xs)
inputs_lines selects parts [] = refl
inputs_lines selects parts (x ∷ xs) =
    ap (λ (z : List ℕ). z ++ flat_map (cut_input selects parts) xs) (input_lines selects parts x)
    ∙ (ap (λ (z : List ℕ). flat_map (cut_line selects parts) (lines x) ++ z)
    (inputs_lines selects parts xs)
    ∙ sym (flat_map-append (cut_line selects parts) (lines x) (flat_map lines xs)))

pub no_input : (selects : ℕ → Bool) (parts : Parts) → cut_input selects parts [] ≡ []
no_input selects Bytes = refl
no_input selects (Fields delimiter only_delimited) = refl

cut_new_of : (selects : ℕ → Bool) (ranges : List Range) (parts : Parts) (inputs : List Presence)
    → selects ≡ is_selected ranges
    → IsNew (by_input (cut_input selects parts) (cut_left selects parts [] 0) 0 inputs)
    (cut_whole ranges parts) inputs
cut_new_of selects ranges parts inputs same =
    record {
      inputs = refl;
      unclosed = λ j. none_before j;
      rest = λ ys.
          inputs_left-new (cut_input selects parts) (cut_left selects parts [] 0)
          (inputs_of inputs ys) (λ xs. refl) (no_input selects parts)
          ∙ (inputs_lines selects parts (present (inputs_of inputs ys))
          ∙ ap (λ (s : ℕ → Bool). (flat_map (cut_line s parts)
          (flat_map lines (present (inputs_of inputs ys))))) same);
      most = λ ys. omega arith;
    }

-- a new machine of cut, whose ranges select what those of the list do
pub cut_new : (ranges list : List Range) (parts : Parts) (partial : List ℕ) (turn : Position)
    (inputs : List Presence) → ((n : ℕ) → is_selected ranges n ≡ is_selected list n) → partial ≡ []
    → turn ≡ record { presence = inputs; at = 0 }
    → IsNew (by_input (cut_input (is_selected ranges) parts)
    (cut_left (is_selected ranges) parts partial 0) turn.at turn.presence)
    (cut_whole list parts) inputs
cut_new ranges list parts partial turn inputs same none e =
    subst
    (λ (x : List ℕ). IsNew (by_input (cut_input (is_selected ranges) parts)
    (cut_left (is_selected ranges) parts x 0) turn.at turn.presence)
    (cut_whole list parts) inputs) (sym none)
    (subst
    (λ (t : Position). IsNew (by_input (cut_input (is_selected ranges) parts)
    (cut_left (is_selected ranges) parts [] 0) t.at t.presence) (cut_whole list parts) inputs)
    (sym e)
    (cut_new_of (is_selected ranges) list parts inputs (fun_ext same)))
