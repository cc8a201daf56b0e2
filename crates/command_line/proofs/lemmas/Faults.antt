-- A text names a fault of a script, or one of a run.
use Rattle.std.proofs.Common.{◌≡◌, ◌∙◌, Bool, true, false, ◌||◌, ap, refl, sym}
use Rattle.std.specs.List.{list_any}
use Rattle.std.proofs.lemmas.List.Folds.{list_any-append}
use Rattle.clap.specs.Words.{Text}
use Rattle.command_line.specs.Faults.{names_a_fault, names_fault, the_run_faults, the_script_faults}

-- it names one of both, if it names one of either
joined : (code : Text) (one other : Bool) → one ≡ list_any (names_fault code) the_script_faults
    → other ≡ list_any (names_fault code) the_run_faults
    → (one || other) ≡ names_a_fault code
joined code one other is is_too =
    ap (λ (b : Bool). b || other) is
    ∙ ap (λ (b : Bool). list_any (names_fault code) the_script_faults || b) is_too
    ∙ sym (list_any-append (names_fault code) the_script_faults the_run_faults)

-- it names one of a script
pub named_first : (code : Text) → true ≡ list_any (names_fault code) the_script_faults
    → true ≡ names_a_fault code
named_first code is = joined code true (list_any (names_fault code) the_run_faults) is refl

-- it names none of a script
pub named_second : (code : Text) (other : Bool)
    → false ≡ list_any (names_fault code) the_script_faults
    → other ≡ list_any (names_fault code) the_run_faults
    → other ≡ names_a_fault code
named_second code other is is_too = joined code false other is is_too
