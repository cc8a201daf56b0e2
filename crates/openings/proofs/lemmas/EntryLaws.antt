-- The entries that the first openings of a plan leave, and one more.
use Rattle.std.proofs.Common.{◌≡◌, ℕ, List, [], ◌∷◌, ◌++◌, length, Option, Some, refl, ap}
use Rattle.std.proofs.Common.{append_assoc, append-nil}
use Rattle.std.specs.List.{slice_get}
use Rattle.collector.specs.declared.names.Opening.{Opening}
use Rattle.collector.specs.declared.names.Opening.TheVariants.{Input, Output}
use Rattle.planner.specs.declared.plan.InOpening.{InOpening}
use Rattle.planner.specs.declared.plan.OutOpening.{OutOpening}
use Rattle.openings.specs.Openings.{input_entries, output_entries}

-- no answers, no entries
pub no_inputs : (openings : List InOpening) → input_entries openings [] ≡ []
no_inputs [] = refl
no_inputs (o ∷ openings) = refl

pub no_outputs : (openings : List OutOpening) → output_entries openings [] ≡ []
no_outputs [] = refl
no_outputs (o ∷ openings) = refl

pub input_entries_more : (openings : List InOpening) (answers : List (Option ℕ)) (o : InOpening)
    (answer : Option ℕ) → slice_get openings (length answers) ≡ Some o →
    input_entries openings (answers ++ answer ∷ [])
    ≡ input_entries openings answers ++ Input o.name answer ∷ []
input_entries_more (p ∷ openings) [] o answer at =
    let e : p ≡ o = cc in
    rw (e, no_inputs openings) refl
input_entries_more (p ∷ openings) (a ∷ answers) o answer at =
    ap (λ l. Input p.name a ∷ l) (input_entries_more openings answers o answer at)
input_entries_more [] _ o answer at = absurd (cc)

pub output_entries_more : (openings : List OutOpening) (answers : List ℕ) (o : OutOpening)
    (file : ℕ) → slice_get openings (length answers) ≡ Some o →
    output_entries openings (answers ++ file ∷ []) ≡ output_entries openings answers
    ++ Output o.name (Some file) ∷ []
output_entries_more (p ∷ openings) [] o file at =
    let e : p ≡ o = cc in
    rw (e, no_outputs openings) refl
output_entries_more (p ∷ openings) (a ∷ answers) o file at =
    ap (λ l. Output p.name (Some a) ∷ l) (output_entries_more openings answers o file at)
output_entries_more [] _ o file at = absurd (cc)

-- ---- one more entry

pub behind_inputs : (first ins outs : List Opening) (e : Opening) → outs ≡ []
    → (first ++ (ins ++ (outs ++ []))) ++ e ∷ [] ≡ first ++ ((ins ++ e ∷ []) ++ (outs ++ []))
behind_inputs first ins outs e none = rw none (simp (append_assoc, append-nil))

pub behind_outputs : (first ins outs : List Opening) (e : Opening)
    → (first ++ (ins ++ (outs ++ []))) ++ e ∷ [] ≡ first ++ (ins ++ ((outs ++ e ∷ []) ++ []))
behind_outputs first ins outs e = simp (append_assoc, append-nil)

pub behind_all : (first ins outs : List Opening) (e : Opening)
    → (first ++ (ins ++ (outs ++ []))) ++ e ∷ [] ≡ first ++ (ins ++ (outs ++ e ∷ []))
behind_all first ins outs e = simp (append_assoc, append-nil)
