-- Why the files of a plan, and that of the statistics, were not all opened.
use Rattle.std.proofs.Common.{ℕ, Bool, List, Option, inl, inr, refl, subst, sym}
use Rattle.std.specs.Borrow.{Bor}
use Rattle.clap.specs.Words.{Text}
use Rattle.collector.specs.Files.{FilesShown}
use Rattle.collector.specs.Places.{LeavesOutputs}
use Rattle.command_line.specs.declared.request.ScriptFrom.{ScriptFrom}
use Rattle.openings.specs.Answers.{OpenedFiles}
use Rattle.openings.specs.Placings.{OpensPlacing}
use Rattle.planner.specs.Planned.{Planned}
use Rattle.program.specs.Reports.{FailsOpening, IsNotApart, IsNotReported}
use Rattle.program.specs.declared.ending.Refusal.{Refusal}
use Rattle.run_types.specs.declared.placing.Placing.{Placing}

module _ (known : Bool) (script : ScriptFrom) (strict : Bool) (placing : Placing)
    (to : Option (Bor Text)) (plan : Planned) where
  -- the file of the statistics is one that the script names, or memory was refused
  pub not_apart : (files : FilesShown) (why : Refusal) → IsNotApart to script plan why
      → FailsOpening known script strict placing to plan files files why
  not_apart files why (inl refused) =
      subst (FailsOpening known script strict placing to plan files files) (sym refused)
      (inl refl, refl)
  not_apart files why (inr (name, is, named, taken)) =
      subst (FailsOpening known script strict placing to plan files files) (sym named)
      (inr (name, is, refl, taken), refl)

  -- the file of the statistics was not opened
  pub not_reported : (old then new : FilesShown) (opened : OpenedFiles)
      → OpensPlacing known strict placing plan old then opened → LeavesOutputs then new
      → (why : Refusal) (was now : List (List ℕ)) → IsNotReported to was now why
      → FailsOpening known script strict placing to plan old new why
  not_reported old then new opened opens leaves why was now (same, (name, is, named)) =
      subst (FailsOpening known script strict placing to plan old new) (sym named)
      (is, record { opened = opened; then = then; opens = opens; leaves = leaves })
