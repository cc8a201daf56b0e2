-- Opening the files of a plan whose outputs may be held back until the run has finished.
--
-- A redirection that fails ends the command before it runs (POSIX.1-2017 XCU 2.8.1). Here no output
-- is then left emptied, if outputs are held back.
use Rattle.std.specs.Prelude.{◌≡◌, Bool, IsTrue, [], ◌⊎◌, Err}
use Rattle.run_types.specs.declared.placing.Placing.{Placing}
use Rattle.collector.specs.Files.{FilesShown, OpensNothing}
use Rattle.collector.specs.Places.{BeginsOutputs, LeavesOutputs}
use Rattle.planner.specs.Planned.{Planned}
use Rattle.openings.specs.Answers.{OpenedFiles, missing_places}
use Rattle.openings.specs.Contents.{HoldsInputs, LeavesContents}
use Rattle.openings.specs.Destinations.{OpensDestinations}
use Rattle.openings.specs.Fronts.{LeavesFronts}
use Rattle.openings.specs.Openings.{OpensAll, OpensAs}
use Rattle.openings.specs.declared.fault.OpenFault.{OpenFault}
use Rattle.openings.specs.declared.fault.OpenFault.TheVariants as fault

-- Outputs get from now on what is written as `placing` says, and then every file of a plan was
-- opened, strictly or not. If contents are known, so is what each destination holds, and what each
-- input has to give. No front was left out that a reader needs.
pub record OpensPlacing (known strict : Bool) (placing : Placing) (plan : Planned)
    (old new : FilesShown) (o : OpenedFiles) : Type 0 where
  pub start : FilesShown
  pub begins : BeginsOutputs placing old start
  pub opens : OpensAll plan o start new
  pub none_missing : IsTrue strict → missing_places o.inputs ≡ []
  pub holds : IsTrue known → OpensDestinations plan.outputs o.outputs start new
  pub held : IsTrue known → HoldsInputs plan o.inputs start new
  pub fronts : LeavesFronts plan o.inputs start new

-- An opening failed after outputs were begun as `placing` says, and those that were held back were
-- left.
pub record LeavesPlacing (known strict : Bool) (placing : Placing) (plan : Planned)
    (old new : FilesShown) (f : OpenFault) : Type 0 where
  pub start : FilesShown
  pub then : FilesShown
  pub begins : BeginsOutputs placing old start
  pub fails : OpensAs strict plan start then (Err f)
  pub contents : IsTrue known → LeavesContents strict plan start then f
  pub leaves : LeavesOutputs then new

-- The files of a plan were not opened: an opening failed, or memory was refused before any.
abbrev pub FailsPlacing : Bool → Bool → Placing → Planned → FilesShown → FilesShown → OpenFault
    → Type 0
FailsPlacing known strict placing plan old new f = ((f ≡ fault.NoMemory) × OpensNothing old new)
    ⊎ LeavesPlacing known strict placing plan old new f
