-- What files hold while the files of a plan are opened, and after an opening that failed.
--
-- An opening for input changes no file, and one for output may empty its file (POSIX.1-2017 XSH
-- open; XCU 2.7.2). Every input is opened first, so each held what its file held before all
-- openings. Then a front that no reader needs may be left out.
use Rattle.std.specs.Prelude.{◌≡◌, ℕ, ◌⊎◌, Bool, IsTrue, List, Option, Some}
use Rattle.std.specs.List.{slice_get}
use Rattle.run_types.specs.declared.names.OutName.{OutName}
use Rattle.run_types.specs.Destinations.{destination_of}
use Rattle.collector.specs.Files.{FilesShown, content_for}
use Rattle.planner.specs.Planned.{Planned}
use Rattle.planner.specs.declared.plan.InOpening.{InOpening}
use Rattle.planner.specs.declared.plan.OutOpening.{OutOpening}
use Rattle.openings.specs.Answers.{answer_at}
use Rattle.openings.specs.Needs.{IsLeftFor}
use Rattle.openings.specs.Destinations.{OpensDestinations}
use Rattle.openings.specs.Openings.{FailsToOpen, LacksOperand}
use Rattle.openings.specs.declared.fault.OpenFault.{OpenFault}
use Rattle.openings.specs.declared.fault.OpenFault.TheVariants as fault

-- An input that was opened has to give what the file of its name held before, or the end of that
-- which its readers need; and that is known.
pub record HoldsEnd (plan : Planned) (o : InOpening) (file : ℕ) (old new : FilesShown) : Type 0
  where
    pub content : List ℕ
    pub given : content_for old o.name ≡ Some content
    pub left : List ℕ
    pub held : new.held file ≡ Some left
    pub is_left : IsLeftFor plan o.node content left

-- the same of each input that was opened, by these answers
abbrev pub HoldsInputs : Planned → List (Option ℕ) → FilesShown → FilesShown → Type 0
HoldsInputs plan answers old new =
    (place file : ℕ) (o : InOpening) → slice_get plan.inputs place ≡ Some o
    → answer_at answers place ≡ Some file → HoldsEnd plan o file old new

-- An opening of a plan's files failed. A destination to which one output writes of those that were
-- answered holds what it held if that output appends, otherwise nothing. One to which none of them
-- writes holds what it held: so that of the output that was refused, and those of the ones after
-- it, if no output before them writes to the same.
abbrev pub FailsLeaving : Bool → Planned → FilesShown → FilesShown → OpenFault → Type 0
FailsLeaving strict plan old new f = (fails : FailsToOpen strict plan old new f)
    × OpensDestinations plan.outputs fails.outputs old new

-- The same, or the opening is strict and lacks an operand: then every destination holds what it
-- held.
abbrev pub LeavesContents : Bool → Planned → FilesShown → FilesShown → OpenFault → Type 0
LeavesContents strict plan old new f = FailsLeaving strict plan old new f
    ⊎ (IsTrue strict × LacksOperand plan old new f)

-- No two of these outputs write to one destination, as those of a script's plan (`OutputsAreApart`
-- of planner).
abbrev pub AreApart : List OutOpening → Type 0
AreApart openings =
    (i j : ℕ) (o r : OutOpening) → slice_get openings i ≡ Some o → slice_get openings j ≡ Some r
    → destination_of o.name ≡ destination_of r.name → i ≡ j

-- If no two outputs of a plan write to one destination, that of the output that was refused holds
-- what it held.
abbrev pub RefusedIsKept : Type 0
RefusedIsKept =
    (strict : Bool) (plan : Planned) (old new : FilesShown) (name : OutName)
    → FailsLeaving strict plan old new (fault.OutputNotOpened name) → AreApart plan.outputs
    → new.contents (destination_of name) ≡ old.contents (destination_of name)
