-- How the openings of the inputs fail, and how those of the outputs after them.
use Rattle.std.specs.Prelude.{◌≡◌, Bool, true, IsTrue, ℕ, List, [], length, Option, None}
use Rattle.collector.specs.Files.{FilesShown, SameContents}
use Rattle.planner.specs.Planned.{Planned}
use Rattle.openings.specs.Answers.{missing_places}
use Rattle.openings.specs.Destinations.{OpensDestinations}
use Rattle.openings.specs.Openings.{OpensFirst, TriesNoOutput, FailsToOpen}
use Rattle.openings.specs.declared.fault.OpenFault.{OpenFault}

-- the openings of the inputs failed, and no output was tried
pub record FailsAhead (plan : Planned) (old new : FilesShown) (f : OpenFault) : Type 0 where
  pub fails : FailsToOpen true plan old new f
  pub untried : TriesNoOutput fails.outputs fails.last old new

-- openings failed, and if contents are known, the outputs that were answered left them so
abbrev pub FailsIfKnown : Bool → Bool → Planned → FilesShown → FilesShown → OpenFault → Type 0
FailsIfKnown known strict plan old new f = (fails : FailsToOpen strict plan old new f)
    × (IsTrue known → OpensDestinations plan.outputs fails.outputs old new)

-- The openings of outputs failed, whatever the answers to the inputs before them were. If they are
-- strict, none of those was missing.
abbrev pub FailsBehind : Bool → Planned → FilesShown → FilesShown → OpenFault → Type 0
FailsBehind known plan old new f =
    (strict : Bool) (first : FilesShown) (inputs : List (Option ℕ))
    → length inputs ≡ length plan.inputs → (IsTrue strict → missing_places inputs ≡ [])
    → OpensFirst plan inputs [] None first old → SameContents first old
    → FailsIfKnown known strict plan first new f
