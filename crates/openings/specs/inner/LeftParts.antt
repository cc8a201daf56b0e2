-- Parts of inputs that are left out, one input after another.
use Rattle.std.specs.Prelude.{◌≡◌, ◌≢◌, ℕ, ◌<◌, ◌≤◌, ◌⊎◌, List, Option, Some}
use Rattle.std.specs.List.{slice_get}
use Rattle.collector.specs.Files.{FilesShown, nothing_read, SameLogs, OtherLogs, SameContents}
use Rattle.collector.specs.Files.{OpensHeld}
use Rattle.collector.specs.InputEnds.{LeavesOut, LeavesRest, left_out_too}
use Rattle.collector.specs.declared.needed.LeftOut.{LeftOut}
use Rattle.collector.specs.declared.needed.LeftOut.TheVariants.{Nothing}
use Rattle.collector.specs.declared.needed.NeededEnd.{NeededEnd}
use Rattle.planner.specs.Planned.{Planned}
use Rattle.planner.specs.declared.plan.InOpening.{InOpening}
use Rattle.openings.specs.Answers.{answer_at}
use Rattle.openings.specs.Needs.{HasNoHead, IsLeftFor, IsNeededOnly, IsReadByHead}
use Rattle.openings.specs.Openings.{OthersKeep}

-- Each input that was opened held what the file of its name held before, and that is known.
abbrev pub HoldsWhole : Planned → List (Option ℕ) → FilesShown → FilesShown → Type 0
HoldsWhole plan answers old new =
    (place file : ℕ) (o : InOpening) → slice_get plan.inputs place ≡ Some o
    → answer_at answers place ≡ Some file → OpensHeld o.name file old new

-- nothing has been read of the inputs that were opened, and no two have one number
pub record AreUnread (answers : List (Option ℕ)) (files : FilesShown) : Type 0 where
  pub unread : (place file : ℕ) → answer_at answers place ≡ Some file
      → files.inputs file ≡ Some nothing_read
  pub apart : (one other file : ℕ) → answer_at answers one ≡ Some file
      → answer_at answers other ≡ Some file → one ≡ other

-- Nothing was left out of the inputs that were opened, and of every other file no more than before.
pub record AreWhole (answers : List (Option ℕ)) (old new : FilesShown) : Type 0 where
  pub whole : (place file : ℕ) → answer_at answers place ≡ Some file → new.left_out file ≡ Nothing
  pub others : (file : ℕ) → (new.left_out file ≡ old.left_out file)
      ⊎ ((place : ℕ) × (answer_at answers place ≡ Some file))

-- Nothing but what this input holds, and what is left out of it, changed.
pub record Leaves (file : ℕ) (old new : FilesShown) : Type 0 where
  pub openings : new.openings ≡ old.openings
  pub inputs : SameLogs old.inputs new.inputs
  pub outputs : SameLogs old.outputs new.outputs
  pub contents : SameContents old new
  pub standard_input : new.standard_input ≡ old.standard_input
  pub others : OtherLogs file old.held new.held
  pub left_out : (other : ℕ) → other ≢ file → new.left_out other ≡ old.left_out other
  pub failures : new.failures ≡ old.failures

-- a front of the input of this node was left out that nobody needs
pub record LeavesFront (plan : Planned) (k file : ℕ) (old new : FilesShown) : Type 0 where
  pub needed : NeededEnd
  pub only : IsNeededOnly plan k needed
  pub out : LeavesOut file needed old new

-- what follows the lines that head takes of the input of this node was left in its file
pub record LeavesToOthers (plan : Planned) (k file : ℕ) (old new : FilesShown) : Type 0 where
  pub lines : ℕ
  pub read : IsReadByHead plan k lines
  pub rest : LeavesRest file lines old new

-- What nobody needs of the input of this node was left out. Nothing changed if no head is its only
-- reader and no front was left out.
abbrev pub LeavesPartFor : Planned → Option ℕ → Option ℕ → FilesShown → FilesShown → Type 0
LeavesPartFor plan (Some k) (Some file) old new = ((new ≡ old) × HasNoHead plan k)
    ⊎ (LeavesFront plan k file old new ⊎ LeavesToOthers plan k file old new)
LeavesPartFor plan _ _ old new = new ≡ old

-- One of the first inputs of a plan has this number, and was asked once more to leave out a front;
-- its readers need only the end that was to be kept.
pub record IsFrontAsked (plan : Planned) (answers : List (Option ℕ)) (count file : ℕ)
    (old new : LeftOut) : Type 0 where
  pub place : ℕ
  pub below : place < count
  pub answered : answer_at answers place ≡ Some file
  pub opening : InOpening
  pub at : slice_get plan.inputs place ≡ Some opening
  pub node : ℕ
  pub of_node : opening.node ≡ Some node
  pub needed : NeededEnd
  pub only : IsNeededOnly plan node needed
  pub noted : new ≡ left_out_too old needed

-- Of the first inputs of a plan, those with an answer have lost what nobody needs. Nothing else
-- changed.
pub record LeavesParts (plan : Planned) (answers : List (Option ℕ)) (count : ℕ)
    (old new : FilesShown) : Type 0 where
  pub openings : new.openings ≡ old.openings
  pub inputs : SameLogs old.inputs new.inputs
  pub outputs : SameLogs old.outputs new.outputs
  pub contents : SameContents old new
  pub standard_input : new.standard_input ≡ old.standard_input
  pub others : OthersKeep (answer_at answers) old.held new.held
  pub later : (place file : ℕ) → count ≤ place → answer_at answers place ≡ Some file
      → new.held file ≡ old.held file
  pub left : (place file : ℕ) (o : InOpening) (whole : List ℕ) → place < count
      → slice_get plan.inputs place ≡ Some o → answer_at answers place ≡ Some file
      → old.held file ≡ Some whole →
      (rest : List ℕ) × (new.held file ≡ Some rest) × IsLeftFor plan o.node whole rest
  pub fronts : (file : ℕ) → (new.left_out file ≡ old.left_out file)
      ⊎ IsFrontAsked plan answers count file (old.left_out file) (new.left_out file)
  pub failures : new.failures ≡ old.failures
