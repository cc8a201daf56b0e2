-- Words of private contracts alone: what the parts of one step of a stage do.
use Rattle.std.specs.Prelude.{◌≡◌, ℕ, ◌<◌, List, [], ◌∷◌, ◌++◌, map, slice_set, Bool, true, false}
use Rattle.std.specs.Prelude.{Option, Some, None}
use Rattle.std.specs.List.{AllZip, AllByRecursion, All, concat}
use Rattle.machine.specs.declared.piece.Item.{Item}
use Rattle.bounded_pipe.specs.Sizes.{item_size}
use Rattle.bounded_pipe.specs.Ends.{Writing, ReadsOn}
use Rattle.bounded_pipe.specs.Events.{HangsUp, Puts, Notes, SameWriting}
use Rattle.bounded_pipe.specs.Pipes.{items_taken}
use Rattle.splice_tee.specs.BranchStates.{is_open, SomeOpen}
use Rattle.stages.specs.Stages.{taken_on, BranchKeeps, FrontIs}
use Rattle.machine.specs.Pieces.{IsPieceLong, Queued}
use Rattle.machine.specs.Law.{Shown, Feeds, Closes, IsTooLarge, before, with_closed}
use Rattle.machine.specs.declared.piece.Item.TheVariants.{Bytes, Close}
use Rattle.machine.specs.declared.protocol.Want.{Want}
use Rattle.stages.specs.Owed.{is_finished}
use Rattle.stages.specs.declared.outlet.Offer.{Offer}
use Rattle.stages.specs.declared.outlet.Offer.TheVariants.{Put, Full, Gone}
use Rattle.machine.specs.declared.protocol.StageFault.{StageFault}
use Rattle.machine.specs.declared.protocol.StageFault.TheVariants as fault
use Rattle.stages.specs.Inlets.{Taking, ReadsGoOn, reads}
use Rattle.stages.specs.Outlets.{Putting, IsRefusing, writes, WritesGoOn}
use Rattle.stages.specs.inner.Staged.{Staged}
use Rattle.run_types.specs.declared.step.Step.{Step}
use Rattle.run_types.specs.declared.step.Step.TheVariants as step
use Rattle.run_types.specs.declared.node_state.NodeFault.{NodeFault}
use Rattle.run_types.specs.declared.node_state.NodeFault.TheVariants as node
use Rattle.run_types.specs.declared.node_state.NodeState.{NodeState}
use Rattle.run_types.specs.declared.node_state.NodeState.TheVariants.{Running, Ended, Broken}
use Rattle.run_types.specs.declared.node_state.NodeState.TheVariants.{Failed}

-- the inputs are hung up all or none
abbrev pub AreTogether : Taking → Type 0
AreTogether i = AllByRecursion (λ r. r.hung_up ≡ i.hung_up) i.ends

-- One item was taken, on the input k.
pub record TakesOne (k : ℕ) (item : Item) (old new : Taking) : Type 0 where
  pub pipes : new.pipes ≡ old.pipes
  pub on : AllZip ReadsOn old.ends new.ends
  pub taken : map items_taken new.ends
      ≡ slice_set (map items_taken old.ends) k (taken_on old.ends k ++ item ∷ [])
  pub hung_up : new.hung_up ≡ old.hung_up
  pub together : AreTogether old → AreTogether new
  pub event : reads old.ends < reads new.ends

-- All inputs were hung up.
pub record HangsAllUp (old new : Taking) : Type 0 where
  pub pipes : new.pipes ≡ old.pipes
  pub ends : AllZip HangsUp old.ends new.ends
  pub hung_up : new.hung_up ≡ true

-- what an offer of an item did to the end of a branch; one that is full gives it back
abbrev pub Offers : Item → Writing → Writing → Offer → Type 0
Offers item old new Put = Puts item old new
Offers item old new (Full back) = (back ≡ item) × SameWriting old new
    × IsRefusing (item_size item) old
Offers item old new Gone = Notes old new

-- whether the front item is a piece
abbrev pub is_piece : Option Item → Bool
is_piece None = false
is_piece (Some (Bytes piece)) = true
is_piece (Some Close) = false

-- What the branches of a stage keep that wants this and has made these bytes.
pub record OutletKeeps (want : Want) (made : List ℕ) (o : Putting) : Type 0 where
  pub branches : AllZip (BranchKeeps o.block made o.front (concat o.owed)) o.ends o.served
  pub front : FrontIs o.block want o.owed o.front
  pub owed : All (IsPieceLong o.block) o.owed

-- Nothing was put and no hang-up noted, though an end may have seen more of what its reader did.
pub record SamePutting (old new : Putting) : Type 0 where
  pub pipes : new.pipes ≡ old.pipes
  pub ends : AllZip SameWriting old.ends new.ends
  pub served : new.served ≡ old.served
  pub front : new.front ≡ old.front
  pub block : new.block ≡ old.block
  pub owed : new.owed ≡ old.owed

-- What offers of the front item did: every end goes on, and the branches keep what they kept. If
-- they moved something there was an event, otherwise nothing was put or noted.
pub record Serves (moved : Bool) (old new : Putting) : Type 0 where
  pub on : WritesGoOn old new
  pub keeps : (want : Want) (made : List ℕ) → OutletKeeps want made old → OutletKeeps want made new
  pub event : moved ≡ true → (want : Want) (made : List ℕ) → OutletKeeps want made old
      → writes old.ends < writes new.ends
  pub still : moved ≡ false → SamePutting old new

-- The item that comes next: the first piece that is owed, or Close if none is owed and the machine
-- has finished.
abbrev pub NextIs : Bool → List (List ℕ) → List (List ℕ) → Option Item → Type 0
NextIs finished old new None = (finished ≡ false) × (old ≡ []) × (new ≡ [])
NextIs finished old new (Some Close) = (finished ≡ true) × (old ≡ []) × (new ≡ [])
NextIs finished old new (Some (Bytes piece)) = old ≡ piece ∷ new

-- What a change of the front item left: the ends, which branches are open, and what they keep.
pub record Advances (finished : Bool) (old new : Putting) : Type 0 where
  pub pipes : new.pipes ≡ old.pipes
  pub ends : new.ends ≡ old.ends
  pub block : new.block ≡ old.block
  pub opens : map is_open new.served ≡ map is_open old.served
  pub keeps : (want : Want) (made : List ℕ) → finished ≡ is_finished want
      → OutletKeeps want made old → OutletKeeps want made new

-- What a machine did that was handed this item of the input i: a piece, or Close as the end of the
-- input.
abbrev pub Hands : ℕ → Item → Shown → Shown → Queued → Queued → Type 0
Hands i (Bytes piece) old new out out' = Feeds i piece old new out out'
Hands i Close old new out out' = Closes i old new out out'

-- whatever is still to come after this item of the input i, some count that the machine would write
-- is too large
abbrev pub IsTooLargeWith : ℕ → Item → Shown → Type 0
IsTooLargeWith i (Bytes piece) m = IsTooLarge m m.closed (before i piece)
IsTooLargeWith i Close m = IsTooLarge m (with_closed i m.closed) (λ ys. ys)

-- the fault of a stage as a fault of its node
abbrev pub node_fault : StageFault → NodeFault
node_fault fault.CountTooLarge = node.CountTooLarge
node_fault fault.NoMemory = node.NoMemory

-- the state of a stage after a step with this result, and the faults that it can have
abbrev pub StateFits : NodeState → Step → Type 0
StateFits state step.Moved = state ≡ Running
StateFits state (step.Waits pipe) = state ≡ Running
StateFits state step.Ended = state ≡ Ended
StateFits state step.Broken = state ≡ Broken
StateFits state step.Failed = (fault : StageFault) × (state ≡ Failed (node_fault fault))

-- What a part of a step leaves: each end goes on from its own record, the state is that after a
-- step with this result, and if the stage ended, a branch is still open.
pub record GoesOn {M : Type 0} (old new : Staged M) (step : Step) : Type 0 where
  pub reads_on : ReadsGoOn old.inlet new.inlet
  pub writes_on : WritesGoOn old.outlet new.outlet
  pub state : StateFits new.state step
  pub ended : new.state ≡ Ended → SomeOpen new.outlet.served
