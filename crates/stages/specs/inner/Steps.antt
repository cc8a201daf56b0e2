-- Steps of a stage.
use Rattle.std.specs.Prelude.{◌≡◌, ◌≢◌, ℕ, ◌⊎◌, ◌+◌, ◌<◌, [], ◌∷◌, ◌++◌, map, slice_set, None}
use Rattle.std.specs.Prelude.{false, IsSome}
use Rattle.machine.specs.Law.{Shown}
use Rattle.machine.specs.Whole.{StreamAnswer}
use Rattle.machine.specs.declared.protocol.Want.TheVariants.{Take, Finished}
use Rattle.machine.specs.declared.piece.Item.{Item}
use Rattle.std.specs.List.{HoldsAt}
use Rattle.bounded_pipe.specs.Ends.{Writing}
use Rattle.bounded_pipe.specs.Pipes.{items_taken}
use Rattle.splice_tee.specs.BranchStates.{IsLacking, NoneLacks, NoneOpen, SomeOpen}
use Rattle.stages.specs.Stages.{StagePart, taken_on}
use Rattle.stages.specs.Inlets.{Taking, ReadsGoOn, AllHungUp, reads}
use Rattle.stages.specs.Outlets.{Putting, WritesGoOn, writes}
use Rattle.stages.specs.inner.Staged.{Staged}
use Rattle.stages.specs.Cases.{part_of, CaseOf, WaitsForPipe}
use Rattle.run_types.specs.declared.node_state.NodeFault.{NodeFault}
use Rattle.run_types.specs.declared.node_state.NodeFault.TheVariants as node
use Rattle.run_types.specs.declared.node_state.NodeState.{NodeState}
use Rattle.run_types.specs.declared.node_state.NodeState.TheVariants.{Running, Ended, Broken}
use Rattle.run_types.specs.declared.node_state.NodeState.TheVariants.{Failed}
use Rattle.run_types.specs.declared.step.Step.{Step}
use Rattle.run_types.specs.declared.step.Step.TheVariants as step

-- the stage of these parts
abbrev pub stage : {M : Type 0} → M → Taking → Putting → NodeState → Staged M
stage machine inlet outlet state =
    record {
      machine = machine;
      inlet = inlet;
      outlet = outlet;
      state = state;
    }

module _ {M : Type 0} (shows : M → Shown) where
  -- a stage, without its pipe ends
  abbrev pub part : Staged M → StagePart
  part s = part_of s.state (shows s.machine) s.inlet s.outlet

  -- the stage is in its case, if this is the answer to all that comes on its inputs
  abbrev pub InCase : StreamAnswer → Staged M → Type 0
  InCase answer s = CaseOf answer s.state (shows s.machine) s.inlet s.outlet

-- the events of a stage: those of its ends
abbrev pub events : {M : Type 0} → Staged M → ℕ
events s = reads s.inlet.ends + writes s.outlet.ends

-- a stage can fail for a count or for want of memory
abbrev pub IsStageFault : NodeFault → Type 0
IsStageFault node.ReadFault = ⊥
IsStageFault node.WriteFault = ⊥
IsStageFault node.CountTooLarge = Unit {0}
IsStageFault node.NoMemory = Unit {0}

-- the state of a stage after a step with this result
abbrev pub HasState : NodeState → Step → Type 0
HasState state step.Moved = state ≡ Running
HasState state (step.Waits pipe) = state ≡ Running
HasState state step.Ended = state ≡ Ended
HasState state step.Broken = state ≡ Broken
HasState state step.Failed = (fault : NodeFault) × (state ≡ Failed fault)

-- What the result of a step says of its events: after Moved there was one; Waits names the pipe for
-- which the stage waits, and then nothing changed but what the ends have seen.
abbrev pub StepSays : {M : Type 0} → (M → Shown) → Staged M → Staged M → Step → Type 0
StepSays shows old new step.Moved = events old < events new
StepSays shows old new (step.Waits pipe) =
    WaitsForPipe (shows old.machine) old.inlet old.outlet (shows new.machine) new.inlet new.outlet
    pipe
StepSays shows old new step.Ended = Unit {0}
StepSays shows old new step.Broken = Unit {0}
StepSays shows old new step.Failed = Unit {0}

-- A stage breaks off: it hangs up its inputs and drops what it owes, and its machine stays as it
-- was.
pub record BreaksOff {M : Type 0} (t u : Staged M) (answer : Step) : Type 0 where
  pub says : answer ≡ step.Broken
  pub inputs : AllHungUp u.inlet
  pub only : u ≡ stage t.machine u.inlet (record t.outlet { front = None; owed = [] }) Broken

-- nothing was taken
abbrev pub TakesNothing : Taking → Taking → Type 0
TakesNothing old new = map items_taken new.ends ≡ map items_taken old.ends

-- Every input is hung up, and nothing was taken.
pub record EndsInputs (old new : Taking) : Type 0 where
  pub hung_up : AllHungUp new
  pub untaken : TakesNothing old new

-- nothing was taken, or one item, on the input k
abbrev pub TakesAtMostOne : ℕ → Taking → Taking → Type 0
TakesAtMostOne k old new =
    TakesNothing old new
    ⊎ ((item : Item)
    × (map items_taken new.ends
    ≡ slice_set (map items_taken old.ends) k (taken_on old.ends k ++ item ∷ [])))

-- a writing end that has seen no hang-up of its reader
abbrev pub IsUnmarked : Writing → Type 0
IsUnmarked w = (w.noted ≡ false) × (w.pending ≡ 0)

-- Of no branch that lacks the front item the reader is known to have hung up.
abbrev pub SeesReaders : Putting → Type 0
SeesReaders o = (k : ℕ) → IsLacking o.served k → HoldsAt IsUnmarked o.ends k

-- A stage takes at most one item in a step, on the input that its machine wants. It takes none
-- while a branch lacks the front item, or a piece comes after that item; and none if it sees that
-- the reader of a branch has hung up.
abbrev pub TakesInTurn : Shown → Taking → Putting → Taking → Putting → Type 0
TakesInTurn m i o j p =
    TakesNothing i j
    ⊎ ((k : ℕ) × (m.wanted ≡ Take k) × (IsSome o.front → NoneLacks o.served) × (o.owed ≡ [])
    × SeesReaders p × TakesAtMostOne k i j)

-- What a step of a stage is: its case is kept whatever the answer is, its ends go on, its result is
-- true, and if it does not run nothing happens.
pub record StageActs {M : Type 0} (shows : M → Shown) (t u : Staged M) (step : Step) : Type 0 where
  pub case : (answer : StreamAnswer) → InCase shows answer t → InCase shows answer u
  pub reads : ReadsGoOn t.inlet u.inlet
  pub writes : WritesGoOn t.outlet u.outlet
  pub state : HasState u.state step
  pub fault : t.state ≡ Running → (fault : NodeFault) → u.state ≡ Failed fault → IsStageFault fault
  pub stays : t.state ≢ Running → u ≡ t
  pub says : (answer : StreamAnswer) → InCase shows answer t → StepSays shows t u step
  -- once its machine has finished, its next step hangs up its inputs, if they are not hung up yet
  pub hangs_up : t.state ≡ Running → (shows t.machine).wanted ≡ Finished → AllHungUp u.inlet
  -- if no branch is open as the step begins, the step breaks it off
  pub breaks : t.state ≡ Running → NoneOpen t.outlet.served → BreaksOff t u step
  -- if it ends, a branch is still open
  pub ended : t.state ≡ Running → u.state ≡ Ended → SomeOpen u.outlet.served
  -- it takes at most one item, and none while it owes one to a branch, or sees that one's reader is
  -- gone
  pub takes : (answer : StreamAnswer) → InCase shows answer t → t.state ≡ Running
      → TakesInTurn (shows t.machine) t.inlet t.outlet u.inlet u.outlet
