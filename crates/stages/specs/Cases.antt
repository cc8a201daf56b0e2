-- The case of a stage over what its parts show, and what it says that a stage waits: before the
-- step its machine showed m, its inputs were i and its branches o, and after it they are n, j and
-- p.
--
-- A write to a full pipe waits until a reader has made room, and a read of an empty one until a
-- writer has written or closed it (POSIX.1-2017 XSH read, write; pipe(7)).
use Rattle.std.specs.Prelude.{◌≡◌, ℕ, ◌⊎◌, true, false, Some, IsSome, slice_get}
use Rattle.std.specs.List.{AllZip, HoldsAt}
use Rattle.machine.specs.Law.{Shown}
use Rattle.machine.specs.Whole.{StreamAnswer}
use Rattle.machine.specs.declared.protocol.Want.TheVariants.{Take, Finished}
use Rattle.bounded_pipe.specs.Events.{SameWriting}
use Rattle.splice_tee.specs.BranchStates.{IsLacking, IsFirstLacking, SomeOpen}
use Rattle.stages.specs.Stages.{StagePart, StageCase, front_size}
use Rattle.stages.specs.Inlets.{Taking, SameTaking, IsDrained}
use Rattle.stages.specs.Outlets.{Putting, IsRefusing, Spent}
use Rattle.run_types.specs.declared.node_state.NodeState.{NodeState}

-- a stage in this state, without its pipe ends: its machine shows m of itself
abbrev pub part_of : NodeState → Shown → Taking → Putting → StagePart
part_of state m i o =
    record {
      state = state;
      machine = m;
      hung_up = i.hung_up;
      served = o.served;
      front = o.front;
      owed = o.owed;
    }

-- its case
abbrev pub CaseOf : StreamAnswer → NodeState → Shown → Taking → Putting → Type 0
CaseOf answer state m i o = StageCase o.block answer (part_of state m i o) state i.ends o.ends

-- It waits for the full branch k: nothing was put, taken, noted or hung up; k is the first that
-- lacks the front item, each that lacks it refuses it, and the inputs are hung up once the machine
-- has finished.
pub record WaitsFull (m : Shown) (i : Taking) (o : Putting) (n : Shown) (j : Taking) (p : Putting)
    (k : ℕ) : Type 0 where
  pub machine : n ≡ m
  pub inputs : SameTaking i j
  pub ends : AllZip SameWriting o.ends p.ends
  pub front : IsSome p.front
  pub first : IsFirstLacking p.served k
  pub refused : (h : ℕ) → IsLacking p.served h → HoldsAt (IsRefusing (front_size p.front)) o.ends h
  pub hung_up : m.wanted ≡ Finished → j.hung_up ≡ true

-- It waits for the empty input k: nothing was put, taken, noted or hung up; the machine wants k,
-- nothing is left to take of it, nothing is owed, and a branch is open.
pub record WaitsEmpty (m : Shown) (i : Taking) (o : Putting) (n : Shown) (j : Taking) (p : Putting)
    (k : ℕ) : Type 0 where
  pub machine : n ≡ m
  pub inputs : SameTaking i j
  pub ends : AllZip SameWriting o.ends p.ends
  pub wanted : m.wanted ≡ Take k
  pub empty : HoldsAt IsDrained i.ends k
  pub spent : Spent false p
  pub opens : SomeOpen p.served

-- it waits for this pipe: the full one of a branch, or the empty one of an input
abbrev pub WaitsForPipe : Shown → Taking → Putting → Shown → Taking → Putting → ℕ → Type 0
WaitsForPipe m i o n j p pipe =
    ((k : ℕ) × (slice_get p.pipes k ≡ Some pipe) × WaitsFull m i o n j p k)
    ⊎ ((k : ℕ) × (slice_get j.pipes k ≡ Some pipe) × WaitsEmpty m i o n j p k)
