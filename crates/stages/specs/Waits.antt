-- When a stage waits: over its own ends, each with the other end of its pipe.
--
-- A write to a full pipe waits until a reader has made room, and a read of an empty one until a
-- writer has written or closed it (POSIX.1-2017 XSH read, write; pipe(7)).
use Rattle.std.specs.Prelude.{◌≡◌, ℕ, zero, suc, true, false, List, [], ◌∷◌}
use Rattle.std.specs.List.{AllZip}
use Rattle.machine.specs.Law.{Shown}
use Rattle.machine.specs.Whole.{StreamAnswer}
use Rattle.machine.specs.declared.protocol.Want.TheVariants.{Take, Finished}
use Rattle.bounded_pipe.specs.Ends.{Writing, Reading, Beside}
use Rattle.bounded_pipe.specs.Pipes.{IsFull, IsBare}
use Rattle.splice_tee.specs.declared.branches.Served.{Served}
use Rattle.stages.specs.Stages.{StagePart, AllDropped}
use Rattle.stages.specs.Owed.{branch_owed, owed_size}
use Rattle.stages.specs.Inlets.{Taking}
use Rattle.stages.specs.Outlets.{Putting}
use Rattle.stages.specs.Cases.{part_of, CaseOf, WaitsFull, WaitsEmpty}
use Rattle.run_types.specs.declared.node_state.NodeState.TheVariants.{Running}

-- each branch to which an item is owed is full for it; `readers` are the other ends of their pipes
abbrev pub OwedAreFull : StagePart → List Writing → List Served → List Reading → Type 0
OwedAreFull x [] [] [] = Unit {0}
OwedAreFull x (w ∷ outs) (s ∷ served) (r ∷ readers) =
    (branch_owed x w s ≡ true → IsFull (owed_size x) w r) × OwedAreFull x outs served readers
OwedAreFull x _ _ _ = ⊥

-- the branch k is the first to which an item is owed; it is full, and so is each later one to which
-- an item is owed
abbrev pub IsFirstFull : StagePart → List Writing → List Served → List Reading → ℕ → Type 0
IsFirstFull x (w ∷ outs) (s ∷ served) (r ∷ readers) zero = (branch_owed x w s ≡ true)
    × IsFull (owed_size x) w r × OwedAreFull x outs served readers
IsFirstFull x (w ∷ outs) (s ∷ served) (r ∷ readers) (suc k) = (branch_owed x w s ≡ false)
    × IsFirstFull x outs served readers k
IsFirstFull x _ _ _ k = ⊥

-- nothing is owed to any branch
abbrev pub NothingIsOwed : StagePart → List Writing → List Served → Type 0
NothingIsOwed x outs served = AllZip (λ w s. branch_owed x w s ≡ false) outs served

-- the input k is empty and not closed; `writers` are the other ends of their pipes
abbrev pub IsBareInput : List Writing → List Reading → ℕ → Type 0
IsBareInput (w ∷ writers) (r ∷ ins) zero = IsBare w r
IsBareInput (w ∷ writers) (r ∷ ins) (suc k) = IsBareInput writers ins k
IsBareInput _ _ k = ⊥

-- If each branch was looked at from both sides when the step began, a wait for a full branch is
-- exact: an item is owed to it, to no earlier one, and all to which an item is owed are full; and
-- once the machine has finished, the inputs are hung up.
abbrev pub FullWaitsAreExact : Type 0
FullWaitsAreExact =
    (answer : StreamAnswer) (m : Shown) (i : Taking) (o : Putting) (n : Shown) (j : Taking)
    (p : Putting) (k : ℕ) (readers : List Reading) → CaseOf answer Running n j p
    → WaitsFull m i o n j p k → AllZip Beside o.ends readers →
    IsFirstFull (part_of Running n j p) p.ends p.served readers k
    × (n.wanted ≡ Finished → j.hung_up ≡ true)

-- If each input was looked at from both sides when the step began, a wait for an empty input is
-- exact: nothing is owed to any branch, some branch is not dropped, the machine wants that input,
-- and it is empty and not closed.
abbrev pub EmptyWaitsAreExact : Type 0
EmptyWaitsAreExact =
    (answer : StreamAnswer) (m : Shown) (i : Taking) (o : Putting) (n : Shown) (j : Taking)
    (p : Putting) (k : ℕ) (writers : List Writing) → CaseOf answer Running n j p
    → WaitsEmpty m i o n j p k → AllZip Beside writers i.ends →
    NothingIsOwed (part_of Running n j p) p.ends p.served × (AllDropped p.ends → ⊥)
    × (n.wanted ≡ Take k) × IsBareInput writers j.ends k
