-- The first fault of two lists of faults.
use Rattle.std.proofs.Common.{ℕ, List, [], ◌∷◌, ◌++◌, Err, inl, inr}
use Rattle.planner.specs.declared.fault.PlanFault.{PlanFault}
use Rattle.planner.specs.declared.fault.PlanFault.TheVariants as fault
use Rattle.planner.specs.Places.{Stage}
use Rattle.planner.specs.Faults.{AreAbsent, IsFirst, MeetsFaults}

module _ (fifos : List (List ℕ)) (ss : List Stage) where
  pub absent_append : (fs gs : List PlanFault) → AreAbsent fifos ss fs → AreAbsent fifos ss gs
      → AreAbsent fifos ss (fs ++ gs)
  absent_append [] gs a b = b
  absent_append (f ∷ fs) gs a b = (a.0, absent_append fs gs a.1 b)

  first_front : (fs gs : List PlanFault) (f : PlanFault) → IsFirst fifos ss fs f
      → IsFirst fifos ss (fs ++ gs) f
  first_front [] gs f h = absurd h
  first_front (g ∷ fs) gs f (inl h) = inl h
  first_front (g ∷ fs) gs f (inr h) = inr (h.0, first_front fs gs f h.1)

  first_behind : (fs gs : List PlanFault) (f : PlanFault) → AreAbsent fifos ss fs
      → IsFirst fifos ss gs f → IsFirst fifos ss (fs ++ gs) f
  first_behind [] gs f a h = h
  first_behind (g ∷ fs) gs f a h = inr (a.0, first_behind fs gs f a.1 h)

  -- a fault of the first list, or of the second one if the first has none
  pub meets_front : (A B : Type 0) (fs gs : List PlanFault) (f : PlanFault)
      → MeetsFaults {A = A} fifos ss fs (Err f) → MeetsFaults {A = B} fifos ss (fs ++ gs) (Err f)
  meets_front A B fs gs fault.NoMemory m = tt
  meets_front A B fs gs (fault.Arg stage f) m = first_front fs gs (fault.Arg stage f) m
  meets_front A B fs gs fault.FifoTwice m = first_front fs gs fault.FifoTwice m
  meets_front A B fs gs fault.ManyWriters m = first_front fs gs fault.ManyWriters m
  meets_front A B fs gs fault.ManyReaders m = first_front fs gs fault.ManyReaders m
  meets_front A B fs gs fault.NoReader m = first_front fs gs fault.NoReader m
  meets_front A B fs gs fault.NoWriter m = first_front fs gs fault.NoWriter m
  meets_front A B fs gs fault.Cycle m = first_front fs gs fault.Cycle m
  meets_front A B fs gs fault.OutputTwice m = first_front fs gs fault.OutputTwice m
  meets_front A B fs gs fault.ReadAndWritten m = first_front fs gs fault.ReadAndWritten m
  meets_front A B fs gs fault.LastOutputIsFifo m = first_front fs gs fault.LastOutputIsFifo m
  meets_front A B fs gs fault.AsyncToStdout m = first_front fs gs fault.AsyncToStdout m
  meets_front A B fs gs fault.TooMany m = first_front fs gs fault.TooMany m

  pub meets_behind : (A B : Type 0) (fs gs : List PlanFault) (f : PlanFault) → AreAbsent fifos ss fs
      → MeetsFaults {A = A} fifos ss gs (Err f) → MeetsFaults {A = B} fifos ss (fs ++ gs) (Err f)
  meets_behind A B fs gs fault.NoMemory a m = tt
  meets_behind A B fs gs (fault.Arg stage f) a m = first_behind fs gs (fault.Arg stage f) a m
  meets_behind A B fs gs fault.FifoTwice a m = first_behind fs gs fault.FifoTwice a m
  meets_behind A B fs gs fault.ManyWriters a m = first_behind fs gs fault.ManyWriters a m
  meets_behind A B fs gs fault.ManyReaders a m = first_behind fs gs fault.ManyReaders a m
  meets_behind A B fs gs fault.NoReader a m = first_behind fs gs fault.NoReader a m
  meets_behind A B fs gs fault.NoWriter a m = first_behind fs gs fault.NoWriter a m
  meets_behind A B fs gs fault.Cycle a m = first_behind fs gs fault.Cycle a m
  meets_behind A B fs gs fault.OutputTwice a m = first_behind fs gs fault.OutputTwice a m
  meets_behind A B fs gs fault.ReadAndWritten a m = first_behind fs gs fault.ReadAndWritten a m
  meets_behind A B fs gs fault.LastOutputIsFifo a m = first_behind fs gs fault.LastOutputIsFifo a m
  meets_behind A B fs gs fault.AsyncToStdout a m = first_behind fs gs fault.AsyncToStdout a m
  meets_behind A B fs gs fault.TooMany a m = first_behind fs gs fault.TooMany a m
