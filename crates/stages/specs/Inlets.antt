-- The inputs of a stage. It takes from one at a time, and hangs them up all together (POSIX.1-2017
-- XSH read, close).
use Rattle.std.specs.Prelude.{◌≡◌, ℕ, List, [], Bool, true, false}
use Rattle.std.specs.List.{AllZip, AllByRecursion, sum_by}
use Rattle.bounded_pipe.specs.Ends.{Writing, Reading, ReadsOn, SeeEachOther, IsEmpty}
use Rattle.bounded_pipe.specs.Events.{SameReading, StillReading}
use Rattle.bounded_pipe.specs.Pipes.{events_of_reading}

-- the inputs of a stage: the numbers of their pipes, their ends, and whether the stage has hung
-- them up
pub record Taking : Type 0 where
  pub pipes : List ℕ
  pub ends : List Reading
  pub hung_up : Bool

-- the events of these ends: items that were taken, and hang-ups
abbrev pub reads : List Reading → ℕ
reads ends = sum_by events_of_reading ends

-- Nothing was taken and nothing hung up, though an end may have seen more of what its writer did.
pub record SameTaking (old new : Taking) : Type 0 where
  pub pipes : new.pipes ≡ old.pipes
  pub ends : AllZip SameReading old.ends new.ends
  pub hung_up : new.hung_up ≡ old.hung_up

-- The inlet has the same record, but its pipes may have new rings.
pub record StillTaking (old new : Taking) : Type 0 where
  pub pipes : new.pipes ≡ old.pipes
  pub ends : AllZip StillReading old.ends new.ends
  pub hung_up : new.hung_up ≡ old.hung_up

-- Each end goes on from its own record, and the pipes keep their numbers.
pub record ReadsGoOn (old new : Taking) : Type 0 where
  pub pipes : new.pipes ≡ old.pipes
  pub ends : AllZip ReadsOn old.ends new.ends

-- all that was put was taken, if the two ends have seen all that the other did
abbrev pub IsDrained : Reading → Type 0
IsDrained r = (w : Writing) → SeeEachOther w r → IsEmpty w r

-- an end from which nothing was taken, and that is not hung up
abbrev pub IsNewReading : Reading → Type 0
IsNewReading r = (r.taken ≡ []) × (r.hung_up ≡ false)

-- every input is hung up
abbrev pub AllHungUp : Taking → Type 0
AllHungUp i = (i.hung_up ≡ true) × AllByRecursion (λ r. r.hung_up ≡ true) i.ends

-- inputs from which nothing was taken
pub record IsNewInlet (i : Taking) : Type 0 where
  pub hung_up : i.hung_up ≡ false
  pub ends : AllByRecursion IsNewReading i.ends
