-- The branches of a stage, and what is owed to them. Each open branch gets the front item before
-- the next one, as tee writes each byte to all of its files (POSIX.1-2017 XCU tee).
use Rattle.std.specs.Prelude.{◌≡◌, ℕ, List, [], length, replicate, Bool, true, false}
use Rattle.std.specs.Prelude.{Option, Some, None}
use Rattle.std.specs.List.{AllZip, AllByRecursion, sum_by}
use Rattle.machine.specs.declared.piece.Item.{Item}
use Rattle.machine.specs.declared.piece.Item.TheVariants.{Close}
use Rattle.bounded_pipe.specs.Ends.{Writing, Reading, WritesOn, SeeEachOther}
use Rattle.bounded_pipe.specs.Pipes.{IsFull, events_of_writing}
use Rattle.splice_tee.specs.BranchStates.{NoneLacks}
use Rattle.splice_tee.specs.declared.branches.Served.{Served}
use Rattle.splice_tee.specs.declared.branches.Served.TheVariants.{Lacks}

-- the branches of a stage: the numbers of their pipes, their ends, whether they have the front
-- item, that item, and the pieces after it, of at most block bytes
pub record Putting : Type 0 where
  pub pipes : List ℕ
  pub ends : List Writing
  pub served : List Served
  pub front : Option Item
  pub block : ℕ
  pub owed : List (List ℕ)

-- if the two ends have seen all that the other did, the pipe is full for an item of this size and
-- its reader has not hung up
abbrev pub IsRefusing : ℕ → Writing → Type 0
IsRefusing size w = (r : Reading) → SeeEachOther w r → IsFull size w r

-- the events of these ends: items that were put, and hang-ups that were noted
abbrev pub writes : List Writing → ℕ
writes ends = sum_by events_of_writing ends

-- Each end goes on from its own record, and the pipes keep their numbers.
pub record WritesGoOn (old new : Putting) : Type 0 where
  pub pipes : new.pipes ≡ old.pipes
  pub block : new.block ≡ old.block
  pub ends : AllZip WritesOn old.ends new.ends

-- Nothing is owed any more: if the machine has finished each open branch has Close, otherwise there
-- is no piece.
abbrev pub Spent : Bool → Putting → Type 0
Spent true o = (o.front ≡ Some Close) × NoneLacks o.served
Spent false o = (o.front ≡ None) × (o.owed ≡ [])

-- an end on which nothing was put, and that has noted no hang-up
abbrev pub IsNewWriting : Writing → Type 0
IsNewWriting w = (w.put ≡ []) × (w.noted ≡ false)

-- branches on which nothing was put, and to which nothing is owed
pub record IsNewOutlet (o : Putting) : Type 0 where
  pub front : o.front ≡ None
  pub owed : o.owed ≡ []
  pub served : o.served ≡ replicate (length o.ends) Lacks
  pub ends : AllByRecursion IsNewWriting o.ends
