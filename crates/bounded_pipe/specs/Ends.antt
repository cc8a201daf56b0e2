-- The two ends of a pipe: what each has recorded, and what is so of both.
--
-- Items come out in the order in which they were put, each once, and a pipe holds no more than its
-- capacity (POSIX.1-2017 XSH write, pipe or FIFO; pipe(7)). A writer can learn that the reader has
-- closed its end (XSH write, EPIPE).
use Rattle.std.specs.Prelude.{◌≡◌, ℕ, ◌+◌, ◌<◌, ◌≤◌, List, ◌++◌, length, Bool, IsTrue, ◌⊎◌}
use mathlib.Core.List.{IsPrefix}
use Rattle.machine.specs.declared.piece.Item.{Item}
use Rattle.bounded_pipe.specs.Names.{PipeName}
use Rattle.bounded_pipe.specs.Sizes.{size_of}

-- what the writing end has recorded
pub record Writing : Type 0 where
  pub pipe : PipeName
  -- how many items the pipe can hold
  pub capacity : ℕ
  -- how many bytes these can have together
  pub limit : ℕ
  -- every item that was put, oldest first
  pub put : List Item
  -- how many places it knows to be free
  pub free : ℕ
  -- whether it has noted that the reader hung up
  pub noted : Bool
  -- how many hang-up marks it has seen and not noted
  pub pending : ℕ
  -- how many bytes it counts in the pipe
  pub count : ℕ
  -- the sum of the numbers that it received through the ring of numbers
  pub heard : ℕ

-- what the reading end has recorded
pub record Reading : Type 0 where
  pub pipe : PipeName
  -- every item that was taken, oldest first
  pub taken : List Item
  -- the items that it has seen in the pipe and not taken, oldest first
  pub known : List Item
  -- whether it has hung up
  pub hung_up : Bool
  -- how many bytes it has taken and not yet told the writer
  pub untold : ℕ
  -- the sum of the numbers that it told through the ring of numbers
  pub told : ℕ

-- a number of items that a pipe can be made for
abbrev pub IsCapacity : ℕ → Type 0
IsCapacity capacity = (1 ≤ capacity) × (capacity ≤ 4096)

-- a number of bytes that a pipe can be made for
abbrev pub IsLimit : ℕ → Type 0
IsLimit bytes = (1 ≤ bytes) × (bytes ≤ 268435456)

-- the two ends of one pipe
abbrev pub AreEnds : Writing → Reading → Type 0
AreEnds writer reader = writer.pipe ≡ reader.pipe

-- The count of a writing end is at most the limit. It is at least the bytes that were put into the
-- pipe's rings, less the numbers that were received.
pub record IsCounted (w : Writing) : Type 0 where
  pub within : w.count ≤ w.limit
  pub covers : size_of w.put ≤ size_of w.pipe.before + (w.count + w.heard)

-- What a reading end told and what it has yet to tell are together at most the bytes taken from the
-- pipe's rings.
abbrev pub IsTold : Reading → Type 0
IsTold r = size_of r.pipe.before + (r.told + r.untold) ≤ size_of r.taken

-- The same writing end, with a record that goes on from the one that it had: all that was put is
-- still recorded, in its place, and so is a hang-up that was noted; and a count that was right
-- still is.
pub record WritesOn (old new : Writing) : Type 0 where
  pub pipe : new.pipe ≡ old.pipe
  pub capacity : new.capacity ≡ old.capacity
  pub limit : new.limit ≡ old.limit
  pub put : IsPrefix old.put new.put
  pub noted : IsTrue old.noted → IsTrue new.noted
  pub counted : IsCounted old → IsCounted new

-- The same reading end, with a record that goes on from the one that it had.
pub record ReadsOn (old new : Reading) : Type 0 where
  pub pipe : new.pipe ≡ old.pipe
  pub taken : IsPrefix old.taken new.taken
  pub hung_up : IsTrue old.hung_up → IsTrue new.hung_up
  pub told : IsTold old → IsTold new

-- What holds of the two ends of one pipe: nothing is taken before it was put; what is in between is
-- within the capacity and the limit; and no hang-up is noted before it happened.
pub record Consistent (writer : Writing) (reader : Reading) : Type 0 where
  pub pipe : AreEnds writer reader
  pub order : IsPrefix reader.taken writer.put
  pub within : length writer.put ≤ length reader.taken + writer.capacity
  pub light : size_of writer.put ≤ size_of reader.taken + writer.limit
  pub noted : IsTrue writer.noted → IsTrue reader.hung_up

-- The two ends of one pipe, each of which has seen all that the other did. The reader knows all
-- items in the pipe. The writer knows every free place, counts no more bytes than are in the pipe,
-- and has seen a hang-up that happened.
pub record SeeEachOther (writer : Writing) (reader : Reading) : Type 0 where
  pub ends : AreEnds writer reader
  pub between : writer.put ≡ reader.taken ++ reader.known
  pub within : length reader.known ≤ writer.capacity
  pub room : writer.capacity ≤ writer.free + length reader.known
  pub noted : IsTrue writer.noted → IsTrue reader.hung_up
  pub seen : IsTrue reader.hung_up → IsTrue writer.noted ⊎ (0 < writer.pending)
  pub count : writer.count ≤ size_of reader.known

-- The two ends of one pipe as `beside` leaves them. Each has seen all that the other did. The
-- writer's count is exactly the bytes in the pipe. All that was taken from the pipe's rings was
-- told, and all that was told was received.
pub record Beside (writer : Writing) (reader : Reading) : Type 0 where
  pub sees : SeeEachOther writer reader
  pub count : writer.count ≡ size_of reader.known
  pub light : writer.count ≤ writer.limit
  pub heard : writer.heard ≡ reader.told
  pub told : size_of reader.pipe.before + reader.told ≡ size_of reader.taken
  pub untold : reader.untold ≡ 0

-- the pipe holds as many items as its capacity
abbrev pub HoldsCapacity : Writing → Reading → Type 0
HoldsCapacity writer reader = length writer.put ≡ length reader.taken + writer.capacity

-- its bytes and those of an item of this size are more than its limit
abbrev pub LacksBytes : ℕ → Writing → Reading → Type 0
LacksBytes size writer reader = size_of reader.taken + writer.limit < size_of writer.put + size

-- The pipe is full for an item of this size: it holds as many items as its capacity, or lacks bytes
-- for the item (XSH write, pipe or FIFO; pipe(7), Pipe capacity).
abbrev pub LacksRoom : ℕ → Writing → Reading → Type 0
LacksRoom size writer reader = HoldsCapacity writer reader ⊎ LacksBytes size writer reader

-- a writing end that knows of no free place, or counts too many bytes for an item of this size
abbrev pub KnowsFull : ℕ → Writing → Type 0
KnowsFull size writer = (writer.free ≡ 0) ⊎ (writer.limit < writer.count + size)

-- all that was put was taken
abbrev pub IsEmpty : Writing → Reading → Type 0
IsEmpty writer reader = writer.put ≡ reader.taken
