-- What a writing end knows of free places and bytes: once it refused an item, and once it was asked
-- whether the reader is gone.
--
-- A write to a full pipe waits until a reader has made room (POSIX.1-2017 XSH write; pipe(7)).
use Rattle.std.specs.Prelude.{◌≡◌, ℕ}
use Rattle.bounded_pipe.specs.Ends.{Writing, Reading, SeeEachOther, KnowsFull, LacksRoom}

-- An item of this size was refused. The end knew of no free place, or counted too many bytes for
-- the item. It knows of as many free places as before. If each end had seen all that the other did,
-- the pipe is full for the item, and both have still seen all.
pub record FindsFull (size : ℕ) (old new : Writing) : Type 0 where
  pub known : KnowsFull size old
  pub free : new.free ≡ old.free
  pub full : (reader : Reading) → SeeEachOther old reader → LacksRoom size old reader
  pub still : (reader : Reading) → SeeEachOther old reader → SeeEachOther new reader

-- The end knows of as many free places as before, and counts as many bytes.
pub record KnowsAsMuch (old new : Writing) : Type 0 where
  pub free : new.free ≡ old.free
  pub count : new.count ≡ old.count
