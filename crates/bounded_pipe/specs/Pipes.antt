-- What went through a pipe, as the records of its two ends tell it.
--
-- What is written to a pipe is read from it in the order in which it was written; a pipe holds no
-- more than its capacity, and a read gives the end of the file once the writer has closed it and
-- all was read (POSIX.1-2017 XSH read, write; pipe(7)).
--
-- The crates above speak of the items of a pipe through the words of this file. When a pipe grows,
-- the items put and the items taken stay what they were.
use Rattle.std.specs.Prelude.{◌≡◌, ℕ, ◌+◌, List, [], ◌∷◌, length, Bool, false, if◌then◌else◌}
use Rattle.machine.specs.Items.{bytes_of, has_close, IsTidy}
use Rattle.machine.specs.declared.piece.Item.{Item}
use Rattle.machine.specs.declared.piece.Item.TheVariants.{Bytes, Close}
use Rattle.bounded_pipe.specs.Ends.{Writing, Reading, Consistent}
use Rattle.bounded_pipe.specs.Ends as end_words

-- the items that were put, oldest first
abbrev pub items_put : Writing → List Item
items_put w = w.put

-- the items that were taken, oldest first
abbrev pub items_taken : Reading → List Item
items_taken r = r.taken

-- the bytes that were put
abbrev pub bytes_put : Writing → List ℕ
bytes_put w = bytes_of (items_put w)

-- the bytes that were taken
abbrev pub bytes_taken : Reading → List ℕ
bytes_taken r = bytes_of (items_taken r)

-- whether Close was put
abbrev pub is_closed : Writing → Bool
is_closed w = has_close (items_put w)

-- whether Close was taken
abbrev pub is_at_end : Reading → Bool
is_at_end r = has_close (items_taken r)

-- the first of these items is a piece of this many bytes
abbrev pub BeginsWithPiece : ℕ → List Item → Type 0
BeginsWithPiece size [] = ⊥
BeginsWithPiece size (Bytes piece ∷ items) = length piece ≡ size
BeginsWithPiece size (Close ∷ items) = ⊥

-- The two ends of one pipe agree, no piece in it is empty or longer than the block, and Close is
-- only at the end.
pub record IsSound (block : ℕ) (w : Writing) (r : Reading) : Type 0 where
  pub ends : Consistent w r
  pub tidy : IsTidy block (items_put w)

-- The pipe is full for an item of this size, and the reader has not hung up.
pub record IsFull (size : ℕ) (w : Writing) (r : Reading) : Type 0 where
  pub full : end_words.LacksRoom size w r
  pub reader : r.hung_up ≡ false

-- Nothing is in between, and no Close was put.
pub record IsBare (w : Writing) (r : Reading) : Type 0 where
  pub bare : items_taken r ≡ items_put w
  pub unclosed : is_closed w ≡ false

-- the events of a writing end: its puts, and the hang-up that it noted
abbrev pub events_of_writing : Writing → ℕ
events_of_writing w = length (items_put w) + (if w.noted then 1 else 0)

-- the events of a reading end: its takes, and its hang-up
abbrev pub events_of_reading : Reading → ℕ
events_of_reading r = length (items_taken r) + (if r.hung_up then 1 else 0)
