-- Streams and pieces.
--
-- A stream is a finite list of bytes. It passes from stage to stage in pieces, as bytes pass
-- through a pipe in the order in which they were written, with no message boundaries (POSIX.1-2017
-- XSH pipe, write; pipe(7)).
use Rattle.std.specs.Prelude.{◌≡◌, ℕ, ◌+◌, ◌*◌, ◌<◌, ◌≤◌, List, ◌++◌, length}
use Rattle.std.specs.List.{concat}

-- a piece has 1 to most bytes
abbrev pub IsPieceLong : ℕ → List ℕ → Type 0
IsPieceLong most piece = (1 ≤ length piece) × (length piece ≤ most)

-- a greatest length of pieces that may be asked for
abbrev pub IsBlock : ℕ → Type 0
IsBlock block = (1 ≤ block) × (block ≤ 65536)

-- a queue of pieces, oldest first, none longer than the block
pub record Queued : Type 0 where
  pub block : ℕ
  pub pieces : List (List ℕ)

-- the queue of these pieces
abbrev pub queued : ℕ → List (List ℕ) → Queued
queued block pieces = record { block = block; pieces = pieces }

-- the bytes of the pieces, in order
abbrev pub contents : Queued → List ℕ
contents q = concat q.pieces

-- Pieces were added after those that were there. Joined they are these bytes, and no fewer pieces
-- would hold them.
pub record Adds (old new : Queued) (bytes : List ℕ) : Type 0 where
  pub pieces : List (List ℕ)
  pub added : new.pieces ≡ old.pieces ++ pieces
  pub joined : concat pieces ≡ bytes
  pub fewest : length pieces * old.block < length bytes + old.block
  pub block : new.block ≡ old.block
