-- What a source and a sink keep, each over its own pipe end alone.
--
-- A source passes on what its reads return, and closes its pipe once a read returned the end
-- (POSIX.1-2017 XSH read); it stops if nobody reads its pipe (XSH write, EPIPE). A sink writes what
-- it takes; a write may take fewer bytes than it was given, and the rest is written after them (XSH
-- write).
use Rattle.std.specs.Prelude.{◌≡◌, ℕ, length, Bool, true, false, not, ◌||◌, ◌&&◌, List, [], ◌++◌}
use Rattle.std.specs.Prelude.{Option, Some, None, is_some, if◌then◌else◌}
use mathlib.Core.List.{IsPrefix}
use Rattle.machine.specs.Pieces.{IsPieceLong}
use Rattle.machine.specs.Items.{IsTidy}
use Rattle.bounded_pipe.specs.Ends.{Writing, Reading}
use Rattle.bounded_pipe.specs.Pipes.{items_put, bytes_put, bytes_taken, is_closed, is_at_end}
use Rattle.run_types.specs.declared.node_state.NodeState.{NodeState}
use Rattle.run_types.specs.declared.node_state.NodeState.TheVariants.{Running, Ended, Broken}
use Rattle.run_types.specs.declared.node_state.NodeState.TheVariants.{Failed}

-- a source, without its pipe end
pub record SourcePart : Type 0 where
  pub state : NodeState
  -- what its reads gave
  pub read : List ℕ
  -- whether a read gave the end
  pub at_end : Bool
  -- the piece that it holds and has still to put
  pub held : Option (List ℕ)

-- a sink, without its pipe end
pub record SinkPart : Type 0 where
  pub state : NodeState
  -- what it has taken and has still to write
  pub held : List ℕ
  -- what its writes took
  pub written : List ℕ

-- the bytes that a source holds
abbrev pub held_bytes : Option (List ℕ) → List ℕ
held_bytes None = []
held_bytes (Some piece) = piece

-- the number of bytes of the item that a source owes: the piece that it holds, otherwise Close,
-- which has none
abbrev pub held_size : Option (List ℕ) → ℕ
held_size held = length (held_bytes held)

-- a piece that is held has 1 to block bytes
abbrev pub IsHeldLong : ℕ → Option (List ℕ) → Type 0
IsHeldLong block None = Unit {0}
IsHeldLong block (Some piece) = IsPieceLong block piece

-- The bytes that were put, then those held, are the bytes that were read. Close was put only if
-- nothing is held and the end was read, or the source has nothing to read; it then has read
-- nothing.
pub record SourceKeeps (block : ℕ) (nothing : Bool) (x : SourcePart) (w : Writing) : Type 0 where
  pub bytes : bytes_put w ++ held_bytes x.held ≡ x.read
  pub unread : nothing ≡ true → x.read ≡ []
  pub close : is_closed w ≡ true → (x.held ≡ None) × ((x.at_end || nothing) ≡ true)
  pub held : IsHeldLong block x.held
  pub tidy : IsTidy block (items_put w)

-- A failed source: the bytes that were put are a prefix of those read, and Close was not put.
pub record SourceFailed (block : ℕ) (nothing : Bool) (x : SourcePart) (w : Writing) : Type 0 where
  pub bytes : IsPrefix (bytes_put w) x.read
  pub unread : nothing ≡ true → x.read ≡ []
  pub unclosed : is_closed w ≡ false
  pub tidy : IsTidy block (items_put w)

-- The case of a source in this state; `nothing` says that it is empty or missing. It has ended if
-- Close was put, and broken if it noted that its reader has hung up.
abbrev pub SourceCase : ℕ → Bool → SourcePart → NodeState → Writing → Type 0
SourceCase block nothing x Running w = SourceKeeps block nothing x w
SourceCase block nothing x Ended w = SourceKeeps block nothing x w × (is_closed w ≡ true)
SourceCase block nothing x Broken w = SourceKeeps block nothing x w × (w.noted ≡ true)
SourceCase block nothing x (Failed fault) w = SourceFailed block nothing x w

-- The bytes that were written, then those held, are the bytes that were taken; and a sink never
-- hangs up.
pub record SinkKeeps (x : SinkPart) (r : Reading) : Type 0 where
  pub bytes : x.written ++ x.held ≡ bytes_taken r
  pub stays : r.hung_up ≡ false

-- The case of a sink in this state. It has ended if it took Close and wrote all; it never breaks;
-- and if it failed, what was written is a prefix of what was taken, and it has nothing to write.
abbrev pub SinkCase : SinkPart → NodeState → Reading → Type 0
SinkCase x Running r = SinkKeeps x r
SinkCase x Ended r = SinkKeeps x r × (is_at_end r ≡ true) × (x.held ≡ [])
SinkCase x Broken r = ⊥
SinkCase x (Failed fault) r = IsPrefix x.written (bytes_taken r) × (x.held ≡ [])

-- whether a source owes an item: the piece that it holds, or Close once the end was read or if
-- there is nothing to read
abbrev pub source_owes : Bool → SourcePart → Writing → Bool
source_owes nothing x w = is_some x.held || ((x.at_end || nothing) && not (is_closed w))

-- the number of bytes of the item that a source owes, if it owes one
abbrev pub source_owed : Bool → SourcePart → Writing → Option ℕ
source_owed nothing x w = if source_owes nothing x w then Some (held_size x.held) else None
