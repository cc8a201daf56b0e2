-- A node of a network with its own pipe ends, a look at one pipe from both sides, and the state of
-- a node.
use Rattle.std.specs.Prelude.{◌≡◌, ◌≢◌, ℕ, zero, suc, ◌<◌, List, [], ◌∷◌, length, slice_set}
use Rattle.std.specs.Prelude.{slice_index_or, Option, Some, None, option_map, false}
use Rattle.bounded_pipe.specs.Ends.{Writing, Reading, AreEnds, Beside}
use Rattle.bounded_pipe.specs.Events.{SameWriting, SameReading, StillWriting, StillReading}
use Rattle.bounded_pipe.specs.Names.{RingName, PipeName}
use Rattle.collector.specs.declared.fault.RunFault.{RunFault}
use Rattle.collector.specs.declared.fault.RunFault.TheVariants as named
use Rattle.run_types.specs.declared.node_state.NodeFault.TheVariants as node
use Rattle.run_types.specs.declared.node_state.NodeState.{NodeState}
use Rattle.run_types.specs.declared.node_state.NodeState.TheVariants.{Running, Failed}
use denote.RawPtr.{null_ptr}
use Rattle.network_nodes.specs.declared.actor.Actor.{Actor}
use Rattle.network_nodes.specs.declared.actor.Actor.TheVariants as an
use Rattle.network_nodes.specs.declared.actor.Link.{Link}

-- the two ends of no pipe: what a look-up finds if there is nothing to be found
abbrev pub no_ring : RingName
no_ring = record { words = null_ptr; slots = null_ptr; names = (0, (0, 0)) }

abbrev pub no_pipe : PipeName
no_pipe = record { items = no_ring; marks = no_ring; numbers = no_ring; before = [] }

abbrev pub no_writing : Writing
no_writing =
    record {
      pipe = no_pipe;
      capacity = 0;
      limit = 0;
      put = [];
      free = 0;
      noted = false;
      pending = 0;
      count = 0;
      heard = 0;
    }

abbrev pub no_reading : Reading
no_reading =
    record {
      pipe = no_pipe;
      taken = [];
      known = [];
      hung_up = false;
      untold = 0;
      told = 0;
    }

module _ {M : Type 0} where
  -- the ends with which a node writes and reads, and the numbers of their pipes
  abbrev pub outs_of : Actor M → List Writing
  outs_of (an.Source x) = x.end ∷ []
  outs_of (an.Stage t) = t.outlet.ends
  outs_of (an.Sink y) = []
  outs_of an.Lent = []

  abbrev pub ins_of : Actor M → List Reading
  ins_of (an.Source x) = []
  ins_of (an.Stage t) = t.inlet.ends
  ins_of (an.Sink y) = y.end ∷ []
  ins_of an.Lent = []

  abbrev pub out_pipes : Actor M → List ℕ
  out_pipes (an.Source x) = x.pipe ∷ []
  out_pipes (an.Stage t) = t.outlet.pipes
  out_pipes (an.Sink y) = []
  out_pipes an.Lent = []

  abbrev pub in_pipes : Actor M → List ℕ
  in_pipes (an.Source x) = []
  in_pipes (an.Stage t) = t.inlet.pipes
  in_pipes (an.Sink y) = y.pipe ∷ []
  in_pipes an.Lent = []

  -- the node with this end in the place of its branch k, or of its input k
  abbrev pub with_out : Actor M → ℕ → Writing → Actor M
  with_out (an.Source x) zero w = an.Source (record x { end = w })
  with_out (an.Source x) (suc k) w = an.Source x
  with_out (an.Stage t) k w =
      an.Stage (record t { outlet = record t.outlet { ends = slice_set t.outlet.ends k w } })
  with_out (an.Sink y) k w = an.Sink y
  with_out an.Lent k w = an.Lent

  abbrev pub with_in : Actor M → ℕ → Reading → Actor M
  with_in (an.Source x) k r = an.Source x
  with_in (an.Stage t) k r =
      an.Stage (record t { inlet = record t.inlet { ends = slice_set t.inlet.ends k r } })
  with_in (an.Sink y) zero r = an.Sink (record y { end = r })
  with_in (an.Sink y) (suc k) r = an.Sink y
  with_in an.Lent k r = an.Lent

  -- the end with this place among a node's own
  abbrev pub out_end : Actor M → ℕ → Writing
  out_end a k = slice_index_or (outs_of a) k no_writing

  abbrev pub in_end : Actor M → ℕ → Reading
  in_end a k = slice_index_or (ins_of a) k no_reading

  -- the end of the branch k, or of the input k, changed like this, and all else is as it was
  pub record ChangesOut (W : Writing → Writing → Type 0) (k : ℕ) (old new : Actor M) : Type 0 where
    pub end : Writing
    pub changes : W (out_end old k) end
    pub only : new ≡ with_out old k end

  pub record ChangesIn (R : Reading → Reading → Type 0) (k : ℕ) (old new : Actor M) : Type 0 where
    pub end : Reading
    pub changes : R (in_end old k) end
    pub only : new ≡ with_in old k end

  -- the node with this number
  abbrev pub actor_at : List (Actor M) → ℕ → Actor M
  actor_at nodes k = slice_index_or nodes k an.Lent

  -- the two ends of a pipe
  abbrev pub out_at : List (Actor M) → Link → Writing
  out_at nodes l = out_end (actor_at nodes l.writer) l.branch

  abbrev pub in_at : List (Actor M) → Link → Reading
  in_at nodes l = in_end (actor_at nodes l.reader) l.input

  -- Both ends of a pipe are in their places, its writer's before its reader's.
  pub record HasEnds (l : Link) (nodes : List (Actor M)) : Type 0 where
    pub order : l.writer < l.reader
    pub within : l.reader < length nodes
    pub branch : l.branch < length (outs_of (actor_at nodes l.writer))
    pub input : l.input < length (ins_of (actor_at nodes l.reader))
    pub ends : AreEnds (out_at nodes l) (in_at nodes l)

  -- Both ends of a pipe changed like this, and each sees all that the other did. All else is as it
  -- was.
  pub record ChangesAt (W : Writing → Writing → Type 0) (R : Reading → Reading → Type 0)
      (l : Link) (old new : List (Actor M)) : Type 0 where
    pub writer : Actor M
    pub reader : Actor M
    pub out : ChangesOut W l.branch (actor_at old l.writer) writer
    pub in_ : ChangesIn R l.input (actor_at old l.reader) reader
    pub only : new ≡ slice_set (slice_set old l.writer writer) l.reader reader
    pub beside : Beside (out_end writer l.branch) (in_end reader l.input)

  -- a look at a pipe
  abbrev pub LooksAt : Link → List (Actor M) → List (Actor M) → Type 0
  LooksAt l old new = ChangesAt SameWriting SameReading l old new

  -- The pipe has new rings with room for this many items.
  abbrev pub GrowsAt : ℕ → Link → List (Actor M) → List (Actor M) → Type 0
  GrowsAt capacity l old new = (c : ChangesAt StillWriting StillReading l old new)
      × ((out_end c.writer l.branch).capacity ≡ capacity)

  -- the state of a node
  abbrev pub node_state_at : Actor M → NodeState
  node_state_at (an.Source x) = x.state
  node_state_at (an.Stage t) = t.state
  node_state_at (an.Sink y) = y.state
  node_state_at an.Lent = Running

  -- The fault that a node may have for its file: of a read of a source's, or a write of a sink's.
  abbrev pub file_fault : Actor M → Option RunFault
  file_fault (an.Source x) = option_map (λ name. named.ReadFault name) x.name
  file_fault (an.Stage t) = None
  file_fault (an.Sink y) = Some (named.WriteFault y.name)
  file_fault an.Lent = None

  -- This is why the node k has failed: a read or a write of its file, a count, or a want of memory.
  -- A sink never lacks memory, and a stage that has failed does unless it did so for a count.
  abbrev pub IsFaultAt : ℕ → Actor M → RunFault → Type 0
  IsFaultAt k (an.Source x) (named.ReadFault name) = (x.state ≡ Failed node.ReadFault)
      × (x.name ≡ Some name)
  IsFaultAt k (an.Sink y) (named.WriteFault name) = (y.state ≡ Failed node.WriteFault)
      × (y.name ≡ name)
  IsFaultAt k (an.Stage t) (named.CountTooLarge n) = (t.state ≡ Failed node.CountTooLarge) × (n ≡ k)
  IsFaultAt k (an.Source x) named.NoMemory = x.state ≡ Failed node.NoMemory
  IsFaultAt k (an.Stage t) named.NoMemory = t.state ≢ Failed node.CountTooLarge
  IsFaultAt k a fault = ⊥
