-- Making the nodes of a network: all its pipes are made first, and then each node takes its own
-- ends.
--
-- A shell makes the pipes of a pipeline, and gives each command its own ends (POSIX.1-2017 XCU
-- 2.9.2; XSH pipe; pipe(7)).
use Rattle.std.specs.Prelude.{◌≡◌, ℕ, ◌<◌, ◌≤◌, ◌⊎◌, List, [], ◌∷◌, length}
use Rattle.std.specs.Prelude.{Option, Some, None, slice_get, slice_index, slice_index_or, false}
use Rattle.std.specs.Prelude.{option_map, Contains}
use Rattle.std.specs.List.{AllByRecursion}
use Rattle.machine.specs.Law.{Shown, IsNew as IsNewMachine}
use Rattle.machine.specs.Whole.{inputs_of, WholeAnswer}
use Rattle.machine.specs.declared.protocol.Presence.{Presence}
use Rattle.bounded_pipe.specs.Ends.{Writing, Reading, Beside}
use Rattle.collector.specs.Files.{nothing_read, nothing_written}
use Rattle.collector.specs.Nodes.{SourceFits, SinkFits, IsUnended}
use Rattle.run_types.specs.declared.node_state.NodeState.TheVariants as state
use Rattle.stages.specs.Inlets.{IsNewInlet}
use Rattle.stages.specs.Outlets.{IsNewOutlet}
use Rattle.stages.specs.inner.Steps.{InCase}
use Rattle.graphs.specs.Graph.{present, AreDistinct, IsAmong, AreAll}
use Rattle.network_nodes.specs.declared.actor.Actor.{Actor}
use Rattle.network_nodes.specs.declared.actor.Actor.TheVariants as an
use Rattle.network_nodes.specs.declared.actor.Link.{Link}
use Rattle.network_nodes.specs.declared.making.NodeSpec.{NodeSpec}
use Rattle.network_nodes.specs.declared.making.NodeSpec.TheVariants as pl
use Rattle.network_nodes.specs.inner.Actors.{outs_of, ins_of, out_pipes, in_pipes, actor_at}

-- ---- the pipes of a node

-- the first of these alone
abbrev pub first : List ℕ → List ℕ
first [] = []
first (p ∷ pipes) = p ∷ []

module _ {M : Type 0} where
  -- the pipes that a node writes and reads, if these are all of its pipes by the table
  abbrev pub own_outs : NodeSpec M → List ℕ → List ℕ
  own_outs (pl.Source file) wire = first wire
  own_outs (pl.Stage machine inputs branches) wire = present branches.items
  own_outs (pl.Sink file name) wire = []

  abbrev pub own_ins : NodeSpec M → List ℕ → List ℕ
  own_ins (pl.Source file) wire = []
  own_ins (pl.Stage machine inputs branches) wire = inputs.items
  own_ins (pl.Sink file name) wire = first wire

  -- what is asked of the pipes of one node
  abbrev pub IsReady : (M → Shown) → NodeSpec M → List ℕ → List ℕ → Type 0
  IsReady shows (pl.Source file) outs ins = (length outs ≡ 1) × (length ins ≡ 0)
  IsReady shows (pl.Stage machine inputs branches) outs ins = (0 < length ins)
      × ((shows machine).inputs ≡ length ins) × (length outs ≤ 33)
  IsReady shows (pl.Sink file name) outs ins = (length outs ≡ 0) × (length ins ≡ 1)

  -- ---- a new node

  -- the node was made of this one of the plan, and has done nothing
  abbrev pub IsNewActor : (M → Shown) → ℕ → NodeSpec M → Actor M → Type 0
  IsNewActor shows block (pl.Source file) (an.Source x) =
      (x.file ≡ option_map (λ f. f.0) file) × (x.name ≡ option_map (λ f. f.1) file)
      × SourceFits nothing_read x
      × (x.block ≡ block) × (x.state ≡ state.Running) × (x.at_end ≡ false) × (x.held ≡ None)
  IsNewActor shows block (pl.Stage machine inputs branches) (an.Stage t) =
      (t.machine ≡ machine) × (t.state ≡ state.Running) × (t.outlet.block ≡ block)
      × IsNewInlet t.inlet × IsNewOutlet t.outlet
      × ((whole : WholeAnswer) (presence : List Presence) →
      IsNewMachine (shows machine) whole presence
      → InCase shows (λ ys. whole (inputs_of presence ys)) t)
  IsNewActor shows block (pl.Sink file name) (an.Sink y) = (y.file ≡ file) × (y.name ≡ name)
      × SinkFits nothing_written y × IsUnended y × (y.state ≡ state.Running)
  IsNewActor shows block _ _ = ⊥

  -- a new node with these ends
  pub record IsActorOf (shows : M → Shown) (block : ℕ) (node : NodeSpec M) (outs ins : List ℕ)
      (writing : List Writing) (reading : List Reading) (a : Actor M) : Type 0 where
    pub outs_are : out_pipes a ≡ outs
    pub ins_are : in_pipes a ≡ ins
    pub writing_is : outs_of a ≡ writing
    pub reading_is : ins_of a ≡ reading
    pub new : IsNewActor shows block node a

-- ---- ends that wait for their nodes

-- a new pipe waits in the two tables at p
pub record IsOpened (capacity limit : ℕ) (writers : List (Option Writing))
    (readers : List (Option Reading)) (p : ℕ) : Type 0 where
  pub writing : Writing
  pub reading : Reading
  pub out : slice_get writers p ≡ Some (Some writing)
  pub in_ : slice_get readers p ≡ Some (Some reading)
  pub beside : Beside writing reading
  pub put : writing.put ≡ []
  pub noted : writing.noted ≡ false
  pub capacity_is : writing.capacity ≡ capacity
  pub limit_is : writing.limit ≡ limit
  pub taken : reading.taken ≡ []
  pub hung_up : reading.hung_up ≡ false

-- new pipes, this many
pub record AreOpened (count capacity limit : ℕ) (writers : List (Option Writing))
    (readers : List (Option Reading)) : Type 0 where
  pub outs : length writers ≡ count
  pub ins : length readers ≡ count
  pub each : (p : ℕ) → p < count → IsOpened capacity limit writers readers p

-- an end waits at each of these places
abbrev pub AreThere : {T : Type 0} → List (Option T) → List ℕ → Type 0
AreThere {T} slots pipes = (p : ℕ) → IsAmong p pipes → (e : T) × (slice_get slots p ≡ Some (Some e))

-- each end that waits at one of these places has this property
abbrev pub AreEach : {T : Type 0} → (T → Type 0) → List (Option T) → List ℕ → Type 0
AreEach {T} P slots pipes = (p : ℕ) (e : T) → IsAmong p pipes → slice_get slots p ≡ Some (Some e)
    → P e

-- this many new pipes, each with the same capacity and limit in bytes
pub record AreWaiting (count : ℕ) (writers : List (Option Writing))
    (readers : List (Option Reading)) : Type 0 where
  pub capacity : ℕ
  pub limit : ℕ
  pub opened : AreOpened count capacity limit writers readers

-- these ends were waiting at these places, in this order
pub record TakesEnds {T : Type 0} (slots : List (Option T)) (pipes : List ℕ) (ends : List T) : Type
    0 where
  pub count : length ends ≡ length pipes
  pub each : (i : ℕ) → i < length pipes
      → slice_get slots (slice_index pipes i) ≡ Some (slice_get ends i)

-- all but these places are as they were
pub record LeavesOthers {T : Type 0} (pipes : List ℕ) (old new : List T) : Type 0 where
  pub count : length new ≡ length old
  pub others : (p : ℕ) → (IsAmong p pipes → ⊥) → slice_get new p ≡ slice_get old p

-- ---- places and wires

-- for each of these pipes its place among them
abbrev pub ArePlaces : List ℕ → List ℕ → Type 0
ArePlaces pipes places = (p : ℕ) → IsAmong p pipes → slice_get pipes (slice_index places p) ≡ Some p

-- the writer and the reader of a pipe, by the table
abbrev pub writer_in : List (ℕ × ℕ) → ℕ → ℕ
writer_in pipes p = (slice_index_or pipes p (0, 0)).0

abbrev pub reader_in : List (ℕ × ℕ) → ℕ → ℕ
reader_in pipes p = (slice_index_or pipes p (0, 0)).1

-- One side of a node that is to be made, its branches or its inputs. These are the numbers of its
-- own pipes.
pub record IsSideReady {T : Type 0} (IsUnused : T
    → Type 0) (pipes : List ℕ) (slots : List (Option T))
    (places : List ℕ) : Type 0 where
  -- an end waits for each of them, which was not used
  pub there : AreThere slots pipes
  pub unused : AreEach IsUnused slots pipes
  -- none of them is there twice
  pub once : AreDistinct pipes
  -- the table of places has room for each
  pub within : AllByRecursion (λ p. p < length places) pipes

-- The same side once the node was made.
pub record IsSideTaken {T : Type 0} (pipes : List ℕ) (slots later : List (Option T))
    (places noted : List ℕ)
    : Type 0 where
  -- no other end was taken
  pub taken : LeavesOthers pipes slots later
  -- the place of each pipe was noted, and no other
  pub placed : ArePlaces pipes noted
  pub others : LeavesOthers pipes places noted

-- The pipes of a node, by the node's number.
abbrev pub wires_at : List (List ℕ) → ℕ → List ℕ
wires_at wires k = slice_index_or wires k []

-- each node's list has just the pipes that it writes or reads
pub record AreWiresOf (count : ℕ) (pipes : List (ℕ × ℕ)) (wires : List (List ℕ)) : Type 0 where
  pub lists : length wires ≡ count
  pub all : (p : ℕ) → p < length pipes →
      Contains (wires_at wires (writer_in pipes p)) p
      × Contains (wires_at wires (reader_in pipes p)) p
  pub only : (k i p : ℕ) → slice_get (wires_at wires k) i ≡ Some p →
      (p < length pipes) × ((writer_in pipes p ≡ k) ⊎ (reader_in pipes p ≡ k))

-- the link of each pipe
abbrev pub link_of : List (ℕ × ℕ) → List ℕ → List ℕ → ℕ → Link
link_of pipes branches inputs p = record {
  writer = writer_in pipes p;
  branch = slice_index branches p;
  reader = reader_in pipes p;
  input = slice_index inputs p;
}

-- each pipe has its link
pub record AreLinks (pipes : List (ℕ
    × ℕ)) (branches inputs : List ℕ) (links : List Link) : Type 0 where
  pub count : length links ≡ length pipes
  pub each : (p : ℕ) → p < length pipes → slice_get links p ≡ Some (link_of pipes branches inputs p)

-- ---- all nodes

module _ {M : Type 0} where
  -- the own pipes of a node, if there is one
  abbrev pub outs_by : Option (NodeSpec M) → List ℕ → List ℕ
  outs_by None wire = []
  outs_by (Some node) wire = own_outs node wire

  abbrev pub ins_by : Option (NodeSpec M) → List ℕ → List ℕ
  ins_by None wire = []
  ins_by (Some node) wire = own_ins node wire

  -- the own pipes of the node k of the plan
  abbrev pub outs_at : List (NodeSpec M) → List (List ℕ) → ℕ → List ℕ
  outs_at nodes wires k = outs_by (slice_get nodes k) (wires_at wires k)

  abbrev pub ins_at : List (NodeSpec M) → List (List ℕ) → ℕ → List ℕ
  ins_at nodes wires k = ins_by (slice_get nodes k) (wires_at wires k)

  -- a new node with its ends, which waited in these tables
  pub record IsMade (shows : M → Shown) (block : ℕ) (node : NodeSpec M) (outs ins : List ℕ)
      (writers : List (Option Writing)) (readers : List (Option Reading)) (a : Actor M) : Type 0
    where
      pub outs_are : out_pipes a ≡ outs
      pub ins_are : in_pipes a ≡ ins
      pub writing : TakesEnds writers outs (outs_of a)
      pub reading : TakesEnds readers ins (ins_of a)
      pub new : IsNewActor shows block node a

  -- the pipes of each node are all of its own, each once, and it can be made
  pub record AreOwned (shows : M
      → Shown) (nodes : List (NodeSpec M)) (pipes : List (ℕ
      × ℕ)) (wires : List (List ℕ)) : Type 0 where
    pub lists : length wires ≡ length nodes
    pub ready : (k : ℕ) (node : NodeSpec M) → slice_get nodes k ≡ Some node →
        IsReady shows node (own_outs node (wires_at wires k)) (own_ins node (wires_at wires k))
    pub outs : (k : ℕ) (node : NodeSpec M) → slice_get nodes k ≡ Some node →
        AreAll (λ p. (p < length pipes)
        × (writer_in pipes p ≡ k)) (own_outs node (wires_at wires k))
    pub ins : (k : ℕ) (node : NodeSpec M) → slice_get nodes k ≡ Some node →
        AreAll (λ p. (p < length pipes) × (reader_in pipes p ≡ k)) (own_ins node (wires_at wires k))
    pub within : (p : ℕ) → p < length pipes
        → (writer_in pipes p < length nodes) × (reader_in pipes p < length nodes)

  -- each node of the plan was made
  pub record AreMade (shows : M
      → Shown) (block : ℕ) (nodes : List (NodeSpec M)) (pipes : List (ℕ
      × ℕ)) (wires : List (List ℕ))
      (writers : List (Option Writing)) (readers : List (Option Reading)) (branches inputs : List ℕ)
      (actors : List (Actor M)) : Type 0 where
    pub count : length actors ≡ length nodes
    pub made : (k : ℕ) (node : NodeSpec M) → slice_get nodes k ≡ Some node →
        IsMade shows block node (own_outs node (wires_at wires k))
        (own_ins node (wires_at wires k)) writers readers
        (actor_at actors k)
    pub out_places : (p : ℕ) → p < length pipes
        → slice_get (outs_at nodes wires (writer_in pipes p)) (slice_index branches p) ≡ Some p
    pub in_places : (p : ℕ) → p < length pipes
        → slice_get (ins_at nodes wires (reader_in pipes p)) (slice_index inputs p) ≡ Some p

  -- and these are the links of its pipes
  pub record AreLinked (shows : M
      → Shown) (block : ℕ) (nodes : List (NodeSpec M)) (pipes : List (ℕ
      × ℕ)) (wires : List (List ℕ))
      (writers : List (Option Writing)) (readers : List (Option Reading)) (actors : List (Actor M))
      (links : List Link)
      : Type 0 where
    pub branches : List ℕ
    pub inputs : List ℕ
    pub made : AreMade shows block nodes pipes wires writers readers branches inputs actors
    pub links_are : AreLinks pipes branches inputs links
