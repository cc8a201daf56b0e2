-- Stages that are lent out of their network: what a group of them is, what a turn of it leaves, and
-- what goes on in the network while groups are out.
--
-- The commands of a pipeline run at the same time (POSIX.1-2017 XCU 2.9.2, Pipelines): while a
-- stage steps elsewhere with its own pipe ends, other nodes step. A network whose stages are out is
-- spoken of by the network that it is with every group put back.
use Rattle.std.specs.Prelude.{◌≡◌, ◌≢◌, ℕ, ◌<◌, ◌≤◌, List, [], ◌∷◌, length, count_by}
use Rattle.std.specs.Prelude.{Option, Some, slice_get, slice_set}
use Rattle.std.specs.List.{AllZip, AllByRecursion}
use Rattle.machine.specs.Law.{Shown}
use Rattle.machine.specs.Whole.{StreamAnswer}
use Rattle.bounded_pipe.specs.Ends.{WritesOn, ReadsOn}
use Rattle.collector.specs.Files.{FilesShown}
use Rattle.stages.specs.inner.Staged.{Staged}
use Rattle.stages.specs.inner.Steps.{InCase}
use Rattle.stages.specs.Inlets.{ReadsGoOn}
use Rattle.stages.specs.Outlets.{WritesGoOn}
use Rattle.run_types.specs.declared.node_state.NodeState.TheVariants.{Running}
use Rattle.run_types.specs.declared.step.Step.{Step}
use Rattle.graphs.specs.Graph.{GraphNode, IsPlan, node_at, IsAmong, AreDistinct}
use Rattle.network_laws.specs.State.{Setup}
use Rattle.run_types.specs.Steps.{is_moved}
use Rattle.network_nodes.specs.declared.actor.Actor.{Actor}
use Rattle.network_nodes.specs.declared.actor.Actor.TheVariants as an
use Rattle.network_nodes.specs.declared.actor.Link.{Link}
use Rattle.network_nodes.specs.inner.Actors.{outs_of, ins_of, out_end, in_end, out_at, actor_at}
use Rattle.network_nodes.specs.inner.Actors.{node_state_at}
use Rattle.networks.specs.Networks.{Networked, IsHere, HasFile, HasOpened, FitsAt, AreWired}
use Rattle.networks.specs.Networks.{AreEndsOf, AreBeside, HasWires, HasRooms, AreApart, IsOf}
use Rattle.networks.specs.Networks.{SameActor, TouchesNodes, setup_status}
use Rattle.networks.specs.inner.Steps.{Sees, Acts}
use Rattle.stages.specs.inner.Steps.{StageActs}
use Rattle.networks.specs.Turns.{Reaches, FaultsAreTrue, AnyFailed}
use Rattle.lending.specs.declared.apart.Flow.{Flow}
use Rattle.lending.specs.declared.apart.Flow.TheVariants.{Failed}

-- the places of the stages of a group in their network, and the stages, in the same order
pub record Grouped (M : Type 0) : Type 0 where
  pub places : List ℕ
  pub stages : List (Staged M)

-- No place is in these lists twice.
abbrev pub AreSeparate : List (List ℕ) → Type 0
AreSeparate [] = Unit {0}
AreSeparate (places ∷ rest) = AreDistinct places
    × AllByRecursion (AllByRecursion (λ p. IsAmong p places → ⊥)) rest × AreSeparate rest

module _ {M : Type 0} where
  -- ---- a group

  -- The same stage after steps: its ends go on from their own records, it keeps its case, and if it
  -- did not run, nothing changed.
  pub record GoesOn (shows : M → Shown) (old new : Staged M) : Type 0 where
    pub reads : ReadsGoOn old.inlet new.inlet
    pub writes : WritesGoOn old.outlet new.outlet
    pub case : (answer : StreamAnswer) → InCase shows answer old → InCase shows answer new
    pub stays : old.state ≢ Running → new ≡ old

  -- the same stages in the same order, each of which goes on
  pub record GroupGoesOn (shows : M → Shown) (old new : Grouped M) : Type 0 where
    pub places : new.places ≡ old.places
    pub stages : AllZip (GoesOn shows) old.stages new.stages

  -- each of these stages made one step, with these results
  abbrev pub EachActs : (M → Shown) → List (Staged M) → List (Staged M) → List Step → Type 0
  EachActs shows [] [] [] = Unit {0}
  EachActs shows (t ∷ old) (u ∷ new) (step ∷ answers) = StageActs shows t u step
      × EachActs shows old new answers
  EachActs shows old new answers = ⊥

  -- each of these stages made one step, and this many of the steps moved something
  pub record StepsEach (shows : M → Shown) (old new : List (Staged M)) (moved : ℕ) : Type 0 where
    pub answers : List Step
    pub each : EachActs shows old new answers
    pub moved_are : moved ≡ count_by is_moved answers

  -- A turn of a group: each of its stages made one step, and this many of the steps moved
  -- something.
  pub record Turned (shows : M → Shown) (old new : Grouped M) (moved : ℕ) : Type 0 where
    pub places : new.places ≡ old.places
    pub steps : StepsEach shows old.stages new.stages moved

  -- ---- a network of which groups are out

  -- the node with this number is a stage; its place is free
  abbrev pub IsStageAt : List (Actor M) → ℕ → Type 0
  IsStageAt nodes k = (t : Staged M) × (actor_at nodes k ≡ an.Stage t)

  abbrev pub IsFree : List (Actor M) → ℕ → Type 0
  IsFree nodes k = (k < length nodes) × (actor_at nodes k ≡ an.Lent)

  -- each place of these groups is free
  abbrev pub AreOut : List (Actor M) → List (Grouped M) → Type 0
  AreOut nodes groups = AllByRecursion (λ g. AllByRecursion (IsFree nodes) g.places) groups

  -- the nodes with these stages in these places; of two for one place the first
  abbrev pub put_all : List ℕ → List (Staged M) → List (Actor M) → List (Actor M)
  put_all [] stages nodes = nodes
  put_all (k ∷ places) [] nodes = nodes
  put_all (k ∷ places) (t ∷ stages) nodes = slice_set (put_all places stages nodes) k (an.Stage t)

  -- the nodes with every stage of these groups in its place
  abbrev pub fill : List (Grouped M) → List (Actor M) → List (Actor M)
  fill [] nodes = nodes
  fill (g ∷ groups) nodes = put_all g.places g.stages (fill groups nodes)

  -- the network with other nodes
  abbrev pub with_nodes : Networked M → List (Actor M) → Networked M
  with_nodes n nodes =
      record {
        nodes = nodes;
        pipes = n.pipes;
        wires = n.wires;
        status = n.status;
        most = n.most;
      }

  -- the network with every group put back
  abbrev pub filled : Networked M → List (Grouped M) → Networked M
  filled n groups = with_nodes n (fill groups n.nodes)

  -- These stages were moved out: they are in the group in this order, their places are free, and
  -- with the group put back the network is the one that it was.
  pub record Lends (places : List ℕ) (g : Grouped M) (old new : Networked M) : Type 0 where
    pub places_are : g.places ≡ places
    pub free : AllByRecursion (IsFree new.nodes) places
    pub back : filled new (g ∷ []) ≡ old

  -- ---- what is so between two looks at all pipes

  -- A network whose tables fit its nodes and whose nodes are all there, no two of them with one
  -- file, while its pipes need not have been looked at.
  pub record IsWhole (n : Networked M) : Type 0 where
    pub wired : AreWired n.nodes n.pipes
    pub ends : AreEndsOf n.nodes n.pipes
    pub wires : HasWires n.pipes n.wires
    pub lists : length n.wires ≡ length n.nodes
    pub here : (k : ℕ) → k < length n.nodes → IsHere (actor_at n.nodes k)
    pub apart : AreApart n.nodes
    pub rooms : HasRooms n

  -- And it is that of the plan, each node in its case over its own ends.
  pub record IsSet (shows : M
      → Shown) (s : Setup) (n : Networked M) (files : FilesShown) : Type 0 where
    pub plan : IsPlan s.graph
    pub graph : IsOf s.graph n
    pub status : n.status ≡ setup_status s
    pub most : n.most ≡ s.most
    pub whole : IsWhole n
    pub limits : (p : ℕ) (l : Link) → slice_get n.pipes p ≡ Some l
        → (out_at n.nodes l).limit ≡ s.limit
    pub roomy : s.block ≤ s.limit
    pub fits : (k : ℕ) → k < length n.nodes
        → FitsAt shows s files k (node_at s.graph k) (actor_at n.nodes k)

  -- ---- what goes on meanwhile

  -- The same node after steps, its own or another's, while the files went on from `old` to `new`:
  -- it is what it was, its ends go on from their own records, its file stays open, it keeps its
  -- case, and if it does not run it stays in its state.
  pub record NodeGoesOn (shows : M
      → Shown) (old new : FilesShown) (a b : Actor M) : Type 0 where
    pub same : SameActor a b
    pub out_count : length (outs_of b) ≡ length (outs_of a)
    pub in_count : length (ins_of b) ≡ length (ins_of a)
    pub writes : (k : ℕ) → WritesOn (out_end a k) (out_end b k)
    pub reads : (k : ℕ) → ReadsOn (in_end a k) (in_end b k)
    pub here : IsHere a → IsHere b
    pub halted : node_state_at a ≢ Running → node_state_at b ≡ node_state_at a
    pub file : HasFile old a → HasFile new b
    pub fits : (s : Setup) (k : ℕ) (node : Option GraphNode)
        → FitsAt shows s old k node a → FitsAt shows s new k node b

  -- the same nodes after steps
  pub record NodesGoOn (shows : M
      → Shown) (old new : FilesShown) (before later : List (Actor M)) : Type 0 where
    pub count : length later ≡ length before
    pub nodes : (k : ℕ)
        → NodeGoesOn shows old new (actor_at before k) (actor_at later k)

  -- One step of the node k: it did this, and every other node is as it was.
  pub record StepsHere (shows : M
      → Shown) (k : ℕ) (nodes later : List (Actor M)) (old new : FilesShown) (step : Step) : Type 0
    where
      pub acts : Acts shows (actor_at nodes k) (actor_at later k) old new step
      pub others : (j : ℕ) → j ≢ k → actor_at later j ≡ actor_at nodes j

  -- Some nodes that are here stepped, whatever groups are out meanwhile. A place that was free is
  -- free. With any groups put back the nodes go on from those that they were. Each open file stays
  -- open, and no file was touched but those of the nodes that are here. The counter of failures
  -- goes on, and has risen if a read or a write of a node failed.
  pub record StepsApart (shows : M
      → Shown) (old new : FilesShown) (nodes later : List (Actor M)) : Type 0 where
    pub out : (groups : List (Grouped M)) → AreOut nodes groups → AreOut later groups
    pub go_on : (groups : List (Grouped M)) → AreOut nodes groups → AreApart (fill groups nodes) →
        NodesGoOn shows old new (fill groups nodes) (fill groups later)
    pub opened : ((k : ℕ) → HasFile old (actor_at nodes k)) → (k : ℕ)
        → HasFile new (actor_at later k)
    pub same : (k : ℕ) → SameActor (actor_at nodes k) (actor_at later k)
    pub touches : TouchesNodes nodes old new
    pub counts : (before : ℕ) → Reaches before old.failures →
        Reaches before new.failures
        × (FaultsAreTrue before old.failures nodes → FaultsAreTrue before new.failures later)

  -- Sources and sinks stepped, while stages may be out: the tables stay, and each open file stays
  -- open.
  pub record RunsFiles (shows : M
      → Shown) (old new : FilesShown) (n m : Networked M) : Type 0 where
    pub steps : StepsApart shows old new n.nodes m.nodes
    pub tables : m ≡ with_nodes n m.nodes
    pub opened : HasOpened m new

  -- Rounds of what is here came to this.
  pub record RunsHere (shows : M
      → Shown) (old new : FilesShown) (n m : Networked M) (flow : Flow) : Type 0 where
    pub runs : RunsFiles shows old new n m
    -- no read and no write has failed, or a node has failed
    pub sound : flow ≢ Failed → new.failures ≡ old.failures
    pub failed : flow ≡ Failed → AnyFailed m

  -- All pipes were looked at from both sides: each end may have seen more. All else is as it was.
  pub record Settles (old new : Networked M) : Type 0 where
    pub only : new ≡ with_nodes old new.nodes
    pub sees : Sees old.pipes old.nodes new.nodes
    pub beside : AreBeside new.nodes new.pipes
