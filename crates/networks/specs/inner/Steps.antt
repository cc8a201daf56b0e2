-- What a look at a pipe, and a step of one node, leave of a network: the words of its private
-- functions.
--
-- A node reads and writes its own pipes and its own file alone (POSIX.1-2017 XCU 2.9.2, XSH read,
-- write; pipe(7)).
use Rattle.std.specs.Prelude.{◌≡◌, ℕ, ◌<◌, List, length, Option, Some, slice_get}
use Rattle.std.specs.Prelude.{slice_index, slice_set}
use Rattle.machine.specs.Law.{Shown}
use Rattle.bounded_pipe.specs.Ends.{Writing, Reading, Beside}
use Rattle.bounded_pipe.specs.Events.{SameWriting, SameReading, StillWriting, StillReading}
use Rattle.collector.specs.Files.{FilesShown}
use Rattle.collector.specs.Nodes.{SourceActs, SinkActs}
use Rattle.run_types.specs.declared.step.Step.{Step}
use Rattle.stages.specs.inner.Steps.{StageActs}
use Rattle.graphs.specs.Graph.{GraphNode}
use Rattle.network_laws.specs.State.{Setup}
use Rattle.network_nodes.specs.declared.actor.Actor.{Actor}
use Rattle.network_nodes.specs.declared.actor.Actor.TheVariants as an
use Rattle.network_nodes.specs.declared.actor.Link.{Link}
use Rattle.network_nodes.specs.inner.Actors.{outs_of, ins_of, out_end, in_end, out_at, in_at}
use Rattle.network_nodes.specs.inner.Actors.{actor_at}
use Rattle.networks.specs.Networks.{Networked, FitsAt, HasFile, IsHere, SameActor, StepsNode}
use Rattle.networks.specs.Networks.{SaysTruly, StateSays, part_of}

module _ {M : Type 0} where
  -- ---- what a look leaves

  -- Each end of the node has changed as `W` or `R` says. All else is as it was.
  pub record StaysBy (W : Writing → Writing → Type 0) (R : Reading → Reading
      → Type 0) (old new : Actor M) : Type 0 where
    pub same : SameActor old new
    pub out_count : length (outs_of new) ≡ length (outs_of old)
    pub in_count : length (ins_of new) ≡ length (ins_of old)
    pub writing : (k : ℕ) → W (out_end old k) (out_end new k)
    pub reading : (k : ℕ) → R (in_end old k) (in_end new k)
    pub here : IsHere old → IsHere new
    pub file : (files : FilesShown) → HasFile files old → HasFile files new
    pub part_is : (shows : M → Shown) (files : FilesShown)
        → part_of shows files new ≡ part_of shows files old
    pub fits : (shows : M
        → Shown) (s : Setup) (files : FilesShown) (k : ℕ) (node : Option GraphNode) →
        FitsAt shows s files k node old → FitsAt shows s files k node new

  -- The node's ends may have seen more of what is at the other end. All else is as it was.
  abbrev pub SeesMore : Actor M → Actor M → Type 0
  SeesMore old new = StaysBy SameWriting SameReading old new

  -- The node's ends have recorded what they had recorded, though pipes may have new rings. All else
  -- is as it was.
  abbrev pub StandsStill : Actor M → Actor M → Type 0
  StandsStill old new = StaysBy StillWriting StillReading old new

  -- Each node saw more, and two ends that had met still agree.
  pub record Sees (pipes : List Link) (old new : List (Actor M)) : Type 0 where
    pub count : length new ≡ length old
    pub nodes : (k : ℕ) → SeesMore (actor_at old k) (actor_at new k)
    pub beside : (p : ℕ) (l : Link) → slice_get pipes p ≡ Some l
        → Beside (out_at old l) (in_at old l) → Beside (out_at new l) (in_at new l)

  -- Each of these pipes was looked at from both sides.
  pub record SeesEach (pipes : List Link) (wires : List ℕ) (old new : List (Actor M)) : Type 0 where
    pub sees : Sees pipes old new
    pub each : (i : ℕ) → i < length wires → (l : Link)
        → slice_get pipes (slice_index wires i) ≡ Some l → Beside (out_at new l) (in_at new l)

  -- ---- what a step of a node alone leaves

  -- A step of a node by itself, without a look at its pipes.
  abbrev pub Acts : (M → Shown) → Actor M → Actor M → FilesShown → FilesShown → Step → Type 0
  Acts shows (an.Source x) (an.Source z) old new step =
      SourceActs x z old new step
  Acts shows (an.Stage t) (an.Stage u) old new step = StageActs shows t u step
      × (new ≡ old)
  Acts shows (an.Sink y) (an.Sink z) old new step =
      SinkActs y z old new step
  Acts shows _ _ old new step = ⊥

  -- A step of the node k and a look at its pipes: the node did this, each node saw more, and the
  -- node's own pipes were looked at from both sides.
  pub record StepsAt (shows : M
      → Shown) (k : ℕ) (pipes : List Link) (wires : List ℕ)
      (nodes later : List (Actor M)) (old new : FilesShown) (step : Step) : Type 0 where
    pub actor : Actor M
    pub acts : Acts shows (actor_at nodes k) actor old new step
    pub sees : SeesEach pipes wires (slice_set nodes k actor) later

  -- ---- what a step in a network leaves

  -- A step of the node k of a network, with this result.
  pub record DoesStep (shows : M
      → Shown) (k : ℕ) (old : Networked M) (before : FilesShown)
      (new : Networked M) (after : FilesShown) (step : Step) : Type 0 where
    -- it is a step of that node in each graph with these tables
    pub step_is : StepsNode shows k old new before after
    -- if the network was right, the result means what it should
    pub says : SaysTruly shows k old new before after step
    -- the result says how the node is doing after it
    pub state : StateSays shows k new after step
