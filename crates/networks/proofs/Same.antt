-- What a network is from first to last: any run of steps and looks keeps it.
use Rattle.std.proofs.Common.{◌≡◌, refl, sym, subst, ◌∙◌, arith}
use Rattle.machine.specs.Law.{Shown}
use Rattle.collector.specs.Files.{FilesShown, SameFiles}
use Rattle.collector.specs.Nodes.{SourceShown, SinkShown, SourceSays, SinkSays, IsFailedSource}
use Rattle.run_types.specs.declared.node_state.NodeFault.TheVariants as faults
use Rattle.run_types.specs.declared.node_state.NodeState.{NodeState}
use Rattle.run_types.specs.declared.node_state.NodeState.TheVariants.{Failed}
use Rattle.run_types.specs.declared.step.Step.{Step}
use Rattle.run_types.specs.declared.step.Step.TheVariants as step
use Rattle.stages.specs.inner.Steps.{HasState}
use Rattle.network_laws.specs.State.{node_state_of}
use Rattle.network_nodes.specs.declared.actor.Actor.{Actor}
use Rattle.network_nodes.specs.declared.actor.Actor.TheVariants as an
use Rattle.network_nodes.specs.inner.Actors.{actor_at}
use Rattle.networks.specs.Networks.{Networked, SameActor, SameNetwork, GrownNetwork, TouchesOwn}
use Rattle.networks.specs.Networks.{part_of}
use Rattle.networks.specs.inner.Steps.{Acts}

-- a source that failed is in that state
failed_in_state : (s : NodeState) → IsFailedSource s → HasState s step.Failed
failed_in_state (Failed fault) f = (fault, refl)
failed_in_state _ f = absurd f

source_in_state : (x z : SourceShown) (v : Step) → SourceSays x z v → HasState z.state v
source_in_state x z step.Moved h = h.0
source_in_state x z (step.Waits p) h = h.running
source_in_state x z step.Ended h = h
source_in_state x z step.Broken h = h
source_in_state x z step.Failed h = failed_in_state z.state h

sink_in_state : (y z : SinkShown) (v : Step) → SinkSays y z v → HasState z.state v
sink_in_state y z step.Moved h = h.0
sink_in_state y z (step.Waits p) h = h.running
sink_in_state y z step.Ended h = h
sink_in_state y z step.Broken h = absurd h
sink_in_state y z step.Failed h = (faults.WriteFault, h)

module _ {M : Type 0} where
  pub same_actor_refl : (a : Actor M) → SameActor a a
  same_actor_refl a = refl

  pub same_actor_trans : (a b c : Actor M) → SameActor a b → SameActor b c → SameActor a c
  same_actor_trans a b c s t = t ∙ s

  pub same_refl : (n : Networked M) → SameNetwork n n
  same_refl n = record {
    pipes = refl;
    wires = refl;
    status = refl;
    most = refl;
    count =
        refl;
    nodes = λ k. same_actor_refl (actor_at n.nodes k);
    rooms = λ p. refl;
  }

  pub same_trans : (l m n : Networked M) → SameNetwork l m → SameNetwork m n → SameNetwork l n
  same_trans l m n s t = record {
    pipes = t.pipes ∙ s.pipes;
    wires = t.wires ∙ s.wires;
    status = t.status ∙ s.status;
    most = t.most ∙ s.most;
    count = t.count ∙ s.count;
    nodes = λ k. same_actor_trans (actor_at l.nodes k) (actor_at m.nodes k) (actor_at n.nodes k)
        (s.nodes k) (t.nodes k);
    rooms = λ p. t.rooms p ∙ s.rooms p;
  }

  -- the same of networks whose pipes may have grown
  pub grown_refl : (n : Networked M) → GrownNetwork n n
  grown_refl n = record {
    pipes = refl;
    wires = refl;
    status = refl;
    most = refl;
    count =
        refl;
    nodes = λ k. same_actor_refl (actor_at n.nodes k);
    rooms = λ p. omega arith;
  }

  pub grown_trans : (l m n : Networked M) → GrownNetwork l m → GrownNetwork m n → GrownNetwork l n
  grown_trans l m n s t = record {
    pipes = t.pipes ∙ s.pipes;
    wires = t.wires ∙ s.wires;
    status = t.status ∙ s.status;
    most = t.most ∙ s.most;
    count = t.count ∙ s.count;
    nodes = λ k. same_actor_trans (actor_at l.nodes k) (actor_at m.nodes k) (actor_at n.nodes k)
        (s.nodes k) (t.nodes k);
    rooms = λ p. let a = s.rooms p in let b = t.rooms p in omega (arith, a, b);
  }

  pub same_grown : (m n : Networked M) → SameNetwork m n → GrownNetwork m n
  same_grown m n s = record {
    pipes = s.pipes;
    wires = s.wires;
    status = s.status;
    most = s.most;
    count = s.count;
    nodes = s.nodes;
    rooms = λ p. let e = s.rooms p in omega (arith, e);
  }

  module _ (shows : M → Shown) (old new : FilesShown) (st : Step) where
    -- a step of a node leaves what it is
    pub acts_same : (a b : Actor M) → Acts shows a b old new st → SameActor a b
    acts_same (an.Source x) (an.Source z) h = let s = h.same in cc (s.pipe, s.file, s.name, s.block)
    acts_same (an.Stage t) (an.Stage u) h =
        let w = h.0.writes in
        let r = h.0.reads in
        cc (w.pipes, r.pipes, w.block)
    acts_same (an.Sink y) (an.Sink z) h = let s = h.same in cc (s.pipe, s.file, s.name)
    acts_same a b h = absurd h

    same_files : new ≡ old → SameFiles old new
    same_files e = subst (λ (f : FilesShown). SameFiles old f) (sym e)
        (record {
          openings = refl;
          inputs = λ file. refl;
          outputs = λ file. refl;
          contents =
              record {
                targets = λ file. refl;
                contents = λ d. refl;
                places =
                    record { held_back = refl; in_place = λ held name. refl };
              };
          held =
              record { standard_input = refl; held = λ file. refl; left_out = λ file. refl };
        })

    -- it touches its own file alone
    pub acts_own : (a b : Actor M) → Acts shows a b old new st → TouchesOwn a old new
    acts_own (an.Source x) (an.Source z) h = h.own
    acts_own (an.Stage t) (an.Stage u) h = same_files h.1
    acts_own (an.Sink y) (an.Sink z) h = h.own
    acts_own a b h = absurd h

    -- and its result says its state
    pub acts_in_state : (a b : Actor M) → Acts shows a b old new st
        → HasState (node_state_of (part_of shows new b)) st
    acts_in_state (an.Source x) (an.Source z) h = source_in_state x z st h.says
    acts_in_state (an.Stage t) (an.Stage u) h = h.0.state
    acts_in_state (an.Sink y) (an.Sink z) h = sink_in_state y z st h.says
    acts_in_state a b h = absurd h
