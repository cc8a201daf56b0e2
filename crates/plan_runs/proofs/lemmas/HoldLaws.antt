-- What files hold after a run of a plan: the openings, and then what its nodes write.
use Rattle.std.proofs.Common.{◌≡◌, ℕ, ◌<◌, List, [], ◌++◌, length, Option, Some, None, unwrap_or}
use Rattle.std.proofs.Common.{refl, sym, ap, ◌∙◌, arith}
use Rattle.std.specs.Prelude.{slice_get}
use Rattle.std.proofs.lemmas.Option.{same_Some, slice_get_within}
use Rattle.collector.specs.Files.{FilesShown, Grows, IsSoleWriter, WriteLog, left_of}
use Rattle.collector.specs.Files.{nothing_written, writes_of}
use Rattle.run_types.specs.Destinations.{Destination, destination_of, is_kept}
use Rattle.run_types.specs.declared.names.OutName.{OutName}
use Rattle.planner.specs.Laws.{HasOwnOpenings}
use Rattle.planner.specs.Planned.{Planned}
use Rattle.planner.specs.declared.plan.Node.{Node}
use Rattle.planner.specs.declared.plan.Node.TheVariants as node
use Rattle.planner.specs.declared.plan.OutOpening.{OutOpening}
use Rattle.networks.specs.Turns.{written_by}
use Rattle.openings.specs.Answers.{OpenedFiles, own_file}
use Rattle.openings.specs.Destinations.{IsSoleOpening, OpensDestinations}
use Rattle.openings.specs.Openings.{OpensAll}
use Rattle.step_scheduler.specs.Setups.{sink_file, output_file}
use Rattle.step_scheduler.proofs.Answered.{some_at, written_at}
use Rattle.plan_runs.specs.Contents.{written_for, HoldsOutputs}
use Rattle.plan_runs.specs.Runs.{TouchesPlan}

-- a node with a file to write is a sink
sink_is : (n : Option Node) (own : Option ℕ) (file : ℕ) → sink_file n own ≡ Some file
    → (name : OutName) × (n ≡ Some (node.Sink name)) × (own ≡ Some file)
sink_is (Some (node.Sink name)) own file e = (name, refl, e)
sink_is _ own file e = absurd (cc)

module _ (plan : Planned) (o : OpenedFiles) (old then new : FilesShown) (own : HasOwnOpenings plan)
    (all : OpensAll plan o old then)
    (to : OpensDestinations plan.outputs o.outputs old then)
    (touches : TouchesPlan plan o then new) where
  -- a file that a node writes was opened at this place, for that node
  record IsPlacedAt (k file : ℕ) : Type 0 where
    pub place : ℕ
    pub opening : OutOpening
    pub there : slice_get plan.outputs place ≡ Some opening
    pub for_node : opening.node ≡ Some k
    pub file_is : slice_get o.outputs place ≡ Some file

  placed_at : (k file : ℕ) → output_file plan o k ≡ Some file → IsPlacedAt k file
  placed_at k file e =
      let s = sink_is (slice_get plan.nodes k) (own_file o k) file e in
      let w = written_at plan o old then own all k s.0 s.1 in
      record {
        place = w.place;
        opening = w.opening;
        there = w.there;
        for_node =
            w.for_node;
        file_is = sym w.file_is ∙ s.2;
      }

  -- it writes to the destination of that opening
  to_destination : (d : Destination) (k file : ℕ) (p : IsPlacedAt k file)
      → then.targets file ≡ Some d → destination_of (let a = p.opening in a.name) ≡ d
  to_destination d k file p t = same_Some (destination_of (let a = p.opening in a.name)) d
      (sym (to.targets p.place file p.opening p.file_is p.there) ∙ t)

  others_hold : (d : Destination) → ((place : ℕ) (a : OutOpening)
      → slice_get plan.outputs place ≡ Some a → destination_of a.name ≡ d → ⊥)
      → new.contents d ≡ old.contents d
  others_hold d none =
      touches.untouched d (λ file writes t. let p = placed_at writes.0 file writes.1 in
      none p.place p.opening p.there (to_destination d writes.0 file p t))
      ∙ to.others d (λ place a below there same. none place a there same)

  module _ (place file : ℕ) (a : OutOpening) (there : slice_get plan.outputs place ≡ Some a)
      (is : slice_get o.outputs place ≡ Some file)
      (sole : IsSoleOpening plan.outputs (length plan.outputs) place (destination_of a.name)) where
    below : place < length plan.outputs
    below = slice_get_within plan.outputs place a there

    target : then.targets file ≡ Some (destination_of a.name)
    target = to.targets place file a is there

    -- no other node writes to it
    sole_writer : IsSoleWriter (λ f. (k : ℕ) × (output_file plan o k ≡ Some f)) then file
        (destination_of a.name)
    sole_writer other writes t =
        let p = placed_at writes.0 other writes.1 in
        let here = sole p.place p.opening
        (slice_get_within plan.outputs p.place p.opening p.there) p.there
        (to_destination (destination_of a.name) writes.0 other p t) in
        same_Some other file (sym p.file_is ∙ (ap (λ (i : ℕ). slice_get o.outputs i) here ∙ is))

    grown : Grows file then new
    grown = touches.grown file (destination_of a.name) target sole_writer

    fresh : writes_of then file ≡ []
    fresh =
        let opens = all.opens in
        let logs = opens.output_logs in
        ap (λ (l : Option WriteLog). (unwrap_or l nothing_written).bytes) (logs.log place file is)

    more_is : (let g = grown in g.more) ≡ writes_of new file
    more_is = let g = grown in sym (g.log ∙ ap (λ (l : List ℕ). l ++ g.more) fresh)

    counted : length o.outputs ≡ length plan.outputs
    counted = all.outputs

    left : then.contents (destination_of a.name)
        ≡ Some (left_of (is_kept a.name) (old.contents (destination_of a.name)))
    left = to.contents place a (omega (arith, below, counted)) there
        (λ other q less got same. sole other q (omega (arith, less, counted)) got same)

    held : new.contents (destination_of a.name)
        ≡ Some (left_of (is_kept a.name) (old.contents (destination_of a.name))
        ++ writes_of new file)
    held =
        let g = grown in
        let kept = left_of (is_kept a.name) (old.contents (destination_of a.name)) in
        g.content (destination_of a.name) kept target left
        ∙ ap (λ (l : List ℕ). Some (kept ++ l)) more_is

    -- what its node wrote
    no_writer : a.node ≡ None → (k : ℕ) × (output_file plan o k ≡ Some file) → ⊥
    no_writer none writes =
        let p = placed_at writes.0 file writes.1 in
        let opens = all.opens in
        let logs = opens.output_logs in
        let here : p.place ≡ place = logs.apart p.place place file p.file_is is in
        let same : p.opening ≡ a = same_Some p.opening a (sym p.there
        ∙ (ap (λ (i : ℕ). slice_get plan.outputs i) here ∙ there)) in
        let clash : Some writes.0 ≡ None = sym p.for_node
        ∙ (ap (λ (b : OutOpening). b.node) same ∙ none) in
        cc clash

    node_file : (k : ℕ) → a.node ≡ Some k → output_file plan o k ≡ Some file
    node_file k for_node =
        let sink = own.written place k a there for_node in
        let w = written_at plan o old then own all k a.name sink in
        let here : w.place ≡ place =
        own.written_once w.place place k w.opening a w.there there w.for_node for_node in
        ap (λ (n : Option Node). sink_file n (own_file o k)) sink
        ∙ (w.file_is ∙ (ap (λ (i : ℕ). slice_get o.outputs i) here ∙ is))

    written : (n : Option ℕ) → a.node ≡ n → writes_of new file ≡ written_for plan o new n
    written None none = ap (λ (l : Option WriteLog). (unwrap_or l nothing_written).bytes)
        (touches.outputs file (no_writer none)) ∙ fresh
    written (Some k) for_node = sym (ap (λ (f : Option ℕ). written_by new f) (node_file k for_node))

    pub output_holds : new.contents (destination_of a.name)
        ≡ Some (left_of (is_kept a.name) (old.contents (destination_of a.name))
        ++ written_for plan o new a.node)
    output_holds = held
        ∙ ap
        (λ (l : List ℕ). Some (left_of (is_kept a.name) (old.contents (destination_of a.name))
        ++ l)) (written a.node refl)

  -- no two outputs have one destination
  pub outputs_hold : ((i j : ℕ) (a b : OutOpening) → slice_get plan.outputs i ≡ Some a
      → slice_get plan.outputs j ≡ Some b → destination_of a.name ≡ destination_of b.name → i ≡ j) →
      HoldsOutputs plan o old new
  outputs_hold apart = record {
    outputs = λ place a there.
        let l = slice_get_within plan.outputs place a there in
        let c = all.outputs in
        let f = some_at o.outputs place (omega (arith, l, c)) in
        output_holds place f.0 a there f.1
        (λ other q less got same. apart other place q a got there same);
    others = others_hold;
  }
