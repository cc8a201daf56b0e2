-- What files hold after a run of a plan whose outputs were put in place or left.
use Rattle.std.proofs.Common.{◌≡◌, ℕ, ◌<◌, ◌⊎◌, inl, inr, zero, suc, Bool, true, false, List, []}
use Rattle.std.proofs.Common.{◌∷◌, ◌++◌, length, Option, Some, None, unwrap_or, refl, sym, ap, ◌∙◌}
use Rattle.std.proofs.Common.{subst, arith}
use Rattle.std.specs.List.{slice_get}
use Rattle.std.proofs.lemmas.Bool.{false≢true}
use Rattle.std.proofs.lemmas.Option.{same_Some, slice_get_within}
use Rattle.collector.specs.Files.{FilesShown, SameLogs, WriteLog, left_of, nothing_written}
use Rattle.collector.specs.Places.{KeepsFiles, LeavesOutputs}
use Rattle.collector.specs.declared.fault.RunFault.{RunFault}
use Rattle.run_types.specs.Destinations.{Destination, StandardOutput, FileOf, destination_of}
use Rattle.run_types.specs.Destinations.{is_kept}
use Rattle.network_laws.specs.declared.outcome.Outcome.{Outcome}
use Rattle.network_laws.specs.declared.outcome.Outcome.TheVariants as outcomes
use Rattle.networks.specs.Turns.{IsNoStall, IsSound, written_by}
use Rattle.openings.specs.Answers.{OpenedFiles}
use Rattle.openings.specs.Destinations.{OpensDestinations}
use Rattle.openings.specs.Openings.{OpensAll}
use Rattle.planner.specs.Planned.{Planned}
use Rattle.planner.specs.declared.plan.OutOpening.{OutOpening}
use Rattle.step_scheduler.specs.Setups.{output_file}
use Rattle.plan_runs.specs.Contents.{AnswersFiles, HoldsOutputs, LeavesFiles, written_for}
use Rattle.plan_runs.specs.Runs.{TouchesPlan}
use Rattle.plan_runs.specs.Placings.{AllOrNothing, HasAllInPlace, IsFinished, LeavesAnswer}
use Rattle.plan_runs.specs.Placings.{NamesUnplaced, PlacesFirst, PlacesOrLeaves, StopsPlacing}
use Rattle.plan_runs.specs.Placings.{count_placed}

-- ---- what was written is kept

written_by_same : (a b : FilesShown) → SameLogs a.outputs b.outputs → (file : Option ℕ)
    → written_by b file ≡ written_by a file
written_by_same a b same None = refl
written_by_same a b same (Some file) = ap (λ (l : Option WriteLog). (unwrap_or l nothing_written).bytes)
    (same file)

written_same : (plan : Planned) (opened : OpenedFiles) (a b : FilesShown)
    → SameLogs a.outputs b.outputs → (node : Option ℕ)
    → written_for plan opened b node ≡ written_for plan opened a node
written_same plan opened a b same None = refl
written_same plan opened a b same (Some k) = written_by_same a b same (output_file plan opened k)

-- ---- outputs that are all in place

-- Each destination of an output holds what it held at the end of the run, and each other one what
-- it held before.
record AreInPlace (plan : Planned) (before then new : FilesShown) : Type 0 where
  pub outputs : (place : ℕ) (o : OutOpening) → slice_get plan.outputs place ≡ Some o
      → new.contents (destination_of o.name) ≡ then.contents (destination_of o.name)
  pub others : (d : Destination) → ((place : ℕ) (o : OutOpening)
      → slice_get plan.outputs place ≡ Some o → destination_of o.name ≡ d → ⊥)
      → new.contents d ≡ before.contents d

module _ (plan : Planned) (opened : OpenedFiles) (before then new : FilesShown) where
  -- no output was held back
  in_place_unheld : HoldsOutputs plan opened before then
      → ((d : Destination) → new.contents d ≡ then.contents d) → AreInPlace plan before then new
  in_place_unheld holds same =
      record {
        outputs = λ place o at. same (destination_of o.name);
        others = λ d no. same d
            ∙ holds.others d no;
      }

  holds_on : AreInPlace plan before then new → SameLogs then.outputs new.outputs
      → HoldsOutputs plan opened before then → HoldsOutputs plan opened before new
  holds_on placed logs holds = record {
    outputs = λ place o at.
        placed.outputs place o at
        ∙ (holds.outputs place o at
        ∙ ap
        (λ (l : List ℕ). Some
        (left_of (is_kept o.name) (before.contents (destination_of o.name)) ++ l))
        (sym (written_same plan opened then new logs o.node)));
    others = placed.others;
  }

  leaves_on : (IsWritten : List ℕ → List ℕ → Type 0) → AreInPlace plan before then new
      → LeavesFiles IsWritten plan opened before then → LeavesFiles IsWritten plan opened before new
  leaves_on IsWritten placed leaves = record {
    written = λ place k p o at for_node reads. let w =
        leaves.written place k p o at for_node reads in (w.0, w.1, placed.outputs place o at ∙ w.2);
    unwritten = λ place o at none. placed.outputs place o at ∙ leaves.unwritten place o at none;
    others = placed.others;
  }

  answers_on : (outcome : Outcome) → AreInPlace plan before then new
      → AnswersFiles plan opened before then outcome → AnswersFiles plan opened before new outcome
  answers_on (outcomes.Finished status) placed answers = (leaves_on _ placed answers.0, answers.1)
  answers_on (outcomes.Stalled waits) placed answers = leaves_on _ placed answers
  answers_on (outcomes.Faulted why) placed answers = leaves_on _ placed answers

-- the outputs were left, and none was held back
pub left_holds : (plan : Planned) (opened : OpenedFiles) (before then new : FilesShown)
    → LeavesOutputs then new → then.held_back ≡ false → HoldsOutputs plan opened before then
    → HoldsOutputs plan opened before new
left_holds plan opened before then new leaves unheld holds =
    let calls = leaves.calls in
    holds_on plan opened before then new
    (in_place_unheld plan opened before then new holds (leaves.unheld unheld)) calls.outputs
    holds

-- ---- outputs that were held back

some_of : {A : Type 0} (xs : List A) (i : ℕ) → i < length xs → (x : A) × (slice_get xs i ≡ Some x)
some_of [] i below = absurd (omega (arith, below))
some_of (x ∷ xs) zero below = (x, refl)
some_of (x ∷ xs) (suc i) below = some_of xs i (omega (arith, below))

module _ (plan : Planned) (opened : OpenedFiles) (before old then : FilesShown)
    (all : OpensAll plan opened before old) (touches : TouchesPlan plan opened old then)
    (whole : HasAllInPlace before) (held : old.held_back ≡ true) where
  begun_held : before.held_back ≡ true
  begun_held = let opens = all.opens in let places = opens.places in sym places.held_back ∙ held

  ended_held : then.held_back ≡ true
  ended_held = let places = touches.places in places.held_back ∙ held

  -- the file of each name holds in its place what it held before
  still : (name : List ℕ) → then.in_place name ≡ before.contents (FileOf name)
  still name =
      let opens = all.opens in
      let opened_places = opens.places in
      let places = touches.places in
      places.in_place held name ∙ (opened_places.in_place begun_held name ∙ whole begun_held name)

  -- the outputs are left
  pub left_kept : (new : FilesShown) → LeavesOutputs then new → KeepsFiles before new
  left_kept new leaves name = leaves.left ended_held name ∙ still name

  module _ (new : FilesShown) (count : ℕ)
      (to : OpensDestinations plan.outputs opened.outputs before old)
      (holds : HoldsOutputs plan opened before then)
      (places : PlacesFirst opened.outputs count then new)
      (standard : new.contents StandardOutput ≡ then.contents StandardOutput) where
    target_of : (place file : ℕ) (o : OutOpening) → slice_get opened.outputs place ≡ Some file
        → slice_get plan.outputs place ≡ Some o → then.targets file ≡ Some (destination_of o.name)
    target_of place file o is at = touches.targets file ∙ to.targets place file o is at

    counted : length opened.outputs ≡ length plan.outputs
    counted = all.outputs

    placed_at : (place : ℕ) (o : OutOpening) (d : Destination) → destination_of o.name ≡ d
        → place < count → slice_get plan.outputs place ≡ Some o → new.contents d ≡ then.contents d
    placed_at place o StandardOutput to_it below at = standard
    placed_at place o (FileOf name) to_it below at =
        let within = slice_get_within plan.outputs place o at in
        let file = some_of opened.outputs place (omega (arith, within, counted)) in
        let content = ap then.contents (sym to_it) ∙ holds.outputs place o at in
        places.placed place file.0 name _ below file.1 (target_of place file.0 o file.1 at
        ∙ ap (λ (d : Destination). Some d) to_it) content ∙ sym content

    output_placed : (place : ℕ) (o : OutOpening) → place < count
        → slice_get plan.outputs place ≡ Some o
        → new.contents (destination_of o.name) ≡ then.contents (destination_of o.name)
    output_placed place o below at = placed_at place o (destination_of o.name) refl below at

    -- none of the outputs that are in place writes to this file
    name_kept : (name : List ℕ) → ((place : ℕ) (o : OutOpening) → place < count
        → slice_get plan.outputs place ≡ Some o → destination_of o.name ≡ FileOf name → ⊥)
        → new.contents (FileOf name) ≡ before.contents (FileOf name)
    name_kept name none =
        places.others name (λ place file below is to_it.
        let within = slice_get_within opened.outputs place file is in
        let o = some_of plan.outputs place (omega (arith, within, counted)) in
        none place o.0 below o.1 (same_Some (destination_of (let a = o.0 in a.name)) (FileOf name)
        (sym (target_of place file o.0 is o.1) ∙ to_it)))
        ∙ still name

    other_kept : (d : Destination)
        → ((place : ℕ) (o : OutOpening) → slice_get plan.outputs place ≡ Some o
        → destination_of o.name ≡ d → ⊥) → new.contents d ≡ before.contents d
    other_kept StandardOutput none = standard ∙ holds.others StandardOutput none
    other_kept (FileOf name) none = name_kept name (λ place o below at to_it. none place o at to_it)

    in_place_held : count ≡ length plan.outputs → AreInPlace plan before then new
    in_place_held every = record {
      outputs = λ place o at. let within = slice_get_within plan.outputs place o at in
          output_placed place o (omega (arith, within, every)) at;
      others = other_kept;
    }

    none_in_place : count ≡ 0 → KeepsFiles before new
    none_in_place none name =
        name_kept name (λ place o below at to_it. absurd (omega (arith, below, none)))

    -- the outcome is that of the run
    placed_or_left : (came_to : Outcome) → count ≡ count_placed plan came_to
        → AnswersFiles plan opened before then came_to → AllOrNothing plan opened before new came_to
    placed_or_left (outcomes.Finished status) every answers =
        answers_on plan opened before then new (outcomes.Finished status)
        (in_place_held every) answers
    placed_or_left (outcomes.Stalled waits) none answers = none_in_place none
    placed_or_left (outcomes.Faulted why) none answers = inl (none_in_place none)

    -- an output could not be put in place
    stopped : (came_to : Outcome) (output : OutOpening) (why : RunFault) → IsFinished came_to
        → slice_get plan.outputs count ≡ Some output → NamesUnplaced output why
        → AnswersFiles plan opened before then came_to → StopsPlacing plan opened before new why
    stopped (outcomes.Finished status) output why finished at names answers = record {
      whole = then;
      status = status;
      answers = answers;
      count = count;
      output = output;
      at = at;
      names = names;
      placed = output_placed;
      others = name_kept;
    }
    stopped (outcomes.Stalled waits) output why finished at names answers = absurd finished
    stopped (outcomes.Faulted fault) output why finished at names answers = absurd finished

-- ---- the end of a run

-- all outputs of a run that finished are in place
every_placed : (plan : Planned) (outcome : Outcome) → IsFinished outcome
    → count_placed plan outcome ≡ length plan.outputs
every_placed plan (outcomes.Finished status) finished = refl
every_placed plan (outcomes.Stalled waits) finished = absurd finished
every_placed plan (outcomes.Faulted why) finished = absurd finished

module _ (plan : Planned) (opened : OpenedFiles) (came_to outcome : Outcome) (then new : FilesShown)
    (s : PlacesOrLeaves plan opened came_to then new outcome) where
  -- a stall stays one
  pub no_stall_kept : IsNoStall came_to → IsNoStall outcome
  no_stall_kept flows = elim s.how as (λ _. IsNoStall outcome) [
    | inl placed_or_left ↦ subst IsNoStall (sym placed_or_left.outcome_is) flows
    | inr unplaced ↦ subst IsNoStall (sym unplaced.outcome_is) tt
  ]

  -- no call has failed
  pub sound_kept : (old : FilesShown) → (IsSound came_to → then.failures ≡ old.failures)
      → IsSound outcome → new.failures ≡ old.failures
  sound_kept old sound is = elim s.how as (λ _. new.failures ≡ old.failures) [
    | inl placed_or_left ↦ placed_or_left.failures
        ∙ sound (subst IsSound placed_or_left.outcome_is is)
    | inr unplaced ↦ absurd (subst IsSound unplaced.outcome_is is)
  ]

  module _ (before old : FilesShown) (all : OpensAll plan opened before old)
      (touches : TouchesPlan plan opened old then)
      (to : OpensDestinations plan.outputs opened.outputs before old) (whole : HasAllInPlace before)
      (holds : HoldsOutputs plan opened before then) where
    ended_unheld : old.held_back ≡ false → then.held_back ≡ false
    ended_unheld un = let places = touches.places in places.held_back ∙ un

    in_place : (old.held_back ≡ false) ⊎ IsFinished outcome → AreInPlace plan before then new
    in_place case = by_held old.held_back refl
      where
        by_held : (b : Bool) → old.held_back ≡ b → AreInPlace plan before then new
        by_held false e = in_place_unheld plan opened before then new holds
            (s.unheld (ended_unheld e))
        by_held true e = elim case as (λ _. AreInPlace plan before then new) [
          | inl un ↦ absurd (false≢true (sym un ∙ e))
          | inr finished ↦ elim s.how as (λ _. AreInPlace plan before then new) [
            | inl placed_or_left ↦
                in_place_held plan opened before old then all touches whole e new s.count to holds
                (s.held (ended_held plan opened before old then all touches whole e)) s.standard
                (placed_or_left.count_is
                ∙ every_placed plan came_to
                (subst IsFinished placed_or_left.outcome_is finished))
            | inr unplaced ↦ absurd (subst IsFinished unplaced.outcome_is finished)
          ]
        ]

    pub placed_holds : (old.held_back ≡ false) ⊎ IsFinished outcome
        → HoldsOutputs plan opened before new
    placed_holds case =
        let calls = s.calls in
        holds_on plan opened before then new (in_place case) calls.outputs holds

    pub placed_answers : AnswersFiles plan opened before then came_to
        → LeavesAnswer old.held_back plan opened before new outcome
    placed_answers answers = by_held old.held_back refl
      where
        by_held : (b : Bool) → old.held_back ≡ b → LeavesAnswer b plan opened before new outcome
        by_held false e = elim s.how as (λ _. AnswersFiles plan opened before new outcome) [
          | inl kept ↦ subst (AnswersFiles plan opened before new) (sym kept.outcome_is)
              (answers_on plan opened before then new came_to
              (in_place_unheld plan opened before then new holds (s.unheld (ended_unheld e)))
              answers)
          | inr unplaced ↦ absurd (false≢true (sym (ended_unheld e) ∙ unplaced.held_back))
        ]
        by_held true e = elim s.how as (λ _. AllOrNothing plan opened before new outcome) [
          | inl kept ↦ subst (AllOrNothing plan opened before new) (sym kept.outcome_is)
              (placed_or_left plan opened before old then all touches whole e new s.count to holds
              (s.held (ended_held plan opened before old then all touches whole e)) s.standard
              came_to kept.count_is answers)
          | inr unplaced ↦ subst (AllOrNothing plan opened before new) (sym unplaced.outcome_is)
              (inr (stopped plan opened before old then all touches whole e new s.count to holds
              (s.held (ended_held plan opened before old then all touches whole e)) s.standard
              came_to unplaced.output unplaced.why unplaced.finished unplaced.at unplaced.names
              answers))
        ]
