-- Outputs that are put in place one after another, and then left.
use Rattle.std.proofs.Common.{◌≡◌, ◌≢◌, ℕ, zero, suc, ◌+◌, ◌<◌, ◌⊎◌, inl, inr, Bool, true, false}
use Rattle.std.proofs.Common.{List, []}
use Rattle.std.proofs.Common.{◌∷◌, length, Option, Some, None, refl, sym, ap, ◌∙◌, subst, arith}
use Rattle.std.specs.Prelude.{slice_index_or, is_err, OnOk, Result, Ok, Err}
use Rattle.std.specs.List.{slice_get}
use Rattle.std.proofs.lemmas.Bool.{cases_eq}
use Rattle.std.proofs.lemmas.Option.{same_Some}
use Rattle.collector.specs.Files.{FilesShown, SameFiles, one_more}
use Rattle.collector.specs.Places.{SameCalls, PutsInPlace, LeavesOutputs}
use Rattle.collector.specs.declared.fault.RunFault.TheVariants as fault
use Rattle.collector.proofs.TouchLaws.{held_none, held_on}
use Rattle.run_types.specs.Destinations.{Destination, StandardOutput, FileOf}
use Rattle.network_laws.specs.declared.outcome.Outcome.{Outcome}
use Rattle.network_laws.specs.declared.outcome.Outcome.TheVariants as outcomes
use Rattle.openings.specs.Answers.{OpenedFiles}
use Rattle.openings.specs.Openings.{output_names}
use Rattle.run_types.specs.declared.names.OutName.{OutName}
use Rattle.planner.specs.Planned.{Planned}
use Rattle.planner.specs.declared.plan.OutOpening.{OutOpening}
use Rattle.plan_runs.specs.Placings.{IsFinished, IsPlacedOrLeft, IsUnplaced}
use Rattle.plan_runs.specs.Placings.{PlacesOrLeaves, count_placed}
use Rattle.plan_runs.specs.inner.Places.{PlacesOutputs, StopsAt}

-- ---- which file an output writes to

same_or_other : (x y : List ℕ) → (x ≡ y) ⊎ (x ≢ y)
same_or_other [] [] = inl refl
same_or_other [] (y ∷ ys) = inr (λ e. cc e)
same_or_other (x ∷ xs) [] = inr (λ e. cc e)
same_or_other (x ∷ xs) (y ∷ ys) = elim (cases_eq x y) as
    (λ _. (x ∷ xs ≡ y ∷ ys) ⊎ (x ∷ xs ≢ y ∷ ys)) [
      | inl e ↦ elim (same_or_other xs ys) as (λ _. (x ∷ xs ≡ y ∷ ys) ⊎ (x ∷ xs ≢ y ∷ ys)) [
        | inl f ↦ inl (cc (e, f))
        | inr d ↦ inr (λ h. d (cc h))
      ]
      | inr d ↦ inr (λ h. d (cc h))
    ]

-- it writes to the file of this name, or not
pub writes_to : (target : Option Destination) (name : List ℕ)
    → (target ≡ Some (FileOf name)) ⊎ (target ≢ Some (FileOf name))
writes_to None name = inr (λ e. cc e)
writes_to (Some StandardOutput) name = inr (λ e. cc e)
writes_to (Some (FileOf other)) name = elim (same_or_other other name) as
    (λ _. (Some (FileOf other) ≡ Some (FileOf name)) ⊎ (Some (FileOf other) ≢ Some (FileOf name))) [
      | inl e ↦ inl (ap (λ (n : List ℕ). Some (FileOf n)) e)
      | inr d ↦ inr (λ h. d (cc h))
    ]

-- ---- nothing is opened, read or written

calls_none : (s : FilesShown) → SameCalls s s
calls_none s = record {
  openings = refl;
  inputs = λ file. refl;
  outputs = λ file. refl;
  targets =
      λ file. refl;
  held = held_none s;
}

calls_on : (a b c : FilesShown) → SameCalls a b → SameCalls b c → SameCalls a c
calls_on a b c g h = record {
  openings = h.openings ∙ g.openings;
  inputs = λ file. h.inputs file ∙ g.inputs file;
  outputs = λ file. h.outputs file ∙ g.outputs file;
  targets = λ file. h.targets file ∙ g.targets file;
  held = held_on a b c g.held h.held;
}

calls_same : (a b : FilesShown) → SameFiles a b → SameCalls a b
calls_same a b h =
    let same = h.contents in
    record {
      openings = h.openings;
      inputs = h.inputs;
      outputs = h.outputs;
      targets =
          same.targets;
      held = h.held;
    }

-- ---- outputs that are put in place

-- none
pub places_none : (files : List ℕ) (s : FilesShown) → PlacesOutputs files 0 s s
places_none files s = record {
  calls = calls_none s;
  contents = λ d. refl;
  held_back = refl;
  placed = λ held place file name content below is target holds. absurd (omega (arith, below));
  others = λ held name none. refl;
}

module _ (files : List ℕ) (count : ℕ) (old mid new : FilesShown)
    (was : PlacesOutputs files count old mid) where
  module _ (own : ℕ) (at : slice_get files count ≡ Some own) (put : PutsInPlace own mid new) where
    -- what was in place stays there
    kept : old.held_back ≡ true → (name content : List ℕ)
        → old.contents (FileOf name) ≡ Some content → mid.in_place name ≡ Some content
        → new.in_place name ≡ Some content
    kept held name content holds there = elim (writes_to (mid.targets own) name) as
        (λ _. new.in_place name ≡ Some content) [
          | inl to ↦ put.placed (was.held_back ∙ held) name content to (was.contents (FileOf name)
              ∙ holds)
          | inr other ↦ put.others (was.held_back ∙ held) name other ∙ there
        ]

    -- the target of an output is as it was
    target_is : (file : ℕ) → mid.targets file ≡ old.targets file
    target_is file = let calls = was.calls in calls.targets file

    placed_more : old.held_back ≡ true → (place file : ℕ) (name content : List ℕ)
        → place < count + 1 → slice_get files place ≡ Some file
        → old.targets file ≡ Some (FileOf name) → old.contents (FileOf name) ≡ Some content
        → new.in_place name ≡ Some content
    placed_more held place file name content below is target holds =
        elim (cases_eq place count) as (λ _. new.in_place name ≡ Some content) [
          | inl here ↦ let same : own ≡ file = same_Some own file (sym at
              ∙ (sym (ap (slice_get files) here) ∙ is)) in
              put.placed (was.held_back ∙ held) name content (target_is own
              ∙ (ap old.targets same ∙ target)) (was.contents (FileOf name) ∙ holds)
          | inr there ↦ kept held name content holds
              (was.placed held place file name content (omega (arith, below, there)) is target holds)
        ]

    -- one more
    pub places_more : PlacesOutputs files (count + 1) old new
    places_more = record {
      calls = calls_on old mid new was.calls put.calls;
      contents = λ d. put.contents d ∙ was.contents d;
      held_back = put.held_back ∙ was.held_back;
      placed = placed_more;
      others = λ held name none.
          put.others (was.held_back ∙ held) name
          (λ t. none count own (omega arith) at (sym (target_is own) ∙ t))
          ∙ was.others held name (λ place file below is t. none place file
          (omega (arith, below)) is t);
    }

  held_or : (b : Bool) → (b ≡ false → ⊥) → b ≡ true
  held_or true back = refl
  held_or false back = absurd (back refl)

  -- the next one could not be put in place
  pub stops_at : mid.failures ≡ old.failures → SameFiles mid new
      → new.failures ≡ one_more mid.failures → (mid.held_back ≡ false → ⊥)
      → StopsAt files count old new
  stops_at before same more back =
      let contents = same.contents in
      let places = contents.places in
      record {
        places = record {
          calls = calls_on old mid new was.calls (calls_same mid new same);
          contents = λ d. contents.contents d ∙ was.contents d;
          held_back = places.held_back ∙ was.held_back;
          placed = λ held place file name content below is target holds.
              places.in_place (was.held_back ∙ held) name
              ∙ was.placed held place file name content below is target holds;
          others = λ held name none. places.in_place (was.held_back ∙ held) name
              ∙ was.others held name none;
        };
        held_back = held_or old.held_back (λ un. back (was.held_back ∙ un));
        failures = more ∙ ap one_more before;
      }

-- what is so of a call that did not fail
pub unfailed : {T E P : Type 0} (r : Result T E) → is_err r ≡ false → OnOk r P → P
unfailed (Ok v) ok p = p
unfailed (Err e) ok p = absurd (cc ok)

-- the output at a place has the name that is there
named_output : (openings : List OutOpening) (place : ℕ) (name : OutName) → place < length openings
    → name ≡ slice_index_or (output_names openings) place name
    → (o : OutOpening) × (slice_get openings place ≡ Some o) × (o.name ≡ name)
named_output [] place name below is = absurd (omega (arith, below))
named_output (o ∷ openings) zero name below is = (o, refl, sym is)
named_output (o ∷ openings) (suc place) name below is =
    named_output openings place name (omega (arith, below)) is

-- ---- a run that has ended, whose outputs are put in place and left

none_placed : (plan : Planned) (came_to : Outcome)
    → ((status : ℕ) → came_to ≢ outcomes.Finished status) → 0 ≡ count_placed plan came_to
none_placed plan (outcomes.Finished status) ended = absurd (ended status refl)
none_placed plan (outcomes.Stalled waits) ended = refl
none_placed plan (outcomes.Faulted why) ended = refl

every_placed : (plan : Planned) (came_to : Outcome) (status : ℕ)
    → came_to ≡ outcomes.Finished status → length plan.outputs ≡ count_placed plan came_to
every_placed plan came_to status is = ap (count_placed plan) (sym is)

module _ (plan : Planned) (opened : OpenedFiles) (then joined new : FilesShown)
    (came_to outcome : Outcome) (leaves : LeavesOutputs joined new) where
  ends_so : (mid : FilesShown) → joined ≡ mid → (count : ℕ)
      → IsPlacedOrLeft plan came_to outcome count then new
      ⊎ IsUnplaced plan came_to outcome count then new
      → PlacesOutputs opened.outputs count then mid
      → PlacesOrLeaves plan opened came_to then new outcome
  ends_so mid joins count how was =
      let left : LeavesOutputs mid new =
      subst (λ (f : FilesShown). LeavesOutputs f new) joins leaves in
      record {
        count = count;
        how = how;
        calls = calls_on then mid new was.calls left.calls;
        standard = left.standard ∙ was.contents StandardOutput;
        held = λ held. record {
          placed = λ place file name content below is target holds.
              left.left (was.held_back ∙ held) name
              ∙ was.placed held place file name content below is target holds;
          others = λ name none. left.left (was.held_back ∙ held) name ∙ was.others held name none;
        };
        unheld = λ un d. left.unheld (was.held_back ∙ un) d ∙ was.contents d;
        held_back = left.held_back;
      }

  failures_left : (mid : FilesShown) → joined ≡ mid → new.failures ≡ mid.failures
  failures_left mid joins = leaves.failures ∙ ap (λ (f : FilesShown). f.failures) joins

  -- none is put in place
  pub ends_left : joined ≡ then → ((status : ℕ) → came_to ≢ outcomes.Finished status)
      → outcome ≡ came_to → PlacesOrLeaves plan opened came_to then new outcome
  ends_left joins ended is =
      ends_so then joins 0
      (inl (record {
        outcome_is = is;
        count_is = none_placed plan came_to ended;
        failures =
            failures_left then joins;
      })) (places_none opened.outputs then)

  module _ (counted : length opened.outputs ≡ length plan.outputs) (mid : FilesShown)
      (joins : joined ≡ mid) (status : ℕ) (finished : came_to ≡ outcomes.Finished status)
      (files : List ℕ) (files_are : files ≡ opened.outputs) where
    -- all of them are in place
    pub ends_finished : outcome ≡ outcomes.Finished status
        → PlacesOutputs files (length files) then mid → mid.failures ≡ then.failures
        → PlacesOrLeaves plan opened came_to then new outcome
    ends_finished is was same =
        ends_so mid joins (length opened.outputs)
        (inl (record {
          outcome_is = is ∙ sym finished;
          count_is = counted
              ∙ every_placed plan came_to status finished;
          failures = failures_left mid joins
              ∙ same;
        }))
        (subst (λ (l : List ℕ). PlacesOutputs l (length l) then mid) files_are was)

    -- one could not be put there
    pub ends_unplaced : (name : OutName) → outcome ≡ outcomes.Faulted (fault.WriteFault name)
        → (place : ℕ) → (place < length files) × StopsAt files place then mid
        → (names : List OutName) → names ≡ output_names plan.outputs
        → name ≡ slice_index_or names place name
        → PlacesOrLeaves plan opened came_to then new outcome
    ends_unplaced name is place stopped names names_are at =
        let below = stopped.0 in
        let stops : StopsAt opened.outputs place then mid =
        subst (λ (l : List ℕ). StopsAt l place then mid) files_are stopped.1 in
        let within : place < length plan.outputs =
        omega (arith, below, ap length files_are, counted) in
        let named = named_output plan.outputs place name within
        (subst (λ (l : List OutName). name ≡ slice_index_or l place name) names_are at) in
        ends_so mid joins place
        (inr (record {
          finished = subst IsFinished (sym finished) tt;
          held_back = stops.held_back;
          output = named.0;
          at = named.1;
          why = fault.WriteFault name;
          outcome_is = is;
          names = ap (λ (n : OutName). fault.WriteFault n) (sym named.2);
          failures = failures_left mid joins ∙ stops.failures;
        }))
        stops.places
