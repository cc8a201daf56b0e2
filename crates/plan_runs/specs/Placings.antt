-- How a run ends whose outputs may be held back: they are put in place if it finished, and left
-- otherwise.
--
-- A new file that is renamed over an old one takes its place at once (POSIX.1-2017 XSH rename).
use Rattle.std.specs.Prelude.{◌≡◌, ℕ, ◌<◌, ◌⊎◌, Bool, true, false, List, length, Some}
use Rattle.std.specs.List.{slice_get}
use Rattle.collector.specs.Files.{FilesShown, one_more}
use Rattle.collector.specs.Places.{KeepsFiles, SameCalls}
use Rattle.collector.specs.declared.fault.RunFault.{RunFault}
use Rattle.collector.specs.declared.fault.RunFault.TheVariants as fault
use Rattle.run_types.specs.Destinations.{Destination, StandardOutput, FileOf, destination_of}
use Rattle.run_types.specs.declared.settings.Settings.{Settings}
use Rattle.network_laws.specs.declared.outcome.Outcome.{Outcome}
use Rattle.network_laws.specs.declared.outcome.Outcome.TheVariants as outcomes
use Rattle.networks.specs.Turns.{IsSound}
use Rattle.openings.specs.Answers.{OpenedFiles}
use Rattle.planner.specs.Planned.{Planned}
use Rattle.planner.specs.declared.plan.OutOpening.{OutOpening}
use Rattle.plan_runs.specs.Contents.{AnswersFiles}
use Rattle.plan_runs.specs.Runs.{RunsPlanTo, TouchesPlan}

-- it has finished
abbrev pub IsFinished : Outcome → Type 0
IsFinished (outcomes.Finished status) = Unit {0}
IsFinished _ = ⊥

-- how many outputs of a plan are put in place after a run came to this: all or none
abbrev pub count_placed : Planned → Outcome → ℕ
count_placed plan (outcomes.Finished status) = length plan.outputs
count_placed plan _ = 0

-- the fault of an output that could not be put in place has its name
abbrev pub NamesUnplaced : OutOpening → RunFault → Type 0
NamesUnplaced o why = why ≡ fault.WriteFault o.name

-- Of these outputs, the first ones, as many as `count`, are in place: each file that one of them
-- writes to holds what was written. The file of every other name holds what it held in its place.
pub record PlacesFirst (files : List ℕ) (count : ℕ) (then new : FilesShown) : Type 0 where
  pub placed : (place file : ℕ) (name content : List ℕ) → place < count
      → slice_get files place ≡ Some file → then.targets file ≡ Some (FileOf name)
      → then.contents (FileOf name) ≡ Some content → new.contents (FileOf name) ≡ Some content
  pub others : (name : List ℕ)
      → ((place file : ℕ) → place < count → slice_get files place ≡ Some file
      → then.targets file ≡ Some (FileOf name) → ⊥) →
      new.contents (FileOf name) ≡ then.in_place name

-- A run finished, and the output at this place could not be put in place.
pub record IsUnplaced (plan : Planned) (came_to outcome : Outcome) (count : ℕ)
    (then new : FilesShown) : Type 0 where
  pub finished : IsFinished came_to
  pub held_back : then.held_back ≡ true
  pub output : OutOpening
  pub at : slice_get plan.outputs count ≡ Some output
  pub why : RunFault
  pub outcome_is : outcome ≡ outcomes.Faulted why
  pub names : NamesUnplaced output why
  pub failures : new.failures ≡ one_more then.failures

-- What came to the outcome stays, all outputs were put in place or none, and no call failed.
pub record IsPlacedOrLeft (plan : Planned) (came_to outcome : Outcome) (count : ℕ)
    (then new : FilesShown) : Type 0 where
  pub outcome_is : outcome ≡ came_to
  pub count_is : count ≡ count_placed plan came_to
  pub failures : new.failures ≡ then.failures

-- A run of a plan came to `came_to`, and then its outputs were put in place if it finished, and
-- left otherwise. The outcome is the same, unless an output could not be put in place: then it is a
-- fault, and only the outputs before that one are in place. If no output was held back, nothing
-- changed.
pub record PlacesOrLeaves (plan : Planned) (opened : OpenedFiles) (came_to : Outcome)
    (then new : FilesShown) (outcome : Outcome) : Type 0 where
  pub count : ℕ
  pub how : IsPlacedOrLeft plan came_to outcome count then new
      ⊎ IsUnplaced plan came_to outcome count then new
  pub calls : SameCalls then new
  pub standard : new.contents StandardOutput ≡ then.contents StandardOutput
  pub held : then.held_back ≡ true → PlacesFirst opened.outputs count then new
  pub unheld : then.held_back ≡ false → (d : Destination) → new.contents d ≡ then.contents d
  pub held_back : new.held_back ≡ false

-- A plan, whose files were opened with these answers, was run, and its outputs were put in place or
-- left; and so it came to this outcome.
pub record RunsAndPlaces (plan : Planned) (opened : OpenedFiles) (settings : Settings)
    (before after : FilesShown) (outcome : Outcome) : Type 0 where
  pub then : FilesShown
  pub came_to : Outcome
  pub touches : TouchesPlan plan opened before then
  pub runs : RunsPlanTo plan opened settings before then came_to
  pub sound : IsSound came_to → then.failures ≡ before.failures
  pub places : PlacesOrLeaves plan opened came_to then after outcome

-- each name has in its place what it holds, if outputs are held back
abbrev pub HasAllInPlace : FilesShown → Type 0
HasAllInPlace files = files.held_back ≡ true
    → (name : List ℕ) → files.in_place name ≡ files.contents (FileOf name)

-- A run finished, but an output could not be put in place for this fault, which has its name. Those
-- before it hold what the whole run gives them; the file of every other name holds what it held.
pub record StopsPlacing (plan : Planned) (opened : OpenedFiles) (old new : FilesShown)
    (why : RunFault) : Type 0 where
  pub whole : FilesShown
  pub status : ℕ
  pub answers : AnswersFiles plan opened old whole (outcomes.Finished status)
  pub count : ℕ
  pub output : OutOpening
  pub at : slice_get plan.outputs count ≡ Some output
  pub names : NamesUnplaced output why
  pub placed : (place : ℕ) (o : OutOpening) → place < count → slice_get plan.outputs place ≡ Some o
      → new.contents (destination_of o.name) ≡ whole.contents (destination_of o.name)
  pub others : (name : List ℕ)
      → ((place : ℕ) (o : OutOpening) → place < count → slice_get plan.outputs place ≡ Some o
      → destination_of o.name ≡ FileOf name → ⊥) →
      new.contents (FileOf name) ≡ old.contents (FileOf name)

-- What a run leaves of files whose outputs are held back. If it finished, each output has its whole
-- list in the sequential answer. Otherwise the file of each name holds what it held, unless an
-- output could not be put in place.
abbrev pub AllOrNothing : Planned → OpenedFiles → FilesShown → FilesShown → Outcome → Type 0
AllOrNothing plan opened old new (outcomes.Finished status) =
    AnswersFiles plan opened old new (outcomes.Finished status)
AllOrNothing plan opened old new (outcomes.Stalled waits) = KeepsFiles old new
AllOrNothing plan opened old new (outcomes.Faulted why) = KeepsFiles old new
    ⊎ StopsPlacing plan opened old new why

-- What a run leaves of files: all or nothing if outputs are held back, otherwise the answer of the
-- plan as far as it came.
abbrev pub LeavesAnswer : (held : Bool) → Planned → OpenedFiles → FilesShown → FilesShown → Outcome
    → Type 0
LeavesAnswer true plan opened old new outcome = AllOrNothing plan opened old new outcome
LeavesAnswer false plan opened old new outcome = AnswersFiles plan opened old new outcome
