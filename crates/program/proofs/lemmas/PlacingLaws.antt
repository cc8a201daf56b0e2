-- What a run leaves of files whose outputs are held back.
use Rattle.std.proofs.Common.{◌≡◌, ◌≢◌, ℕ, ◌⊎◌, Bool, true, false, IsTrue, List, Result, Ok, Err}
use Rattle.std.proofs.Common.{arith, sym, ap, ◌∙◌, inl, inr, subst}
use Rattle.std.proofs.Common.{Option}
use Rattle.std.specs.Borrow.{Bor}
use Rattle.std.specs.Prelude.{IfOk, OnErr}
use Rattle.clap.specs.Words.{Text}
use Rattle.collector.specs.Files.{FilesShown}
use Rattle.collector.specs.Places.{BeginsOutputs, KeepsFiles, LeavesOutputs}
use Rattle.collector.specs.declared.fault.RunFault.{RunFault}
use Rattle.command_line.specs.declared.request.ScriptFrom.{ScriptFrom}
use Rattle.command_line.specs.declared.request.ScriptFrom.TheVariants as from
use Rattle.network_laws.specs.declared.outcome.Outcome.{Outcome}
use Rattle.network_laws.specs.declared.outcome.Outcome.TheVariants as outcome
use Rattle.openings.specs.Answers.{OpenedFiles}
use Rattle.openings.specs.Openings.{OpensAll}
use Rattle.plan_runs.specs.Placings.{AllOrNothing, HasAllInPlace, LeavesAnswer, StopsPlacing}
use Rattle.planner.specs.Planned.{Planned}
use Rattle.run_types.specs.Destinations.{Destination, FileOf}
use Rattle.run_types.specs.Placings.{is_held}
use Rattle.run_types.specs.declared.placing.Placing.{Placing}
use Rattle.run_types.specs.declared.settings.Settings.{Settings}
use Rattle.program.specs.declared.ending.Ending.{Ending}
use Rattle.program.specs.declared.ending.Ending.TheVariants as ending
use Rattle.program.specs.declared.ending.Refusal.{Refusal}
use Rattle.program.specs.declared.ran.Ran.{Ran}
use Rattle.program.specs.declared.ran.Refused.{Refused}
use Rattle.program.specs.Outputs.{KeepsUnless, KeepsUnlessOk, StopsPlan, StopsRun}
use Rattle.program.specs.Runs.{EndsAs, RunsPlan, RunsText}
use Rattle.program.specs.ScriptReads.{IsGiven, IsNotGiven}
use Rattle.program.specs.Statuses.{status_of}

-- ---- outputs that were begun

module _ (placing : Placing) (old start : FilesShown)
    (begins : BeginsOutputs placing old start) where
  -- each name has in its place what it holds
  pub begun_in_place : HasAllInPlace start
  begun_in_place held name = begins.in_place (sym begins.held_back ∙ held) name
      ∙ sym (begins.contents (FileOf name))

  -- outputs are held back after the openings too
  pub held_after : (plan : Planned) (opened : OpenedFiles) (then : FilesShown)
      → OpensAll plan opened start then → then.held_back ≡ is_held placing
  held_after plan opened then all = (let opens = all.opens in let places = opens.places in
      places.held_back) ∙ begins.held_back

  pub begun_failures : (plan : Planned) (opened : OpenedFiles) (then : FilesShown)
      → OpensAll plan opened start then → then.failures ≡ old.failures
  begun_failures plan opened then all = (let opens = all.opens in opens.failures) ∙ begins.failures

  -- outputs that are left after the openings hold what they held
  pub left_kept : (plan : Planned) (opened : OpenedFiles) (then new : FilesShown)
      → OpensAll plan opened start then → LeavesOutputs then new → is_held placing ≡ true
      → KeepsFiles old new
  left_kept plan opened then new all leaves held name =
      let opens = all.opens in
      let places = opens.places in
      leaves.left (held_after plan opened then all ∙ held) name
      ∙ (places.in_place (begins.held_back ∙ held) name ∙ begins.in_place held name)

  -- a run of a plan that was held back left all or nothing
  module _ (plan : Planned) (opened : OpenedFiles) (new : FilesShown) where
    stops : (why named : RunFault) → why ≡ named → StopsPlacing plan opened start new why
        → StopsPlan plan old new named
    stops why named e s = record {
      opened = opened;
      start = start;
      contents =
          begins.contents;
      stops = subst (StopsPlacing plan opened start new) e s;
    }

    keeps : KeepsFiles start new → KeepsFiles old new
    keeps k name = k name ∙ begins.contents (FileOf name)

    pub left : (came_to : Outcome) (ended : Ending) → EndsAs came_to ended
        → AllOrNothing plan opened start new came_to
        → KeepsUnless (StopsPlan plan old new) old new ended
    left (outcome.Finished status) (ending.Done succeeded) ends all = tt
    left (outcome.Stalled waits) (ending.Stalled named circle) ends all = keeps all
    left (outcome.Faulted why) (ending.Faulted named) ends all =
        elim all as (λ _. KeepsFiles old new ⊎ StopsPlan plan old new named) [
          | inl k ↦ inl (keeps k)
          | inr s ↦ inr (stops why named ends s)
        ]
    left (outcome.Finished status) (ending.Stalled named circle) ends all = absurd ends
    left (outcome.Finished status) (ending.Faulted named) ends all = absurd ends
    left (outcome.Stalled waits) (ending.Done succeeded) ends all = absurd ends
    left (outcome.Stalled waits) (ending.Faulted named) ends all = absurd ends
    left (outcome.Faulted why) (ending.Done succeeded) ends all = absurd ends
    left (outcome.Faulted why) (ending.Stalled named circle) ends all = absurd ends

-- the same of a run whose outputs are held back
pub plan_left : (known : Bool) (plan : Planned) (settings : Settings) (placing : Placing)
    (old new : FilesShown) (ended : Ending) →
    RunsPlan known plan settings placing old new ended → IsTrue known → is_held placing ≡ true
    → KeepsUnless (StopsPlan plan old new) old new ended
plan_left known plan settings placing old new ended runs t held =
    left placing old runs.start runs.begins plan runs.opened new runs.came_to ended runs.ends
    (subst (λ (h : Bool). LeavesAnswer h plan runs.opened runs.start new runs.came_to) held
    (runs.answers t))

-- a run is not held back after the openings, if it is not, or it has finished
pub unheld_or : {P : Type 0} {now was : Bool} → now ≡ was → (was ≡ false) ⊎ P → (now ≡ false) ⊎ P
unheld_or e (inl unheld) = inl (e ∙ unheld)
unheld_or e (inr p) = inr p

-- ---- before the run

-- each destination holds what it held while the text of a script is given
pub given_contents : (script : ScriptFrom) (text : List ℕ) (old new : FilesShown)
    → IsGiven script text old new → (d : Destination) → new.contents d ≡ old.contents d
given_contents (from.Text letters) text old new h d = ap (λ (s : FilesShown). s.contents d) h.1
given_contents (from.File name) text old new h d = let same = h.contents in same.contents d

pub given_kept : (script : ScriptFrom) (text : List ℕ) (old new : FilesShown)
    → IsGiven script text old new → KeepsFiles old new
given_kept script text old new h name = given_contents script text old new h (FileOf name)

pub ungiven_kept : (script : ScriptFrom) (old new : FilesShown) (why : Refusal)
    → IsNotGiven script old new why → KeepsFiles old new
ungiven_kept (from.Text letters) old new why h name =
    ap (λ (s : FilesShown). s.contents (FileOf name)) h.1
ungiven_kept (from.File file) old new why h name =
    let most = h.0 in
    let same = most.contents in
    same.contents (FileOf name)

-- what was kept from then on was kept from the first on
pub kept_on : (old mid new : FilesShown) → KeepsFiles old mid → KeepsFiles mid new
    → KeepsFiles old new
kept_on old mid new g h name = h name ∙ g name

left_on : (stops later : RunFault → Type 0) (old mid new : FilesShown) (ended : Ending)
    → KeepsFiles old mid → ((why : RunFault) → later why → stops why)
    → KeepsUnless later mid new ended → KeepsUnless stops old new ended
left_on stops later old mid new (ending.Done succeeded) same so k = tt
left_on stops later old mid new (ending.Stalled waits circle) same so k =
    kept_on old mid new same k
left_on stops later old mid new (ending.Faulted why) same so k =
    elim k as (λ _. KeepsFiles old new ⊎ stops why) [
      | inl keeps ↦ inl (kept_on old mid new same keeps)
      | inr s ↦ inr (so why s)
    ]

-- a run of the script of a text that is held back left all or nothing
pub text_left : (known : Bool) (script : ScriptFrom) (settings : Settings) (strict : Bool)
    (placing : Placing) (to : Option (Bor Text)) (old new : FilesShown) (ended : Ending) →
    RunsText known script settings strict placing to old new ended → IsTrue known
    → is_held placing ≡ true → KeepsUnless (StopsRun script old new) old new ended
text_left known script settings strict placing to old new ended r t held =
    let s = r.runs in
    left_on (StopsRun script old new) (StopsPlan s.plan r.then new) old r.then new ended
    (given_kept script r.text old r.then r.given)
    (λ why stops. record {
      text = r.text;
      then = r.then;
      given = r.given;
      plan = s.plan;
      has_plan = s.has_plan;
      stops = stops;
    })
    (plan_left known s.plan settings placing r.then new ended s.runs t held)

-- ---- by the exit status

module _ (stops : RunFault → Type 0) (old new : FilesShown) (status : ℕ) where
  by_ending : (ended : Ending) → status ≡ status_of ended → KeepsUnless stops old new ended
      → KeepsUnlessOk stops old new status
  by_ending (ending.Done true) is k = inl (omega (arith, is))
  by_ending (ending.Done false) is k = inl (omega (arith, is))
  by_ending (ending.Stalled waits circle) is k = inr (inl k)
  by_ending (ending.Faulted why) is k = elim k as (λ _. KeepsUnlessOk stops old new status) [
    | inl keeps ↦ inr (inl keeps)
    | inr s ↦ inr (inr (is, (why, s)))
  ]

  pub by_status : (came_to : Result Ran Refused) →
      IfOk came_to (λ ran. (status ≡ status_of ran.ending) × (status ≢ 2)) →
      IfOk came_to (λ ran. KeepsUnless stops old new ran.ending) →
      OnErr came_to (KeepsFiles old new) → KeepsUnlessOk stops old new status
  by_status (Ok ran) reports k left = by_ending ran.ending reports.0 k
  by_status (Err refused) reports k left = inr (inl left)
