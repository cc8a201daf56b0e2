-- What follows of a text.
use Rattle.std.proofs.Common.{◌≡◌, ◌≢◌, ◌≤◌, ℕ, ◌⊎◌, Bool, true, false, IsTrue, List, [], Some}
use Rattle.std.proofs.Common.{Option}
use Rattle.std.specs.Borrow.{Bor}
use Rattle.std.proofs.Common.{Result, Ok, Err, arith, refl, sym, ap, inl, inr, subst, ◌∙◌}
use Rattle.std.specs.Prelude.{IfOk, IfErr, OnErr}
use Rattle.std.specs.Prelude.{unwrap_or}
use Rattle.graphs.specs.Graph.{IsForest}
use Rattle.network_laws.specs.declared.outcome.Outcome.{Outcome}
use Rattle.network_laws.specs.declared.outcome.Outcome.TheVariants as outcome
use Rattle.networks.specs.Turns.{IsNoStall}
use Rattle.pipeline_text.specs.Grammar.{script_of}
use Rattle.pipeline_text.specs.declared.script.Script.{Script}
use Rattle.collector.specs.Files.{FilesShown, nothing_written, writes_of}
use Rattle.clap.specs.Words.{Text}
use Rattle.command_line.specs.Requests.{AsksFor}
use Rattle.command_line.specs.declared.request.Request.{Request}
use Rattle.command_line.specs.declared.request.ScriptFrom.{ScriptFrom}
use Rattle.command_line.specs.declared.request.ScriptFrom.TheVariants as from
use Rattle.planner.specs.Planned.{Planned, graph_of}
use Rattle.planner.proofs.Bodies.{texts_have_bodies}
use Rattle.openings.specs.Answers.{answer_at, missing_places}
use Rattle.openings.specs.Fronts.{IsFrontAt, LeavesFronts}
use Rattle.collector.specs.Places.{KeepsFiles}
use Rattle.run_types.specs.Placings.{is_held}
use Rattle.run_types.specs.declared.placing.Placing.{Placing}
use Rattle.run_types.specs.declared.settings.Settings.{Settings}
use Rattle.step_scheduler.specs.Setups.{IsOfScript}
use Rattle.program.specs.declared.ending.Ending.{Ending}
use Rattle.program.specs.declared.ending.Ending.TheVariants as ending
use Rattle.program.specs.declared.ending.Refusal.{Refusal}
use Rattle.program.specs.declared.ran.Ran.{Ran}
use Rattle.program.specs.declared.ran.Refused.{Refused}
use Rattle.program.specs.Reports.{FailsOpening, IsApart}
use Rattle.program.specs.ScriptReads.{IsGiven, WritesNothing}
use Rattle.program.specs.Runs.{EndsAs, HasPlan, IsNotRun, IsUnplanned}
use Rattle.program.specs.Runs.{IsUnstalled, IsWithoutPlan}
use Rattle.program.specs.Runs.{Does, DoesWith, IsStatusOfEnding, IsUndone, RunsPlan, RunsText}
use Rattle.program.specs.Statuses.{status_of}

-- the plan of a text can be run
pub of_script : (text : List ℕ) (plan : Planned) → HasPlan text plan → IsOfScript plan
of_script text plan has = record {
  script = has.script;
  body =
      texts_have_bodies text has.script has.script_is;
  is_plan = has.is_plan;
}

-- a run that did not stall ends so
unstalled : (came_to : Outcome) (ending : Ending) → EndsAs came_to ending → IsNoStall came_to
    → IsUnstalled ending
unstalled (outcome.Stalled waits) ended ends flows = absurd flows
unstalled _ (ending.Stalled waits circle) ends flows = absurd ends
unstalled _ _ ends flows = tt

-- what was left out of inputs stays so
pub fronts_kept : (plan : Planned) (answers : List (Option ℕ)) (old mid new : FilesShown)
    → LeavesFronts plan answers old mid → ((file : ℕ) → new.left_out file ≡ mid.left_out file)
    → LeavesFronts plan answers old new
fronts_kept plan answers old mid new was same file =
    elim (was file) as (λ _. (new.left_out file ≡ old.left_out file)
    ⊎ ((place : ℕ) × (answer_at answers place ≡ Some file)
    × IsFrontAt plan place (new.left_out file))) [
      | inl e ↦ inl (same file ∙ e)
      | inr p ↦ inr (p.0, p.1, subst (IsFrontAt plan p.0) (sym (same file)) p.2)
    ]

-- nothing is written while the text of a script is given
pub given_unwritten : (script : ScriptFrom) (text : List ℕ) (old new : FilesShown)
    → IsGiven script text old new → WritesNothing old new
given_unwritten (from.Text letters) text old new h file = ap (λ s. writes_of s file) h.1
given_unwritten (from.File name) text old new h file =
    ap (λ log. (unwrap_or log nothing_written).bytes) (h.outputs file)

-- a script whose text was given
module _
    (script : ScriptFrom) (text : List ℕ) (old then : FilesShown)
    (given : IsGiven script text old then) where
  -- it has no plan
  pub unplanned : (contents_known strict : Bool) (placing : Placing) (to : Option (Bor Text))
      (why : Refusal) → IsUnplanned text why
      → IsNotRun contents_known script strict placing to old then why
  unplanned contents_known strict placing to why h =
      inr (record { text = text; then = then; given = given; unrun = inl (h, refl) })

  -- there is none to be found
  pub unfound : (why : Refusal) → IsUnplanned text why → IsWithoutPlan script old then why
  unfound why h = record { text = text; given = given; unplanned = h }

  module _ (plan : Planned) (has : HasPlan text plan) (new : FilesShown) where
    -- not all files were opened
    pub unopened : (contents_known strict : Bool) (placing : Placing) (to : Option (Bor Text))
        (why : Refusal)
        → FailsOpening contents_known script strict placing to plan then new why
        → (is_held placing ≡ true → KeepsFiles then new)
        → IsNotRun contents_known script strict placing to old new why
    unopened contents_known strict placing to why h kept =
        inr (record { text = text; then = then; given = given; unrun = inr (plan, has, h, kept) })

    -- its plan was run
    pub runs_text : (contents_known : Bool) (settings : Settings) (strict : Bool)
        (placing : Placing) (to : Option (Bor Text)) (ended : Ending)
        → ((script : Script) → script_of text ≡ Some script → script.fifos ≡ []
        → IsForest (graph_of plan))
        → (h : RunsPlan contents_known plan settings placing then new ended)
        → (IsTrue strict → missing_places h.opened.inputs ≡ [])
        → IsApart to script plan
        → RunsText contents_known script settings strict placing to old new ended
    runs_text contents_known settings strict placing to ended forest h none apart = record {
      text = text;
      then = then;
      given = given;
      runs = record {
        plan = plan;
        has_plan = has;
        runs = h;
        none_missing = none;
        never_stalls = λ script is fifos.
            unstalled h.came_to ended h.ends (h.flows (forest script is fifos));
      };
      apart = apart;
    }

-- what was reported of the result of a request, whose status this is
module _
    (contents_known : Bool) (request : Request) (old new : FilesShown) (status : ℕ) where
  pub reported : (came_to : Result Ran Refused)
      → IfOk came_to (λ ran. (status ≡ status_of ran.ending) × (status ≢ 2))
      → IfOk came_to (λ ran. DoesWith contents_known request ran.read.plan old new ran.ending)
      → OnErr came_to (status ≡ 2)
      → (status ≡ 2) ⊎ ((ended : Ending) × (status ≡ status_of ended)
      × Does contents_known request old new ended)
  reported (Ok ran) reports done two = inr (ran.ending, reports.0, (ran.read.plan, done))
  reported (Err refused) reports done two = inl two

  -- it was refused
  pub refused_for : (came_to : Result Ran Refused)
      → IfOk came_to (λ ran. (status ≡ status_of ran.ending) × (status ≢ 2))
      → IfErr came_to (λ refused. IsUndone contents_known request old new refused.why)
      → status ≡ 2 → (why : Refusal) × IsUndone contents_known request old new why
  refused_for (Ok ran) reports undone two = absurd (reports.1 two)
  refused_for (Err refused) reports undone two = (refused.why, undone)

  pub refused_unwritten : (came_to : Result Ran Refused)
      → IfOk came_to (λ ran. (status ≡ status_of ran.ending) × (status ≢ 2))
      → OnErr came_to (WritesNothing old new)
      → status ≡ 2 → WritesNothing old new
  refused_unwritten (Ok ran) reports kept two = absurd (reports.1 two)
  refused_unwritten (Err refused) reports kept two = kept

-- an exit status is at most 4
status_within : (ended : Ending) → status_of ended ≤ 4
status_within (ending.Done true) = omega (arith)
status_within (ending.Done false) = omega (arith)
status_within (ending.Stalled waits circle) = omega (arith)
status_within (ending.Faulted why) = omega (arith)

pub reported_within : (status : ℕ) (came_to : Result Ran Refused)
    → IfOk came_to (λ ran. (status ≡ status_of ran.ending) × (status ≢ 2))
    → OnErr came_to (status ≡ 2) → status ≤ 4
reported_within status (Ok ran) reports two =
    subst (λ s. s ≤ 4) (sym reports.0) (status_within ran.ending)
reported_within status (Err refused) reports two = omega (arith, two)

-- what is so of a request is so of the words that ask for it
module _
    (contents_known : Bool) (words : List Text) (request : Request) (asked : AsksFor words request)
    (old new : FilesShown) where
  pub status_of_words : (status : ℕ)
      → ((status ≡ 2)
      ⊎ ((ended : Ending) × (status ≡ status_of ended) × Does contents_known request old new ended))
      → IsStatusOfEnding contents_known words old new status
  status_of_words status (inl e) = inl e
  status_of_words status (inr (ended, e, done)) =
      inr (ended, e, record { request = request; asked = asked; done = done })
