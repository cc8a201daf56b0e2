use Rattle.std.proofs.Common.{◌∙◌, ℕ, Bool, ap, length, subst, sym}
use Rattle.std.proofs.lemmas.Result.{err_from_is_err_and}
use Rattle.plan_runs.specs.Placings.{LeavesAnswer}
use Rattle.run_types.specs.Limits.{FitsPipes}
use Rattle.program.specs.Runs.{IsNotRun, RunsPlan}
use Rattle.program.proofs.lemmas.PlacingLaws.{begun_failures, begun_in_place, given_kept}
use Rattle.program.proofs.lemmas.PlacingLaws.{held_after, kept_on, text_left, unheld_or}
use Rattle.program.proofs.lemmas.RunLaws.{fronts_kept, given_unwritten, of_script, runs_text}
use Rattle.program.proofs.lemmas.RunLaws.{unopened}
use Rattle.program.proofs.lemmas.RunLaws.{unplanned}
use Rattle.program.proofs.answering.run_script.Goals as goal

pub run_plan-ran-requires-clause-plan : goal.run_plan-ran-requires-clause-plan
run_plan-ran-requires-clause-plan g c κs within =
    of_script c.in_ok-text.text.items c.in_ok-planned.planned.plan c.in_ok-planned.ensures.plan

pub run_plan-ran-requires-clause-opened : goal.run_plan-ran-requires-clause-opened
run_plan-ran-requires-clause-opened g c κs within =
    let o = c.in-Ok.ensures.opens in (o.start, o.opens)

pub returns-in_err-planned-clause-cause : goal.returns-in_err-planned-clause-cause
returns-in_err-planned-clause-cause g c =
    let residual = c.from_residual-in_err-planned in
    let r = err_from_is_err_and residual.result residual.ensures.1 in
    let old = g.F.Files.shows c.args.files.now in
    let then = g.F.Files.shows c.text_from.new.files in
    rw (r.1, r.2)
    (unplanned c.args.script c.in_ok-text.text.items old then
    c.in_ok-text.ensures.given g.F.Files.contents_known c.args.strict c.args.placing
    c.args.stats_to c.in_err-planned.field-0.0.why
    c.in_err-planned.ensures.cause)

pub returns-in_err-planned-clause-kept : goal.returns-in_err-planned-clause-kept
returns-in_err-planned-clause-kept g c =
    let residual = c.from_residual-in_err-planned in
    let r = err_from_is_err_and residual.result residual.ensures.1 in
    let old = g.F.Files.shows c.args.files.now in
    let then = g.F.Files.shows c.text_from.new.files in
    rw r.1
    (given_unwritten c.args.script c.in_ok-text.text.items old then
    c.in_ok-text.ensures.given)

pub returns-in-Err-clause-cause : goal.returns-in-Err-clause-cause
returns-in-Err-clause-cause g c =
    let old = g.F.Files.shows c.args.files.now in
    let then = g.F.Files.shows c.text_from.new.files in
    let new = g.F.Files.shows c.open_files.new.files in
    subst (λ why. IsNotRun g.F.Files.contents_known c.args.script c.args.strict c.args.placing
    c.args.stats_to old new why)
    (sym c.refused.ensures)
    (unopened c.args.script c.in_ok-text.text.items old then
    c.in_ok-text.ensures.given c.in_ok-planned.planned.plan
    c.in_ok-planned.ensures.plan new g.F.Files.contents_known c.args.strict c.args.placing
    c.args.stats_to c.in-Err.why
    c.in-Err.ensures.cause c.in-Err.ensures.kept)

pub returns-in-Err-clause-kept : goal.returns-in-Err-clause-kept
returns-in-Err-clause-kept g c =
    let old = g.F.Files.shows c.args.files.now in
    let then = g.F.Files.shows c.text_from.new.files in
    let unwritten =
    given_unwritten c.args.script c.in_ok-text.text.items old then
    c.in_ok-text.ensures.given in
    λ file. c.in-Err.ensures.written file ∙ unwritten file

pub returns-in-Err-clause-left : goal.returns-in-Err-clause-left
returns-in-Err-clause-left g c = λ held.
    let old = g.F.Files.shows c.args.files.now in
    let then = g.F.Files.shows c.text_from.new.files in
    let new = g.F.Files.shows c.open_files.new.files in
    kept_on old then new
    (given_kept c.args.script c.in_ok-text.text.items old then c.in_ok-text.ensures.given)
    (c.in-Err.ensures.kept held)

pub returns-clause-ended : goal.returns-clause-ended
returns-clause-ended g c =
    let contents_known = g.F.Files.contents_known in
    let old = g.F.Files.shows c.args.files.now in
    let then = g.F.Files.shows c.text_from.new.files in
    let mid = g.F.Files.shows c.open_files.new.files in
    let new = g.F.Files.shows c.run_plan-ran.new.files in
    let o = c.in-Ok.ensures.opens in
    let run = c.run_plan-ran.ensures in
    let plan = c.in_ok-planned.planned.plan in
    let placing = c.args.placing in
    let opened = c.in-Ok.opened in
    let held = held_after placing then o.start o.begins plan opened mid o.opens in
    let ran : RunsPlan contents_known plan c.args.settings placing then new
    c.ending_of-ending.result = record {
      start = o.start;
      begins = o.begins;
      opened = opened;
      then = mid;
      opens = o.opens;
      came_to = c.run_plan-ran.result.outcome;
      sound = λ h. run.sound h
          ∙ begun_failures placing then o.start o.begins plan opened mid o.opens;
      fitted = c.for_pipes-fitted.result;
      fits = subst (λ (n : ℕ). FitsPipes n c.args.settings c.for_pipes-fitted.result)
          (ap length c.pipes.ensures.value) c.for_pipes-fitted.ensures;
      runs = run.outcome;
      flows = run.flows;
      holds = λ t how. run.holds o.start o.opens (o.holds t)
          (begun_in_place placing then o.start o.begins) (unheld_or held how);
      answers =
          λ t. subst
          (λ (h : Bool). LeavesAnswer h plan opened o.start new c.run_plan-ran.result.outcome) held
          (run.answers o.start o.opens (o.holds t) (o.held t)
          (begun_in_place placing then o.start o.begins));
      rests = λ t. run.rests o.start o.opens (o.held t);
      fronts = fronts_kept plan opened.inputs o.start mid new o.fronts
          (λ file. run.outcome.places.calls.held.left_out file
          ∙ run.outcome.touches.held.left_out file);
      ends = c.ending_of-ending.ensures;
    } in
    runs_text c.args.script c.in_ok-text.text.items old then
    c.in_ok-text.ensures.given plan
    c.in_ok-planned.ensures.plan new contents_known c.args.settings c.args.strict placing
    c.args.stats_to c.ending_of-ending.result
    c.in_ok-planned.ensures.forest ran o.none_missing c.in-Ok.ensures.apart

pub returns-clause-all_or_nothing : goal.returns-clause-all_or_nothing
returns-clause-all_or_nothing g c = λ t held.
    text_left g.F.Files.contents_known c.args.script c.args.settings c.args.strict c.args.placing
    c.args.stats_to (g.F.Files.shows c.args.files.now) (g.F.Files.shows c.run_plan-ran.new.files)
    c.ending_of-ending.result
    (returns-clause-ended g c) t held
