use Rattle.std.proofs.Common.{ap, rules, subst, sym}
use Rattle.plan_runs.specs.Placings.{IsFinished}
use Rattle.plan_runs.proofs.lemmas.PlaceLaws.{ends_finished, ends_left, ends_unplaced}
use Rattle.plan_runs.proofs.placing.place_or_leave.Goals as goal
use Rattle.plan_runs.proofs.placing.place_or_leave.Goals.{in-Finished+in-Ok, in-Finished+in-Err}
use Rattle.plan_runs.proofs.placing.place_or_leave.Goals.{in_default}

pub returns : goal.returns
returns g c =
    let plan = c.args._plan.now in
    let opened = c.args.opened.now in
    let then = g.F.Files.shows c.args.files.now in
    let joined = g.F.Files.shows c.match-outcome.files in
    elim c.match-outcome.branch [
      | in-Finished+in-Ok w ↦
          ends_finished plan opened then joined _ c.args.outcome c.match-outcome.ended
          (search rules) c.requires.count
          (g.F.Files.shows w.place_outputs.new.files)
          (ap g.F.Files.shows w.files-is) w.in-Finished.status w.in-Finished.is
          w.outputs.result.now w.outputs.ensures
          w.ended-is w.in-Ok.ensures.ok w.in-Ok.ensures.failures
      | in-Finished+in-Err w ↦
          ends_unplaced plan opened then joined _ c.args.outcome c.match-outcome.ended
          (search rules) c.requires.count
          (g.F.Files.shows w.place_outputs.new.files)
          (ap g.F.Files.shows w.files-is) w.in-Finished.status w.in-Finished.is
          w.outputs.result.now w.outputs.ensures
          w.swap_remove.result w.ended-is w.in-Err.place w.in-Err.ensures.err
          c.args.names.items
          (c.requires.names (subst IsFinished (sym w.in-Finished.is) tt))
          w.swap_remove.ensures.value
      | in_default w ↦ ends_left plan opened then joined _ c.args.outcome c.match-outcome.ended
          (search rules) (ap g.F.Files.shows w.files-is) w.in_default.not-Finished w.ended-is
    ]
