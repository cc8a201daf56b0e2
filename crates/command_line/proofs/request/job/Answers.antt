use Rattle.std.proofs.Common.{◌≡◌, ◌∙◌, ◌⊎◌, inl, inr, is_some, sym, true}
use Rattle.clap.specs.Words.{found_of, rows_of}
use Rattle.command_line.proofs.lemmas.Readings.{strict_known, unrun_given}
use Rattle.command_line.proofs.request.job.Goals as goal
use Rattle.command_line.proofs.request.job.Goals.{then-check-via-then-check}
use Rattle.command_line.proofs.request.job.Goals.{then-check-via-else-check+then-is_some}

pub asked_progress-requires : goal.asked_progress-requires
asked_progress-requires c = (
  record { settings = c.in_ok-settings.settings; given = c.in_ok-settings.ensures.given },
  (c.in_ok-script.script, c.in_ok-script.ensures.given),
)

pub asked_stats-requires : goal.asked_stats-requires
asked_stats-requires c = (
  record { settings = c.in_ok-settings.settings; given = c.in_ok-settings.ensures.given },
  (c.in_ok-script.script, c.in_ok-script.ensures.given),
  (c.in_ok-progress.progress, c.in_ok-progress.ensures.given),
)

pub check_hints-requires : goal.check_hints-requires
check_hints-requires c = (
  record { settings = c.in_ok-settings.settings; given = c.in_ok-settings.ensures.given },
  (c.in_ok-script.script, c.in_ok-script.ensures.given),
  (c.in_ok-progress.progress, c.in_ok-progress.ensures.given),
  (c.in_ok-stats.stats, c.in_ok-stats.ensures.given),
)

pub asked_placing-requires : goal.asked_placing-requires
asked_placing-requires c = (
  record { settings = c.in_ok-settings.settings; given = c.in_ok-settings.ensures.given },
  (c.in_ok-script.script, c.in_ok-script.ensures.given),
  (
    (c.in_ok-progress.progress, c.in_ok-progress.ensures.given),
    (c.in_ok-stats.stats, c.in_ok-stats.ensures.given),
    c.in_ok-check_hints.ensures.known,
  ),
)

pub plan_form-requires : goal.plan_form-requires
plan_form-requires c = (
  record { settings = c.in_ok-settings.settings; given = c.in_ok-settings.ensures.given },
  (c.in_ok-script.script, c.in_ok-script.ensures.given),
  (
    (c.in_ok-progress.progress, c.in_ok-progress.ensures.given),
    (c.in_ok-stats.stats, c.in_ok-stats.ensures.given),
    c.in_ok-check_hints.ensures.known,
  ),
  (
    (c.in_ok-placing.placing, c.in_ok-placing.ensures.given),
    strict_known (rows_of (found_of c.args.matches.now)) c.in_ok-placing.placing
        c.in_ok-strict.strict c.in_ok-strict.ensures.given,
  ),
)

pub asked_strict-requires : goal.asked_strict-requires
asked_strict-requires c = (
  record { settings = c.in_ok-settings.settings; given = c.in_ok-settings.ensures.given },
  (c.in_ok-script.script, c.in_ok-script.ensures.given),
  (
    (c.in_ok-progress.progress, c.in_ok-progress.ensures.given),
    (c.in_ok-stats.stats, c.in_ok-stats.ensures.given),
    c.in_ok-check_hints.ensures.known,
  ),
  c.in_ok-placing.ensures.given,
)

pub returns-then-check-clause-asks : goal.returns-then-check-clause-asks
returns-then-check-clause-asks c = (
  c.in_ok-script.ensures.given,
  c.in_ok-form.ensures.form,
  c.is_set-check.ensures,
  unrun_given c.in_ok-form.form c.is_set-check.result
      (elim c.then-check.branch as (λ _. (c.is_set-check.result ≡ true)
      ⊎ (is_some c.in_ok-form.form ≡ true)) [
        | then-check-via-then-check w ↦ inl w.if-check.true
        | then-check-via-else-check+then-is_some w ↦ inr (sym w.is_some.ensures ∙ w.if-is_some.true)
      ]),
  record { settings = c.in_ok-settings.settings; given = c.in_ok-settings.ensures.given },
  (
    (c.in_ok-progress.progress, c.in_ok-progress.ensures.given),
    (c.in_ok-stats.stats, c.in_ok-stats.ensures.given),
    c.in_ok-check_hints.ensures.known,
  ),
  c.in_ok-placing.ensures.given,
  strict_known (rows_of (found_of c.args.matches.now)) c.in_ok-placing.placing
      c.in_ok-strict.strict c.in_ok-strict.ensures.given,
  c.name_of-stats_to.ensures,
  c.name_of-folder.ensures,
)
