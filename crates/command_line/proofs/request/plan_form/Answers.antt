use Rattle.std.proofs.Common.{subst}
use Rattle.clap.specs.Words.{found_of, rows_of}
use Rattle.command_line.specs.Requests.{GivesTextForm}
use Rattle.command_line.proofs.lemmas.Readings.{pictured_too}
use Rattle.command_line.proofs.request.plan_form.Goals as goal

pub returns-in-Some-true-clause-misused : goal.returns-in-Some-true-clause-misused
returns-in-Some-true-clause-misused c =
    let rows = rows_of (found_of c.args.matches.now) in
    let two =
    pictured_too rows c.in-Some-true.field-0-0
    (subst (GivesTextForm rows) c.in-Some-true.is-0 c.in_ok-text.ensures.form)
    c.in-Some-true.ensures in
    (c.requires.0, c.requires.1, c.requires.2, c.requires.3, two.0, two.1, two.2)
