use Rattle.std.proofs.Common.{refl, inl, inr}
use Rattle.clap.specs.Walk.{texts}
use Rattle.program.specs.Outputs.{StopsRequest}
use Rattle.program.specs.declared.ending.Refusal.TheVariants as refusal
use Rattle.program.proofs.lemmas.PlacingLaws.{by_status}
use Rattle.program.proofs.lemmas.RunLaws.{refused_for, refused_unwritten, reported, reported_within}
use Rattle.program.proofs.lemmas.RunLaws.{status_of_words}
use Rattle.program.proofs.answering.command.Goals as goal

pub returns-in-Ok-clause-statuses : goal.returns-in-Ok-clause-statuses
returns-in-Ok-clause-statuses g c =
    reported_within c.report.result c.answer-came_to.result c.report.ensures.ended
    c.report.ensures.refused

pub returns-in-Ok-clause-refused : goal.returns-in-Ok-clause-refused
returns-in-Ok-clause-refused g c =
    refused_unwritten g.F.Files.contents_known c.in-Ok.request
    (g.F.Files.shows c.args.files.now) (g.F.Files.shows c.answer-came_to.new.files)
    c.report.result c.answer-came_to.result c.report.ensures.ended c.answer-came_to.ensures.kept

pub returns-in-Ok-clause-cause : goal.returns-in-Ok-clause-cause
returns-in-Ok-clause-cause g c = λ two.
    let why =
    refused_for g.F.Files.contents_known c.in-Ok.request
    (g.F.Files.shows c.args.files.now) (g.F.Files.shows c.answer-came_to.new.files)
    c.report.result c.answer-came_to.result c.report.ensures.ended c.answer-came_to.ensures.cause
    two in
    (why.0, inr (c.in-Ok.request, c.in-Ok.ensures.asks, why.1))

pub returns-in-Ok-clause-ended : goal.returns-in-Ok-clause-ended
returns-in-Ok-clause-ended g c =
    let old = g.F.Files.shows c.args.files.now in
    let new = g.F.Files.shows c.answer-came_to.new.files in
    status_of_words g.F.Files.contents_known
    (texts c.args.words.now) c.in-Ok.request c.in-Ok.ensures.asks
    old new c.report.result
    (reported g.F.Files.contents_known c.in-Ok.request old new c.report.result
    c.answer-came_to.result
    c.report.ensures.ended c.answer-came_to.ensures.ended c.report.ensures.refused)

pub returns-in-Ok-clause-all_or_nothing : goal.returns-in-Ok-clause-all_or_nothing
returns-in-Ok-clause-all_or_nothing g c = λ t.
    inr (
      c.in-Ok.request,
      c.in-Ok.ensures.asks,
      λ atomic. by_status (StopsRequest c.in-Ok.request (g.F.Files.shows c.args.files.now)
          (g.F.Files.shows c.answer-came_to.new.files)) (g.F.Files.shows c.args.files.now)
          (g.F.Files.shows c.answer-came_to.new.files) c.report.result c.answer-came_to.result
          c.report.ensures.ended (c.answer-came_to.ensures.all_or_nothing t atomic)
          (c.answer-came_to.ensures.left atomic),
    )

pub returns-in-Err-clause-cause : goal.returns-in-Err-clause-cause
returns-in-Err-clause-cause g c = λ refused.
    let misuse = c.in-Err.misuse in
    (refusal.Words misuse, inl (misuse, refl, c.in-Err.ensures.misused, refl))
