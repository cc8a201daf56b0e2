use Rattle.clap.specs.Words.{found_of, rows_of}
use Rattle.clap.specs.Walk.{texts}
use Rattle.command_line.proofs.lemmas.Asked.{asked_if}
use Rattle.command_line.proofs.lemmas.Refusals.{misused_if}
use Rattle.command_line.proofs.request.Request.read.Goals as goal

pub returns-in-Ok-clause-asks : goal.returns-in-Ok-clause-asks
returns-in-Ok-clause-asks c = asked_if (texts c.args.words.now)
    (rows_of (found_of c.in-Ok.matches)) c.asked.result c.in-Ok.ensures.rows c.asked.ensures.asks

pub returns-in-Ok-clause-misused : goal.returns-in-Ok-clause-misused
returns-in-Ok-clause-misused c = misused_if (texts c.args.words.now)
    (rows_of (found_of c.in-Ok.matches)) c.asked.result c.in-Ok.ensures.rows c.asked.ensures.misused
