use Rattle.std.proofs.Common.{length, drop, []}
use Rattle.planner.specs.Stages.{placed, placed_from}
use Rattle.planner.proofs.lemmas.PlacedCommands.{AreRead}
use Rattle.planner.proofs.stage.read_stages.Given as goal

abbrev pub invariant-loop-pipeline : goal.invariant-loop-pipeline
invariant-loop-pipeline l = AreRead (placed l.script)
    (placed_from (length l.stages.items) (drop l.pipeline-index l.script.pipelines))
    [] l.stages.items
