use Rattle.std.proofs.Common.{◌≡◌, ◌+◌, length, drop, true, nat_eq}
use Rattle.planner.specs.Stages.{placed_in}
use Rattle.planner.proofs.lemmas.PlacedCommands.{AreRead}
use Rattle.planner.proofs.stage.read_pipeline.Given as goal

abbrev pub invariant-loop-place : goal.invariant-loop-place
invariant-loop-place l =
    let n = length l.initial.stages.items in
    let background = l.pipeline.background in
    record {
      count : length l.stages.items ≡ n + l.place;
      read : AreRead (placed_in n background true l.commands)
          (placed_in (n + l.place) background (nat_eq l.place 0) (drop l.place l.commands))
          l.initial.stages.items l.stages.items;
    }
