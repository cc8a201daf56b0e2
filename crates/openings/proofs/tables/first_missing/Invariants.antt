use Rattle.std.proofs.Common.{◌≡◌, [], take}
use Rattle.openings.specs.Answers.{missing_places}
use Rattle.openings.proofs.tables.first_missing.Given as goal

abbrev pub invariant-loop-place : goal.invariant-loop-place
invariant-loop-place l = [] ≡ missing_places (take l.place l.answers)
