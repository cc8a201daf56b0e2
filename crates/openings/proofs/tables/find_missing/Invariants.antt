use Rattle.std.proofs.Common.{◌≡◌, ◌≤◌, length, take, vec_len, vec_capacity}
use Rattle.openings.specs.Answers.{missing_places}
use Rattle.openings.proofs.tables.find_missing.Given as goal

abbrev pub invariant-loop-place : goal.invariant-loop-place
invariant-loop-place l = record {
  room : length l.answers ≤ vec_capacity l.missing;
  within : vec_len l.missing ≤ l.place;
  found : l.missing.items ≡ missing_places (take l.place l.answers);
}
