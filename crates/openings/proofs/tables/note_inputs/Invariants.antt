use Rattle.std.proofs.Common.{◌≡◌, ℕ, ◌≤◌, ◌<◌, length, drop}
use Rattle.openings.specs.Answers.{answer_at, first_answer, input_nodes}
use Rattle.openings.proofs.tables.note_inputs.Given as goal

abbrev pub invariant-loop-place : goal.invariant-loop-place
invariant-loop-place l = record {
  within : l.place ≤ length l.answers;
  count : length l.own ≡ length l.initial.own;
  noted : (k : ℕ) → k < length l.own → answer_at l.own k
      ≡ first_answer (drop l.place (input_nodes l.openings)) (drop l.place l.answers) k
      (answer_at l.initial.own k);
}

abbrev pub decreases-loop-place : goal.decreases-loop-place
decreases-loop-place l = l.place
