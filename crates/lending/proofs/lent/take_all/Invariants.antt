use Rattle.std.proofs.Common.{◌≤◌, length, vec_capacity}
use Rattle.lending.proofs.lemmas.TakeLaws.{Taken}
use Rattle.lending.proofs.lent.take_all.Given as goal

abbrev pub invariant-loop-k : goal.invariant-loop-k
invariant-loop-k g l = record {
  taken : Taken l.wanted l.k l.places.items l.stages.items l.fn.nodes l.nodes;
  room : length l.wanted ≤ vec_capacity l.places;
  more : length l.wanted ≤ vec_capacity l.stages;
}
