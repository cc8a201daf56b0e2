use Rattle.std.proofs.Common.{◌≡◌, ◌-◌, ◌≤◌, IfSome, length}
use Rattle.file_stores.proofs.lemmas.PlacedLaws.{PassedOver}
use Rattle.file_stores.proofs.placed.search_back.Given as goal

abbrev pub invariant-loop-at : goal.invariant-loop-at
invariant-loop-at g l = record {
  within : l.at ≤ l.end;
  after : l.first ≤ l.at;
  room : length l.block ≡ length l.fn.block;
  passed : IfSome (g.F.AnyPlace.placed l.file) (λ p. PassedOver l.passed l.end l.at l.left p.bytes);
}

abbrev pub decreases-loop-at : goal.decreases-loop-at
decreases-loop-at g l = l.at - l.first
