use Rattle.std.proofs.Common.{◌≡◌, ◌<◌, ◌+◌, length}
use Rattle.std.specs.List.{AllByRecursion}
use Rattle.lending.specs.inner.Loans.{put_all}
use Rattle.lending.proofs.lent.put_group.Given as goal

abbrev pub invariant-loop-done : goal.invariant-loop-done
invariant-loop-done g l = record {
  count : length l.stages.items ≡ length l.places.items;
  left : l.done + length l.places.items ≡ l.done-end;
  within : AllByRecursion (λ k. k < length l.nodes) l.places.items;
  put : put_all l.places.items l.stages.items l.nodes
      ≡ put_all l.fn.group.places l.fn.group.stages l.fn.nodes;
}
