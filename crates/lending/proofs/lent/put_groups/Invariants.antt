use Rattle.std.proofs.Common.{◌≡◌, ◌<◌, ◌+◌, length}
use Rattle.std.specs.List.{AllByRecursion}
use Rattle.lending.specs.inner.Loans.{fill}
use Rattle.lending.proofs.lent.put_groups.Given as goal

abbrev pub invariant-loop-done : goal.invariant-loop-done
invariant-loop-done g l = record {
  left : l.done + length l.groups.items ≡ l.done-end;
  within : AllByRecursion (λ h. AllByRecursion (λ k. k < length l.nodes) h.places) l.groups.items;
  put : fill l.groups.items l.nodes ≡ fill l.fn.groups.items l.fn.nodes;
}
