use Rattle.std.proofs.Common.{◌≡◌, ◌≤◌, length, map, drop, vec_len, vec_capacity}
use Rattle.std.specs.List.{AllByRecursion}
use Rattle.lending.specs.inner.Loans.{IsStageAt, AreOut, AreSeparate, filled}
use Rattle.workers.proofs.phase.lend_all.Given as goal

abbrev pub invariant-loop-k : goal.invariant-loop-k
invariant-loop-k g l = record {
  out : AreOut l.network.nodes l.groups.items;
  back : filled l.network l.groups.items ≡ l.fn.network;
  left : AllByRecursion (AllByRecursion (IsStageAt l.network.nodes))
      (map (λ v. v.items) (drop l.k l.table));
  once : AreSeparate (map (λ v. v.items) (drop l.k l.table));
  count : vec_len l.groups ≡ l.k;
  room : length l.table ≤ vec_capacity l.groups;
}
