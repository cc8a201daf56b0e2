use Rattle.std.proofs.Common.{◌≡◌, ◌≤◌, ◌+◌, ◌++◌, map, vec_len, vec_capacity}
use Rattle.std.specs.Vec.Iter.{into_iter_items, into_iter_len}
use Rattle.workers.specs.inner.Begun.{begun_from}
use Rattle.workers.proofs.threads.begin_all.Given as goal

abbrev pub invariant-loop-group : goal.invariant-loop-group
invariant-loop-group g l =
    (map begun_from l.begun.items ≡ l.yielded)
    × (l.yielded ++ into_iter_items l.group-iterator ≡ l.fn.groups.items)
    × (vec_len l.begun ≡ l.worker)
    × (l.worker + into_iter_len l.group-iterator ≡ vec_len l.fn.groups)
    × (vec_len l.fn.groups ≤ vec_capacity l.begun)
