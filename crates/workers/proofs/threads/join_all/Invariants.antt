use Rattle.std.proofs.Common.{◌≡◌, ◌≤◌, ◌+◌, ◌++◌, map, vec_len, vec_capacity}
use Rattle.std.specs.List.{AllZip}
use Rattle.std.specs.Vec.Iter.{into_iter_items, into_iter_len}
use Rattle.lending.specs.inner.Loans.{GroupGoesOn}
use Rattle.workers.specs.inner.Begun.{begun_from}
use Rattle.workers.proofs.threads.join_all.Given as goal

abbrev pub invariant-loop-worker : goal.invariant-loop-worker
invariant-loop-worker g l =
    AllZip (GroupGoesOn g.M.Machine.shows) (map begun_from l.yielded) l.joined.items
    × (l.yielded ++ into_iter_items l.worker-iterator ≡ l.fn.begun.items)
    × (vec_len l.joined + into_iter_len l.worker-iterator ≤ vec_capacity l.joined)
