use Rattle.std.proofs.Common.{◌≡◌, ◌++◌, length, map}
use Rattle.std.specs.Vec.Iter.{into_iter_items, into_iter_len}
use Rattle.network_nodes.proofs.lemmas.FillLaws.{UpTo}
use Rattle.network_nodes.proofs.making.make_nodes.Given as goal

abbrev pub invariant-loop-node : goal.invariant-loop-node
invariant-loop-node g l =
    (goal.iterator-loop-node g).can_next l.node-iterator ×
    (goal.iterator-loop-node g).is_finite l.node-iterator ×
    (into_iter_len l.node-iterator ≡ length (into_iter_items l.node-iterator)) ×
    (l.yielded ++ into_iter_items l.node-iterator ≡ l.fn.nodes.items) ×
    UpTo g.M.Machine.shows l.settings.block l.fn.nodes.items l.pipes
    (map (λ v. v.items) l.wires) l.fn.writers.items l.fn.readers.items
    (length l.yielded) l.writers.items l.readers.items l.branches.items l.inputs.items
    l.actors.items
