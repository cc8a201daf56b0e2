use Rattle.std.proofs.Common.{◌≡◌}
use Rattle.std.specs.Prelude.{IfSome}
use Rattle.collector.specs.Files.{FilesShown}
use Rattle.network_laws.specs.State.{Setup}
use Rattle.networks.specs.Networks.{Networked, IsRight, state_by}
use Rattle.networks.specs.inner.Candidates.{IsWithin, IsFirst}
use Rattle.networks.proofs.choosing.next_to_grow.Given as goal

abbrev pub invariant-loop-node : goal.invariant-loop-node
invariant-loop-node g l = record {
  within : IfSome l.next (λ c. IsWithin l.nodes l.pipes l.most c.pipe);
  first : (s : Setup) (files : FilesShown) (n : Networked g.row.M.Denot) → n.nodes ≡ l.nodes
      → n.pipes ≡ l.pipes → n.most ≡ l.most → IsRight g.M.Machine.shows s n files →
      IsFirst s (state_by g.M.Machine.shows l.nodes l.pipes files) l.node l.next;
}
