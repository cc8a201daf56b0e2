use Rattle.std.proofs.Common.{◌≡◌, ◌<◌, ℕ, length}
use Rattle.std.specs.Prelude.{Some, slice_get}
use Rattle.network_nodes.specs.inner.MadeNodes.{link_of}
use Rattle.network_nodes.proofs.tables.links_of.Given as goal

abbrev pub invariant-loop-pipe : goal.invariant-loop-pipe
invariant-loop-pipe l = record {
  count : length l.links.items ≡ l.pipe;
  each : (p : ℕ) → p < l.pipe → slice_get l.links.items p
      ≡ Some (link_of l.pipes l.branches l.inputs p);
}
