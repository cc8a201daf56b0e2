use Rattle.std.proofs.Common.{◌≡◌, ℕ, ◌<◌}
use Rattle.std.specs.Prelude.{Some, slice_get}
use Rattle.bounded_pipe.specs.Ends.{Beside}
use Rattle.network_nodes.specs.declared.actor.Link.{Link}
use Rattle.network_nodes.specs.inner.Actors.{out_at, in_at}
use Rattle.networks.specs.inner.Steps.{Sees}
use Rattle.lending.proofs.lent.look_all.Given as goal

abbrev pub invariant-loop-pipe : goal.invariant-loop-pipe
invariant-loop-pipe g l = record {
  sees : Sees l.pipes l.fn.nodes l.nodes;
  each : (q : ℕ) → q < l.pipe → (m : Link) → slice_get l.pipes q ≡ Some m
      → Beside (out_at l.nodes m) (in_at l.nodes m);
}
