use Rattle.std.proofs.Common.{◌≡◌, ◌<◌, ℕ, ◌⊎◌, length, map}
use Rattle.std.specs.Prelude.{Some, Contains, slice_get, slice_index_or}
use Rattle.network_nodes.specs.inner.MadeNodes.{wires_at}
use Rattle.network_nodes.proofs.tables.wires_of.Given as goal

abbrev pub invariant-loop-pipe : goal.invariant-loop-pipe
invariant-loop-pipe l = record {
  lists : length l.wires.items ≡ l.count;
  all : (p : ℕ) → p < l.pipe
      → Contains (wires_at (map (λ v. v.items) l.wires.items) (slice_index_or l.pipes p (0, 0)).0) p
      × Contains (wires_at (map (λ v. v.items) l.wires.items) (slice_index_or l.pipes p (0, 0)).1)
      p;
  only : (k i p : ℕ) → slice_get (wires_at (map (λ v. v.items) l.wires.items) k) i ≡ Some p
      → (p < l.pipe) × (((slice_index_or l.pipes p (0, 0)).0 ≡ k)
      ⊎ ((slice_index_or l.pipes p (0, 0)).1 ≡ k));
}
