use Rattle.std.proofs.Common.{◌≡◌, ◌<◌, ℕ, length}
use Rattle.std.specs.Prelude.{Some, slice_get, slice_index}
use Rattle.network_nodes.proofs.tables.take_ends.Given as goal

abbrev pub invariant-loop-pipe : goal.invariant-loop-pipe
invariant-loop-pipe g l = record {
  count : length l.slots.items ≡ length l.fn.slots.items;
  long : length l.ends.items ≡ l.pipe-index;
  each : (j : ℕ) → j < l.pipe-index → slice_get l.fn.slots.items (slice_index l.pipes j)
      ≡ Some (slice_get l.ends.items j);
  others : (p : ℕ) → ((j : ℕ) → j < l.pipe-index → slice_index l.pipes j ≡ p → ⊥)
      → slice_get l.slots.items p ≡ slice_get l.fn.slots.items p;
}
