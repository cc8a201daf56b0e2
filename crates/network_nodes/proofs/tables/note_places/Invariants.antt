use Rattle.std.proofs.Common.{◌≡◌, ◌<◌, ℕ, length}
use Rattle.std.specs.Prelude.{Some, slice_get, slice_index}
use Rattle.graphs.specs.Graph.{IsAmong}
use Rattle.network_nodes.proofs.tables.note_places.Given as goal

abbrev pub invariant-loop-place : goal.invariant-loop-place
invariant-loop-place l = record {
  count : length l.places.items ≡ length l.fn.places.items;
  places : (j : ℕ) → j < l.place
      → slice_get l.pipes (slice_index l.places.items (slice_index l.pipes j))
      ≡ Some (slice_index l.pipes j);
  others : (p : ℕ) → (IsAmong p l.pipes → ⊥)
      → slice_get l.places.items p ≡ slice_get l.fn.places.items p;
}
