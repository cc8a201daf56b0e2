use Rattle.std.proofs.Common.{◌≡◌, ◌≤◌, ℕ, [], map, vec_len, vec_capacity}
use Rattle.network_nodes.specs.inner.MadeNodes.{wires_at}
use Rattle.network_nodes.proofs.tables.no_wires.Given as goal

abbrev pub invariant-loop : goal.invariant-loop
invariant-loop l = record {
  count : vec_len l.wires ≡ l.counter;
  room : l.count ≤ vec_capacity l.wires;
  empty : (k : ℕ) → wires_at (map (λ v. v.items) l.wires.items) k ≡ [];
}
