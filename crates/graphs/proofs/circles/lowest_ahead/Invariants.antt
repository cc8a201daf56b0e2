use Rattle.std.proofs.Common.{◌≡◌, ◌≤◌, ℕ, Some}
use Rattle.graphs.specs.inner.Circles.{walk}
use Rattle.graphs.proofs.circles.lowest_ahead.Given as goal

abbrev pub invariant-loop : goal.invariant-loop
invariant-loop l = record {
  here : walk l.next l.from l.index ≡ Some l.place;
  reached : (n : ℕ) × (walk l.next l.from n ≡ Some l.low);
  lowest : (n k : ℕ) → n ≤ l.index → walk l.next l.from n ≡ Some k → l.low ≤ k;
}
