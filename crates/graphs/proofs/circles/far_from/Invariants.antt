use Rattle.std.proofs.Common.{◌≡◌, Some}
use Rattle.graphs.specs.inner.Circles.{walk}
use Rattle.graphs.proofs.circles.far_from.Given as goal

abbrev pub invariant-loop : goal.invariant-loop
invariant-loop l = walk l.next l.from l.index ≡ Some l.place
