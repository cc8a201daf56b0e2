use Rattle.std.proofs.Common.{◌≡◌, ◌-◌, length}
use Rattle.stages.proofs.lemmas.ServeLaws.{ServesUpTo}
use Rattle.stages.proofs.outlet.Outlet.serve.Given as goal

abbrev pub invariant-loop-k : goal.invariant-loop-k
invariant-loop-k l = record {
  up_to : ServesUpTo l.from l.moved l.fn.self l.self;
  count : length l.self.served ≡ length l.fn.self.served;
}

abbrev pub decreases-loop-k : goal.decreases-loop-k
decreases-loop-k l = length l.self.served - l.from
