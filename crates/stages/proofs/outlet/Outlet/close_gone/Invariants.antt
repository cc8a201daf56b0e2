use Rattle.std.proofs.Common.{◌≡◌, ℕ, ◌<◌, ◌-◌, length}
use Rattle.std.specs.List.{HoldsAt}
use Rattle.splice_tee.specs.BranchStates.{IsLacking}
use Rattle.stages.specs.inner.Steps.{IsUnmarked}
use Rattle.stages.proofs.outlet.Outlet.close_gone.Given as goal

abbrev pub invariant-loop-k : goal.invariant-loop-k
invariant-loop-k l = record {
  same : l.self ≡ l.fn.self;
  seen : (j : ℕ) → j < l.from → IsLacking l.self.served j → HoldsAt IsUnmarked l.self.ends j;
}

abbrev pub decreases-loop-k : goal.decreases-loop-k
decreases-loop-k l = length l.self.served - l.from
