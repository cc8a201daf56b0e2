use Rattle.std.proofs.Common.{◌≡◌, ℕ, ◌-◌, ◌≤◌, length}
use Rattle.networks.specs.Networks.{HasOpened}
use Rattle.networks.specs.Turns.{AreFaultsOf, AreRounds, Reaches}
use Rattle.networks.specs.inner.KeptNetworks.{IfRight, KeepsGrown, SpendsAll}
use Rattle.networks.proofs.network.Network.run_rounds.Given as goal

abbrev pub invariant-loop-spent : goal.invariant-loop-spent
invariant-loop-spent g l =
    let shows = g.M.Machine.shows in
    let before = g.F.Files.shows l.fn.files in
    let after = g.F.Files.shows l.files in
    record {
      opened : HasOpened l.self after;
      answers : length l.answers ≡ length l.self.nodes;
      faults : AreFaultsOf l.self.nodes l.faults;
      kept : l.faults ≡ l.fn.faults;
      keeps : KeepsGrown shows l.fn.self before l.self after;
      turns : IfRight shows l.fn.self before
          (λ s. AreRounds shows s l.spent l.fn.self before l.self after);
      spends : SpendsAll shows l.spent l.fn.self before l.self after;
      reaches : (failures : ℕ) → Reaches failures before.failures → Reaches failures after.failures;
      within : l.spent ≤ l.rounds;
    }

abbrev pub decreases-loop-spent : goal.decreases-loop-spent
decreases-loop-spent g l = l.rounds - l.spent
