use Rattle.std.proofs.Common.{◌≡◌, ℕ, length, take}
use Rattle.networks.specs.Turns.{AreSteps, Reaches, NoneFailed}
use Rattle.networks.specs.Networks.{HasOpened, network_state}
use Rattle.networks.specs.inner.KeptNetworks.{IfRight, Keeps}
use Rattle.networks.proofs.network.Network.step_each.Given as goal

abbrev pub invariant-loop-node : goal.invariant-loop-node
invariant-loop-node g l =
    let shows = g.M.Machine.shows in
    let before = g.F.Files.shows l.fn.files in
    let after = g.F.Files.shows l.files in
    record {
      opened : HasOpened l.self after;
      keeps : Keeps shows l.fn.self before l.self after;
      count : length l.answers ≡ length l.self.nodes;
      reaches : (failures : ℕ) → Reaches failures before.failures → Reaches failures after.failures;
      sound : NoneFailed l.self → after.failures ≡ before.failures;
      round : IfRight shows l.fn.self before
          (λ s. AreSteps s 0 (network_state shows l.fn.self before)
          (network_state shows l.self after) before.failures after.failures
          (take l.node l.answers));
    }
