use Rattle.std.proofs.Common.{◌≡◌, ◌≤◌, length}
use Rattle.networks.specs.Networks.{HasOpened}
use Rattle.networks.specs.Turns.{AreFaultsOf, NoneFailed, SpendsRounds}
use Rattle.networks.specs.inner.KeptNetworks.{IfRight, KeepsGrown}
use Rattle.workers.proofs.run.run_network.Given as goal

abbrev pub invariant-loop : goal.invariant-loop
invariant-loop g l =
    let before = g.F.Files.shows l.fn.files in
    let after = g.F.Files.shows l.files in
    record {
      next : (goal.iterator-loop g).can_next l.iterator';
      finite : (goal.iterator-loop g).is_finite l.iterator';
      keeps : KeepsGrown g.M.Machine.shows l.fn.network before l.network after;
      opened : HasOpened l.network after;
      unfailed : NoneFailed l.network;
      faults : AreFaultsOf l.network.nodes l.faults;
      failures : after.failures ≡ before.failures;
      given : l.given ≤ length l.groups;
      spends : IfRight g.M.Machine.shows l.fn.network before
          (λ s. SpendsRounds g.M.Machine.shows s l.rounds l.fn.network before l.network after);
    }
