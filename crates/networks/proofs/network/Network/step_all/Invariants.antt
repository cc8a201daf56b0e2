use Rattle.std.proofs.Common.{◌+◌, ◌≤◌, take}
use Rattle.network_laws.specs.State.{events}
use Rattle.networks.specs.Networks.{HasOpened, network_state}
use Rattle.networks.specs.Turns.{RunsSchedule}
use Rattle.networks.specs.inner.KeptNetworks.{IfRight, Keeps}
use Rattle.networks.specs.inner.Traces.{StepsAll}
use Rattle.networks.proofs.network.Network.step_all.Given as goal

abbrev pub invariant-loop-node : goal.invariant-loop-node
invariant-loop-node g l =
    let shows = g.M.Machine.shows in
    let before = g.F.Files.shows l.fn.files in
    let after = g.F.Files.shows l.files in
    record {
      opened : HasOpened l.self after;
      keeps : Keeps shows l.fn.self before l.self after;
      ran : RunsSchedule shows (take l.node-index l.nodes) l.fn.self before l.self after l.moved;
      steps : StepsAll shows (take l.node-index l.nodes) l.fn.self before l.self after;
      most : l.moved ≤ l.node-index;
      events : IfRight shows l.fn.self before
          (λ s. l.moved + events s.graph (network_state shows l.fn.self before) ≤ events s.graph
          (network_state shows l.self after));
    }
