use Rattle.std.proofs.Common.{arith}
use Rattle.networks.proofs.lemmas.OwnLaws.{ends_within}
use Rattle.networks.proofs.lemmas.Made.{owned_by, makes}
use Rattle.networks.proofs.network.Network.new.Goals as goal

pub wires_of-requires : goal.wires_of-requires
wires_of-requires g c =
    ends_within g.M.Machine.shows c.args.nodes.items c.args.pipes.now c.requires.plan c.len.result
    (omega (arith, c.len.ensures, c.args.nodes.ok.0))

pub make_nodes-requires-clause-own : goal.make_nodes-requires-clause-own
make_nodes-requires-clause-own g c =
    owned_by g.M.Machine.shows c.args.nodes.items c.args.pipes.now c.requires.plan c.len.result
    (omega (arith, c.len.ensures, c.args.nodes.ok.0)) c.in_ok-wires.wires.items
    c.in_ok-wires.ensures c.as_slice.result.now c.as_slice.ensures.value

pub invariant_of-result : goal.invariant_of-result
invariant_of-result g c =
    let sizes = c.args.settings in
    let m = makes g.M.Machine.shows c.args.nodes.items c.args.pipes.now c.requires.plan c.len.result
    (omega (arith, c.len.ensures, c.args.nodes.ok.0)) c.in_ok-wires.wires.items
    c.in_ok-wires.ensures g.met.M.Machine.lawful c.args.status sizes.capacity sizes.max_capacity
    sizes.bytes sizes.block sizes.small_pipes.0
    (sizes.ordered_capacities, sizes.growing_pipes.1) sizes.roomy_pipes
    c.in_ok-writers.writers.items c.in_ok-writers.readers.items c.in_ok-writers.ensures
    c.as_slice.result.now c.as_slice.ensures.value c.in_ok-made.made.0.items
    c.in_ok-made.made.1.items c.in_ok-made.ensures in
    m.joined

pub returns : goal.returns
returns g c =
    let sizes = c.args.settings in
    let m = makes g.M.Machine.shows c.args.nodes.items c.args.pipes.now c.requires.plan c.len.result
    (omega (arith, c.len.ensures, c.args.nodes.ok.0)) c.in_ok-wires.wires.items
    c.in_ok-wires.ensures g.met.M.Machine.lawful c.args.status sizes.capacity sizes.max_capacity
    sizes.bytes sizes.block sizes.small_pipes.0
    (sizes.ordered_capacities, sizes.growing_pipes.1) sizes.roomy_pipes
    c.in_ok-writers.writers.items c.in_ok-writers.readers.items c.in_ok-writers.ensures
    c.as_slice.result.now c.as_slice.ensures.value c.in_ok-made.made.0.items
    c.in_ok-made.made.1.items c.in_ok-made.ensures in
    record {
      opened = m.opened;
      right = m.right;
      empty = m.empty;
      room = m.room;
      nodes =
          m.nodes_are;
    }
