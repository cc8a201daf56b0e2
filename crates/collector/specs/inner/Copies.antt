-- What the code of a source and of a sink keeps besides what they show.
use Rattle.std.specs.Prelude.{Option, Some, None}
use Rattle.run_types.specs.declared.names.InName.{InName}
use Rattle.run_types.specs.declared.names.OutName.{OutName}
use Rattle.run_types.specs.declared.names.OutName.TheVariants as out_names
use Rattle.run_types.specs.declared.node_state.NodeFault.TheVariants as faults
use Rattle.run_types.specs.declared.node_state.NodeState.{NodeState}
use Rattle.run_types.specs.declared.node_state.NodeState.TheVariants as states
use Rattle.collector.specs.declared.fault.RunFault.{RunFault}
use Rattle.collector.specs.declared.fault.RunFault.TheVariants as run_faults

-- the name of its file, which its fault has taken over if a read failed
abbrev pub named : Option InName → Option RunFault → Option InName
named name (Some (run_faults.ReadFault given)) = Some given
named name (Some (run_faults.WriteFault given)) = name
named name (Some (run_faults.CountTooLarge node)) = name
named name (Some run_faults.NoMemory) = name
named name None = name

-- a source that has failed has the fault, and no other has one
abbrev pub IsSourceFaulted : NodeState → Option RunFault → Type 0
IsSourceFaulted states.Running None = Unit {0}
IsSourceFaulted states.Ended None = Unit {0}
IsSourceFaulted states.Broken None = Unit {0}
IsSourceFaulted (states.Failed faults.ReadFault) (Some (run_faults.ReadFault name)) = Unit {0}
IsSourceFaulted (states.Failed faults.NoMemory) (Some run_faults.NoMemory) = Unit {0}
IsSourceFaulted _ _ = ⊥

-- the name of the file whose writes this is the fault of; a sink has such a fault from the start
abbrev pub written_to : RunFault → OutName
written_to (run_faults.WriteFault name) = name
written_to _ = out_names.Standard

-- a sink has the fault of a write, never breaks, and fails by a write alone
abbrev pub IsSinkFaulted : NodeState → RunFault → Type 0
IsSinkFaulted states.Running (run_faults.WriteFault name) = Unit {0}
IsSinkFaulted states.Ended (run_faults.WriteFault name) = Unit {0}
IsSinkFaulted (states.Failed faults.WriteFault) (run_faults.WriteFault name) = Unit {0}
IsSinkFaulted _ _ = ⊥
