-- What a contract sees of a stage.
use Rattle.stages.specs.Inlets.{Taking}
use Rattle.stages.specs.Outlets.{Putting}
use Rattle.run_types.specs.declared.node_state.NodeState.{NodeState}

-- a machine, its inputs, its branches, and the state of the stage
pub record Staged (M : Type 0) : Type 0 where
  pub machine : M
  pub inlet : Taking
  pub outlet : Putting
  pub state : NodeState
