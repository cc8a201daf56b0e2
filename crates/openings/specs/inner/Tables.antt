-- Room for the answers to the openings of a plan, made before the first of them.
use Rattle.std.specs.Prelude.{◌≡◌, ◌≤◌, [], length, None, vec_capacity, replicate}
use Rattle.planner.specs.Planned.{Planned}
use Rattle.openings.specs.declared.tables.Tables.{Tables}

-- there are no answers yet, and there is room for one to each opening, and an entry for each node
pub record HasRoom (plan : Planned) (t : Tables) : Type 0 where
  pub inputs : t.inputs.items ≡ []
  pub input_room : length plan.inputs ≤ vec_capacity t.inputs
  pub outputs : t.outputs.items ≡ []
  pub output_room : length plan.outputs ≤ vec_capacity t.outputs
  pub missing : t.missing.items ≡ []
  pub missing_room : length plan.inputs ≤ vec_capacity t.missing
  pub own : t.own.items ≡ replicate (length plan.nodes) None
