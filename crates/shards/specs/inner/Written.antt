-- Texts of scripts that write what filters write.
use Rattle.std.specs.Prelude.{◌≡◌, ◌++◌, ℕ, List}
use Rattle.commands.specs.declared.spec.FilterSpec.{FilterSpec}
use Rattle.part_laws.specs.Divisions.{made_by}
use Rattle.planner.specs.Planned.{Planned}
use Rattle.planner.specs.declared.plan.Node.{Node}
use Rattle.run_types.specs.declared.names.InName.TheVariants as input
use Rattle.run_types.specs.declared.names.OutName.{OutName}
use Rattle.shards.specs.Chains.{filters_of, IsChain}
use Rattle.shards.specs.Shards.{HasPlan}
use Rattle.shards.specs.declared.fault.ShardsFault.{ShardsFault}
use Rattle.shards.specs.declared.fault.ShardsFault.TheVariants as fault

-- A text is that of a script whose plan is a chain from the standard input to this output, and its
-- filters write of every input what these write.
pub record Writes (text : List ℕ) (filters : List FilterSpec) (to : OutName) : Type 0 where
  pub plan : Planned
  pub has_plan : HasPlan text plan
  pub own : List FilterSpec
  pub chain : IsChain plan input.Standard own to
  pub same : (x : List ℕ) → made_by own x ≡ made_by filters x

-- a text could not be written, or memory was refused
abbrev pub IsUnwritten : ShardsFault → Type 0
IsUnwritten fault.NotWritten = Unit {0}
IsUnwritten fault.NoMemory = Unit {0}
IsUnwritten _ = ⊥

-- the filters of three rows of nodes
abbrev pub filters_in : (first second third : List Node) → List FilterSpec
filters_in first second third = filters_of first ++ (filters_of second ++ filters_of third)
