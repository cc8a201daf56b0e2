-- The parts of a chain.
use Rattle.std.specs.Prelude.{◌≡◌, ℕ, suc, false, List, [], ◌∷◌, ◌++◌, length, Some}
use Rattle.commands.specs.declared.spec.FilterSpec.{FilterSpec}
use Rattle.planner.specs.Planned.{Planned}
use Rattle.planner.specs.declared.plan.Node.{Node}
use Rattle.planner.specs.declared.plan.Node.TheVariants.{Source, Stage, Sink}
use Rattle.run_types.specs.declared.names.InName.{InName}
use Rattle.run_types.specs.declared.names.OutName.{OutName}
use Rattle.shards.specs.Chains.{chained, filters_of, joints}

-- this is the stage of a filter after this many others in a chain
abbrev pub IsLink : ℕ → Node → Type 0
IsLink before node = (f : FilterSpec)
    × (node ≡ Stage (suc before) f (before ∷ []) (Some (suc before) ∷ []))

-- these nodes are a source, other nodes, and a sink
abbrev pub HasEnds : List Node → InName → List Node → OutName → Type 0
HasEnds nodes from between to = nodes ≡ Source (Some from) ∷ (between ++ Sink to ∷ [])

-- the nodes between the source and the sink of a plan are a chain, and it opens no other file
pub record IsChained (plan : Planned) (between : List Node) : Type 0 where
  pub stages : between ≡ chained 0 (filters_of between)
  pub pipes : plan.pipes ≡ joints 0 (suc (length between))
  pub inputs : length plan.inputs ≡ 1
  pub outputs : length plan.outputs ≡ 1
  pub result : plan.result ≡ (length between, false)
