-- The fault of a source, and its name.
use Rattle.std.proofs.Common.{◌≡◌, Option, Some, None, IsSome, refl, subst}
use Rattle.collector.specs.inner.Copies.{named, IsSourceFaulted}
use Rattle.run_types.specs.declared.names.InName.{InName}
use Rattle.run_types.specs.declared.node_state.NodeState.{NodeState}
use Rattle.run_types.specs.declared.node_state.NodeState.TheVariants as states
use Rattle.collector.specs.declared.fault.RunFault.{RunFault}

-- a source that runs has its name itself
pub named-running : (state : NodeState) (name : Option InName) (fault : Option RunFault)
    → state ≡ states.Running → IsSourceFaulted state fault → named name fault ≡ name
named-running state name None r h = refl
named-running (states.Failed kind) name (Some fault) r h = cc
named-running _ name _ r h = absurd h

-- and so it has one if one is shown
pub has_name : (state : NodeState) (name : Option InName) (fault : Option RunFault)
    → state ≡ states.Running → IsSourceFaulted state fault → IsSome (named name fault) → IsSome name
has_name state name fault r h s = subst (λ (n : Option InName). IsSome n)
    (named-running state name fault r h) s
