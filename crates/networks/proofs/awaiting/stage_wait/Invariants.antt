use Rattle.std.proofs.Common.{◌≡◌, ◌<◌, length}
use Rattle.std.specs.Prelude.{IfSome}
use Rattle.machine.specs.Whole.{StreamAnswer}
use Rattle.collector.specs.Files.{FilesShown}
use Rattle.run_types.specs.declared.node_state.NodeState.TheVariants as state
use Rattle.stages.specs.Owed.{owed_size}
use Rattle.stages.specs.inner.Steps.{InCase, part}
use Rattle.networks.specs.Networks.{state_by}
use Rattle.networks.proofs.lemmas.AwaitLaws.{IsFirstSoFar, so_far}
use Rattle.networks.proofs.awaiting.stage_wait.Given as goal

abbrev pub invariant-loop-branch : goal.invariant-loop-branch
invariant-loop-branch g l =
    IfSome l.first (λ p. p < length l.pipes)
    × ((files : FilesShown) (answer : StreamAnswer) → InCase g.M.Machine.shows answer l.stage
    → l.stage.state ≡ state.Running →
    (let st = state_by g.M.Machine.shows l.nodes l.pipes files in
    let x = part g.M.Machine.shows l.stage in
    IsFirstSoFar st (owed_size x) (so_far st x l.stage.outlet.pipes l.stage.outlet.served l.branch)
    l.first))
