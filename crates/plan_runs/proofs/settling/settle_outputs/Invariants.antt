use Rattle.std.proofs.Common.{◌≡◌, ◌<◌, ℕ, []}
use Rattle.networks.specs.Turns.{out_by}
use Rattle.step_scheduler.specs.Setups.{output_file}
use Rattle.plan_runs.specs.Runs.{SettlesPlan}
use Rattle.plan_runs.proofs.settling.settle_outputs.Given as goal

abbrev pub invariant-loop-node : goal.invariant-loop-node
invariant-loop-node g l = record {
  settles : SettlesPlan l.plan l.opened (g.F.Files.shows l.initial.files)
      (g.F.Files.shows l.files);
  below : (k : ℕ) → k < l.node
      → out_by (g.F.Files.shows l.files) (output_file l.plan l.opened k) ≡ [];
}
