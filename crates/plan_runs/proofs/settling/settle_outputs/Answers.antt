use Rattle.std.proofs.Common.{◌≡◌, ◌≤◌, ℕ, List, [], length, ⊎_elim, subst, sym, arith}
use Rattle.planner.specs.declared.plan.Node.{Node}
use Rattle.std.proofs.lemmas.Bool.{cases_eq, cases_lt}
use Rattle.networks.specs.Turns.{out_by}
use Rattle.step_scheduler.specs.Setups.{output_file}
use Rattle.plan_runs.proofs.lemmas.SettleLaws.{none_past, settles_on}
use Rattle.plan_runs.proofs.settling.settle_outputs.Goals as goal

pub loop-node-preserved : goal.loop-node-preserved
loop-node-preserved g c =
    let old = g.F.Files.shows c.args.files.now in
    let mid = g.F.Files.shows c.loop-node.files in
    let new = g.F.Files.shows c.settle_node.new.files in
    let plan = c.args.plan.now in
    let o = c.args.opened.now in
    let settles = c.settle_node.ensures.settles in
    record {
      settles = settles_on plan o old mid new c.loop-node.invariant.settles settles;
      below = λ k lt. ⊎_elim
          (λ e. subst (λ (i : ℕ). out_by new (output_file plan o i) ≡ []) (sym e)
          c.settle_node.ensures.settled)
          (λ ne. settles.still k (c.loop-node.invariant.below k (omega (arith, lt, ne))))
          (cases_eq k c.loop-node.node);
    }

pub returns-clause-settled : goal.returns-clause-settled
returns-clause-settled g c = λ k. ⊎_elim
    (λ lt. c.loop-node.invariant.below k lt)
    (λ ge. none_past c.args.plan.now c.args.opened.now (g.F.Files.shows c.loop-node.files) k
    (subst (λ (ns : List Node). length ns ≤ k) c.order-node-end.ensures
    (omega (arith, c.loop-node-test.false, ge))))
    (cases_lt k c.loop-node.node)
