use Rattle.std.proofs.Common.{ap, ◌∙◌}
use Rattle.network_nodes.proofs.ShareLaws.{present_some, present_none}
use Rattle.network_nodes.proofs.making.present_of.Goals.{in-Some+in_ok-push, in_default}
use Rattle.network_nodes.proofs.making.present_of.Goals as goal

pub loop-branch-preserved : goal.loop-branch-preserved
loop-branch-preserved c = elim c.match-branch.branch [
  | in-Some+in_ok-push w ↦
      present_some c.args.branches.now c.loop-branch.branch-index w.in-Some.pipe
      c.loop-branch.pipes.items c.match-branch.pipes.items c.loop-branch-test.true w.in-Some.is
      c.loop-branch.invariant (ap (λ v. v.items) w.pipes-is ∙ w.in_ok-push.ensures.items)
  | in_default w ↦
      present_none c.args.branches.now c.loop-branch.branch-index c.loop-branch.pipes.items
      c.match-branch.pipes.items c.loop-branch-test.true w.in_default.is c.loop-branch.invariant
      (ap (λ v. v.items) w.pipes-is)
]
