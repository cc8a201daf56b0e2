use Rattle.std.proofs.Common.{sym, subst, Option, ◌+◌}
use Rattle.folders.specs.declared.fault.OutputFault.{OutputFault}
use Rattle.folders.proofs.Lists.{read_at}
use Rattle.folders.proofs.lemmas.Leaving.{LeftSoFar, left_none, left_gone, left_one}
use Rattle.folders.proofs.steps.leave_all.Goals.{in-Err, in_default}
use Rattle.folders.proofs.steps.leave_all.Goals as goal

pub loop-output-init : goal.loop-output-init
loop-output-init g c known = left_none c.args.outputs.now (g.F.Folder.shows c.args.folder.now) (g.F.Folder.moments known c.args.folder.now)

pub loop-output-preserved : goal.loop-output-preserved
loop-output-preserved g c known =
    let os = c.args.outputs.now in
    let i = c.loop-output.output in
    let o = c.index-outputs-output.result in
    let s0 = g.F.Folder.shows c.args.folder.now in
    let s = g.F.Folder.shows c.loop-output.folder in
    let s' = g.F.Folder.shows c.remove.new.self in
    let at = read_at os i o c.loop-output-test.true c.index-outputs-output.is in
    let counts = g.F.Folder.moments known c.loop-output.folder in
    elim c.match-remove.branch [
      | in-Err w ↦ subst (λ (left : Option OutputFault). LeftSoFar os (i + 1) left s0 s') (sym w.left-is)
          (left_one os i o c.loop-output.left s0 s s' at counts (c.loop-output.invariant known) (c.remove.ensures.touches known) (c.remove.ensures.looks known) (c.remove.ensures.loses known) w.in-Err.why (w.in-Err.ensures.cause known))
      | in_default w ↦ subst (λ (left : Option OutputFault). LeftSoFar os (i + 1) left s0 s') (sym w.left-is)
          (left_gone os i o c.loop-output.left s0 s s' at counts (c.loop-output.invariant known) (c.remove.ensures.touches known) (c.remove.ensures.looks known) (c.remove.ensures.loses known) (w.in_default.ensures.gone known) (w.in_default.ensures.cause known))
    ]
