use Rattle.std.proofs.Common.{◌∙◌, List, subst}
use Rattle.folders.proofs.Alone.{alone_further}
use Rattle.folders.specs.inner.Folder.{LeavesAlone}
use Rattle.folders.specs.inner.Outputs.{IsNoNew}
use Rattle.folders.specs.declared.output.Output.{Output}
use Rattle.file_stores.proofs.lemmas.HeldReady.{put_back}
use Rattle.file_stores.proofs.host.output.make_all_ready.Goals as goal

pub returns-in_err-make_ready-clause-others : goal.returns-in_err-make_ready-clause-others
returns-in_err-make_ready-clause-others g c known =
    alone_further (g.D.Folder.moments known c.loop-file.holding.disk) (c.loop-file.invariant.alone known)
    (subst (λ (os : List Output). LeavesAlone (IsNoNew os) (g.D.Folder.shows c.loop-file.holding.disk) (g.D.Folder.shows c.make_ready.new.holding.disk))
    c.loop-file.invariant.held (c.make_ready.ensures.others known))

pub loop-file-preserved : goal.loop-file-preserved
loop-file-preserved g c = record {
  same = put_back c.loop-file.outputs.items c.loop-file.file c.index_mut.result.now c.make_ready.new.self c.make_ready.ensures.same c.index_mut.ensures.value
      ∙ c.loop-file.invariant.same;
  held = c.make_ready.ensures.outputs ∙ c.loop-file.invariant.held;
  alone = λ known. alone_further (g.D.Folder.moments known c.loop-file.holding.disk) (c.loop-file.invariant.alone known)
      (subst (λ (os : List Output). LeavesAlone (IsNoNew os) (g.D.Folder.shows c.loop-file.holding.disk) (g.D.Folder.shows c.make_ready.new.holding.disk))
      c.loop-file.invariant.held (c.make_ready.ensures.others known));
}
