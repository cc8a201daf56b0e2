use Rattle.std.proofs.Common.{◌≡◌, List, Some, subst}
use Rattle.std.specs.Prelude.{OnOk, slice_get}
use Rattle.folders.specs.inner.Folder.{IsStored, LeavesAlone}
use Rattle.folders.specs.inner.Outputs.{IsNoNew}
use Rattle.folders.specs.declared.output.Output.{Output}
use Rattle.held_outputs.specs.inner.Holding.{HoldingShown}
use Rattle.held_outputs.proofs.holding.Holding.end.Goals as goal

pub returns-clause-others : goal.returns-clause-others
returns-clause-others g c known =
    subst (λ (h : HoldingShown _). LeavesAlone (IsNoNew h.outputs) (g.D.Folder.shows h.disk) (g.D.Folder.shows c.end_at.new.disk)) c.self.view_is
    (subst (λ (os : List Output). LeavesAlone (IsNoNew os) (g.D.Folder.shows c.self.inside.disk) (g.D.Folder.shows c.end_at.new.disk))
    c.as_slice-2.ensures.value (c.end_at.ensures.others known))

pub returns-clause-stored : goal.returns-clause-stored
returns-clause-stored g c known stores =
    subst (λ (h : HoldingShown _). OnOk c.end_at.result ((o : Output) → slice_get h.outputs c.args.number ≡ Some o → IsStored o.new (g.D.Folder.shows c.end_at.new.disk))) c.self.view_is
    (subst (λ (os : List Output). OnOk c.end_at.result ((o : Output) → slice_get os c.args.number ≡ Some o → IsStored o.new (g.D.Folder.shows c.end_at.new.disk)))
    c.as_slice-2.ensures.value (c.end_at.ensures.stored known stores))
