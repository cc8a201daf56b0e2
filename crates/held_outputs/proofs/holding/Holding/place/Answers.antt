use Rattle.std.proofs.Common.{List, subst}
use Rattle.folders.specs.inner.Outputs.{AllLast, AllStored, LosesNothing}
use Rattle.folders.specs.declared.output.Output.{Output}
use Rattle.std.specs.Prelude.{OnOk}
use Rattle.held_outputs.specs.inner.Holding.{HoldingShown}
use Rattle.held_outputs.proofs.holding.Holding.place.Goals as goal

pub returns-then-stores-clause-loses : goal.returns-then-stores-clause-loses
returns-then-stores-clause-loses g c known =
    let new = g.D.Folder.shows c.place_stored.new.folder in
    subst (λ (h : HoldingShown _). AllStored h.outputs (g.D.Folder.shows h.disk) → LosesNothing h.outputs (g.D.Folder.shows h.disk) new) c.self.view_is
    (subst (λ (os : List Output). AllStored os (g.D.Folder.shows c.self.inside.disk) → LosesNothing os (g.D.Folder.shows c.self.inside.disk) new)
    c.as_slice.ensures.value (c.place_stored.ensures.loses known))

pub returns-then-stores-clause-stored : goal.returns-then-stores-clause-stored
returns-then-stores-clause-stored g c known all stores =
    let new = g.D.Folder.shows c.place_stored.new.folder in
    subst (λ (h : HoldingShown _). AllStored h.outputs (g.D.Folder.shows h.disk) → OnOk c.place_stored.result (AllLast h.outputs (g.D.Folder.shows h.disk).seen new)) c.self.view_is
    (subst (λ (os : List Output). AllStored os (g.D.Folder.shows c.self.inside.disk) → OnOk c.place_stored.result (AllLast os (g.D.Folder.shows c.self.inside.disk).seen new))
    c.as_slice.ensures.value (c.place_stored.ensures.stored known)) all

pub returns-else-stores-clause-loses : goal.returns-else-stores-clause-loses
returns-else-stores-clause-loses g c known =
    let new = g.D.Folder.shows c.place_renamed.new.folder in
    subst (λ (h : HoldingShown _). AllStored h.outputs (g.D.Folder.shows h.disk) → LosesNothing h.outputs (g.D.Folder.shows h.disk) new) c.self.view_is
    (subst (λ (os : List Output). AllStored os (g.D.Folder.shows c.self.inside.disk) → LosesNothing os (g.D.Folder.shows c.self.inside.disk) new)
    c.as_slice-else-stores.ensures.value (c.place_renamed.ensures.loses known))
