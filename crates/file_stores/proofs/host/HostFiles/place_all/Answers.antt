use Rattle.std.proofs.Common.{subst}
use Rattle.std.specs.Prelude.{OnOk}
use Rattle.folders.specs.inner.Outputs.{AllLast, AllStored, LosesNothing}
use Rattle.file_stores.specs.inner.Host.{HostShown}
use Rattle.file_stores.proofs.host.HostFiles.place_all.Goals as goal

pub returns-clause-loses : goal.returns-clause-loses
returns-clause-loses g c known =
    let new = g.D.Folder.shows c.place.new.self.disk in
    subst (λ (h : HostShown _). AllStored h.holding.outputs (g.D.Folder.shows h.holding.disk) → LosesNothing h.holding.outputs (g.D.Folder.shows h.holding.disk) new)
    c.self.view_is (c.place.ensures.loses known)

pub returns-clause-stored : goal.returns-clause-stored
returns-clause-stored g c known all stores =
    let new = g.D.Folder.shows c.place.new.self.disk in
    subst (λ (h : HostShown _). AllStored h.holding.outputs (g.D.Folder.shows h.holding.disk) → OnOk c.place.result (AllLast h.holding.outputs (g.D.Folder.shows h.holding.disk).seen new))
    c.self.view_is (λ held. c.place.ensures.stored known held stores) all
