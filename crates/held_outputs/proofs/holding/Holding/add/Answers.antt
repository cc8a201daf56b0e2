use Rattle.std.proofs.Common.{rules, ◌≢◌, subst}
use Rattle.folders.proofs.Alone.{alone_further}
use Rattle.folders.specs.inner.Folder.{LeavesAlone}
use Rattle.held_outputs.specs.inner.Holding.{HoldingShown}
use Rattle.held_outputs.proofs.lemmas.Apart.{apart_pushed}
use Rattle.held_outputs.proofs.holding.Holding.add.Goals as goal

pub returns-in_err-new-clause-others : goal.returns-in_err-new-clause-others
returns-in_err-new-clause-others g c known =
    subst (λ (h : HoldingShown _). LeavesAlone (λ n. n ≢ c.args.names.now.new) (g.D.Folder.shows h.disk) (g.D.Folder.shows c.make_stored.new.disk)) c.self.view_is
    (c.make_stored.ensures.others known)

pub returns-in_err-file-clause-others : goal.returns-in_err-file-clause-others
returns-in_err-file-clause-others g c known =
    subst (λ (h : HoldingShown _). LeavesAlone (λ n. n ≢ c.args.names.now.new) (g.D.Folder.shows h.disk) (g.D.Folder.shows c.handle.new.disk)) c.self.view_is
    (alone_further (g.D.Folder.moments known c.make_stored.new.disk) (c.make_stored.ensures.others known) (c.handle.ensures.others known))

pub returns-clause-others : goal.returns-clause-others
returns-clause-others g c known =
    subst (λ (h : HoldingShown _). LeavesAlone (λ n. n ≢ c.args.names.now.new) (g.D.Folder.shows h.disk) (g.D.Folder.shows c.handle.new.disk)) c.self.view_is
    (alone_further (g.D.Folder.moments known c.make_stored.new.disk) (c.make_stored.ensures.others known) (c.handle.ensures.others known))

pub invariant_of-self-3 : goal.invariant_of-self-3
invariant_of-self-3 g c =
    apart_pushed c.self.inside.outputs.items c.args.names.now c.self.invariant c.reserve.ensures.items c.as_slice.ensures.value
    (c.is_apart.ensures (search rules)) (search rules) c.push_reserved.ensures.items
