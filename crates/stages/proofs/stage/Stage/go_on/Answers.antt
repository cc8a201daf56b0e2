use Rattle.splice_tee.specs.BranchStates.{NoneOpen}
use Rattle.stages.proofs.lemmas.SpentLaws.{some_or_none}
use Rattle.stages.proofs.lemmas.StatusLaws.{inside}
use Rattle.stages.proofs.stage.Stage.go_on.Goals as goal

pub returns-in-Take-clause-breaks : goal.returns-in-Take-clause-breaks
returns-in-Take-clause-breaks g c =
    λ none. some_or_none c.open_count.result c.self.inside.outlet.served c.open_count.ensures
    c.if-open_count-eq0.false (inside g.M.Machine.shows c.self.view_is
    (λ m i o. NoneOpen o.served) none)

pub returns-in-Finished-clause-breaks : goal.returns-in-Finished-clause-breaks
returns-in-Finished-clause-breaks g c =
    λ none. some_or_none c.open_count.result c.self.inside.outlet.served c.open_count.ensures
    c.if-open_count-eq0.false (inside g.M.Machine.shows c.self.view_is
    (λ m i o. NoneOpen o.served) none)

pub returns-in-Finished-2-clause-breaks : goal.returns-in-Finished-2-clause-breaks
returns-in-Finished-2-clause-breaks g c =
    λ none. some_or_none c.open_count.result c.self.inside.outlet.served c.open_count.ensures
    c.if-open_count-eq0.false (inside g.M.Machine.shows c.self.view_is
    (λ m i o. NoneOpen o.served) none)
