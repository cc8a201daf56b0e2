use Rattle.std.proofs.Common.{◌≡◌, ◌&&◌, sym, ◌∙◌, subst}
use Rattle.std.specs.Prelude.{is_some}
use Rattle.std.specs.List.{list_any}
use Rattle.splice_tee.specs.BranchStates.{is_lacking}
use Rattle.stages.specs.Outlets.{Putting}
use Rattle.stages.proofs.lemmas.DebtLaws.{front_owed}
use Rattle.stages.proofs.outlet.Outlet.is_front_owed.Goals as goal

pub returns-then-is_some : goal.returns-then-is_some
returns-then-is_some c =
    subst (λ (o : Putting). c.is_some-then-is_some.result
    ≡ (is_some o.front && list_any is_lacking o.served)) c.self.view_is
    (c.is_some-then-is_some.ensures
    ∙ front_owed c.self.inside.front c.self.inside.served c.lacks.result (sym c.is_some.ensures
    ∙ c.if-is_some.true) c.lacks.ensures.some c.lacks.ensures.none)
