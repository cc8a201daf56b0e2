use Rattle.std.proofs.Common.{subst, arith}
use Rattle.splice_tee.specs.BranchStates.{NoneLacks}
use Rattle.stages.specs.Outlets.{Putting}
use Rattle.stages.proofs.lemmas.Fronts.{advances_trans}
use Rattle.stages.proofs.lemmas.SpentLaws.{spent}
use Rattle.stages.proofs.outlet.Outlet.advance.Goals as goal

pub returns-then-is_none-clause-advances : goal.returns-then-is_none-clause-advances
returns-then-is_none-clause-advances c =
    advances_trans c.args.finished c.args.self.now c.turn_over.new.self c.load.new.self
    c.turn_over.ensures.advances c.load.ensures.advances

pub returns-clause-advances : goal.returns-clause-advances
returns-clause-advances c =
    advances_trans c.args.finished c.args.self.now c.turn_over.new.self c.load.new.self
    c.turn_over.ensures.advances c.load.ensures.advances

pub returns-clause-none : goal.returns-clause-none
returns-clause-none c =
    λ e want made f keeps opens.
    let t = c.turn_over.ensures in
    let l = c.load.ensures in
    spent c.args.finished want made c.args.self.now c.turn_over.new.self c.load.new.self t.advances
    l.advances t.front l.served l.kept
    (subst (λ (x : Putting). NoneLacks x.served) c.self.view_is
    (λ j. c.lacks.ensures.none e j (omega arith))) f keeps opens
