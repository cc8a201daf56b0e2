use Rattle.std.proofs.Common.{None, sym, subst, ◌∙◌, arith, rules}
use Rattle.splice_tee.specs.BranchStates.{NoneLacks}
use Rattle.stages.specs.Outlets.{Putting}
use Rattle.stages.specs.inner.Moves.{Advances}
use Rattle.stages.proofs.lemmas.Fronts.{turned_over}
use Rattle.stages.proofs.outlet.Outlet.turn_over.Goals as goal

pub returns-then-is_none-clause-advances : goal.returns-then-is_none-clause-advances
returns-then-is_none-clause-advances c =
    let i = c.self.inside in
    let o : Putting = record {
      pipes = i.pipes.items;
      ends = i.ends.items;
      served =
          i.served;
      front = i.front;
      block = i.owed.block;
      owed = i.owed.pieces;
    } in
    let new : Putting = record {
      pipes = i.pipes.items;
      ends = i.ends.items;
      served =
          c.next_piece.new.self;
      front = None;
      block = i.owed.block;
      owed = i.owed.pieces;
    } in
    subst (λ (x : Putting). Advances c.args.finished x new) c.self.view_is
    (turned_over c.args.finished o c.next_piece.new.self (sym c.has_piece.ensures
    ∙ c.if-has_piece.true) (λ j. c.lacks.ensures.none (search rules) j (omega arith))
    c.next_piece.ensures)

pub returns-then-is_none-clause-turned : goal.returns-then-is_none-clause-turned
returns-then-is_none-clause-turned c =
    λ _ _. subst (λ (x : Putting). NoneLacks x.served) c.self.view_is
    (λ j. c.lacks.ensures.none (search rules) j (omega arith))
