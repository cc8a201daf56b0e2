use Rattle.std.proofs.Common.{true, false, refl, sym, subst, set}
use Rattle.bounded_pipe.specs.Ends.{Writing}
use Rattle.bounded_pipe.specs.Events.{SameWriting}
use Rattle.splice_tee.specs.BranchStates.{IsLacking}
use Rattle.stages.specs.Outlets.{Putting}
use Rattle.stages.specs.inner.Moves.{Serves}
use Rattle.stages.proofs.lemmas.Ends.{same_writing}
use Rattle.stages.proofs.lemmas.ServeLaws.{serves_gone, serves_full}
use Rattle.stages.proofs.outlet.Outlet.close_if_gone.Goals as goal

pub returns-then-gone-clause-serves : goal.returns-then-gone-clause-serves
returns-then-gone-clause-serves c =
    let i = c.self.inside in
    let o : Putting = record {
      pipes = i.pipes.items;
      ends = i.ends.items;
      served =
          i.served;
      front = i.front;
      block = i.owed.block;
      owed = i.owed.pieces;
    } in
    let new : Putting = record {
      pipes = i.pipes.items;
      ends =
          set i.ends.items c.args.k c.reader_gone-gone.new.self;
      served = c.close.new.self;
      front =
          i.front;
      block = i.owed.block;
      owed = i.owed.pieces;
    } in
    let lacks = subst (λ (x : Putting). IsLacking x.served c.args.k)
    (sym c.self.view_is) c.requires in
    subst (λ b. Serves b c.args.self.now new) (sym c.if-gone.true)
    (subst (λ (x : Putting). Serves true x new) c.self.view_is
    (serves_gone o c.args.k c.index_mut.result.now c.reader_gone-gone.new.self c.self.invariant.1
    lacks c.index_mut.ensures.value c.close.new.self c.close.ensures
    (c.if-gone.ensures.gone refl)))

pub returns-else-gone-clause-serves : goal.returns-else-gone-clause-serves
returns-else-gone-clause-serves c =
    let i = c.self.inside in
    let o : Putting = record {
      pipes = i.pipes.items;
      ends = i.ends.items;
      served =
          i.served;
      front = i.front;
      block = i.owed.block;
      owed = i.owed.pieces;
    } in
    let new : Putting = record {
      pipes = i.pipes.items;
      ends =
          set i.ends.items c.args.k c.reader_gone-gone.new.self;
      served = i.served;
      front =
          i.front;
      block = i.owed.block;
      owed = i.owed.pieces;
    } in
    let lacks = subst (λ (x : Putting). IsLacking x.served c.args.k)
    (sym c.self.view_is) c.requires in
    let same = subst (λ (w : Writing). SameWriting c.index_mut.result.now w)
    (sym (c.if-gone.ensures.not_gone refl)) (same_writing c.index_mut.result.now) in
    subst (λ b. Serves b c.args.self.now new) (sym c.if-gone.false)
    (subst (λ (x : Putting). Serves false x new) c.self.view_is
    (serves_full o c.args.k c.index_mut.result.now c.reader_gone-gone.new.self c.self.invariant.1
    lacks c.index_mut.ensures.value same))
