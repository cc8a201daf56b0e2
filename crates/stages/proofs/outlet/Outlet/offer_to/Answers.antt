use Rattle.std.proofs.Common.{true, false, sym, subst, subst₂, ◌∙◌, ap, set, Some, IfOk}
use Rattle.splice_tee.specs.BranchStates.{IsLacking}
use Rattle.stages.specs.Outlets.{Putting}
use Rattle.stages.specs.inner.Moves.{Serves}
use Rattle.stages.proofs.lemmas.ServeLaws.{serves_put, serves_gone, serves_full}
use Rattle.stages.proofs.outlet.Outlet.offer_to.Goals.{in-Put, in-Gone, in-Full}
use Rattle.stages.proofs.outlet.Outlet.offer_to.Goals as goal

pub returns-clause-serves : goal.returns-clause-serves
returns-clause-serves c =
    let i = c.self.inside in
    let o : Putting = record {
      pipes = i.pipes.items;
      ends = i.ends.items;
      served =
          i.served;
      front = i.front;
      block = i.owed.block;
      owed = i.owed.pieces;
    } in
    let lacks = subst (λ (x : Putting). IsLacking x.served c.args.k)
    (sym c.self.view_is) c.requires.lacks in
    let ends = set i.ends.items c.args.k c.offer_item.new.end in
    elim c.match-offer_item.branch [
      | in-Put w ↦
          let new : Putting = record {
            pipes = i.pipes.items;
            ends = ends;
            served =
                w.given.new.self;
            front = i.front;
            block = i.owed.block;
            owed = i.owed.pieces;
          } in
          subst₂ (λ r (x : Putting). IfOk r (λ moved. Serves moved c.args.self.now x))
          (sym w.result-is) (sym w.self-is)
          (subst (λ (x : Putting). Serves true x new) c.self.view_is
          (serves_put o c.args.k c.index_mut.result.now c.offer_item.new.end c.self.invariant.1
          lacks c.index_mut.ensures.value c.in_ok-item.item w.given.new.self (c.in-Some.is
          ∙ ap Some (sym c.in_ok-item.ensures.equal)) w.given.ensures w.in-Put.ensures))
      | in-Gone w ↦
          let new : Putting = record {
            pipes = i.pipes.items;
            ends = ends;
            served =
                w.close.new.self;
            front = i.front;
            block = i.owed.block;
            owed = i.owed.pieces;
          } in
          subst₂ (λ r (x : Putting). IfOk r (λ moved. Serves moved c.args.self.now x))
          (sym w.result-is) (sym w.self-is)
          (subst (λ (x : Putting). Serves true x new) c.self.view_is
          (serves_gone o c.args.k c.index_mut.result.now c.offer_item.new.end c.self.invariant.1
          lacks c.index_mut.ensures.value w.close.new.self w.close.ensures w.in-Gone.ensures))
      | in-Full w ↦
          let new : Putting = record {
            pipes = i.pipes.items;
            ends = ends;
            served =
                i.served;
            front = i.front;
            block = i.owed.block;
            owed = i.owed.pieces;
          } in
          subst₂ (λ r (x : Putting). IfOk r (λ moved. Serves moved c.args.self.now x))
          (sym w.result-is) (sym w.self-is)
          (subst (λ (x : Putting). Serves false x new) c.self.view_is
          (serves_full o c.args.k c.index_mut.result.now c.offer_item.new.end c.self.invariant.1
          lacks c.index_mut.ensures.value w.in-Full.ensures.1))
    ]
