use Rattle.std.proofs.Common.{◌≡◌, true, false, map, sym, subst, refl, ◌∙◌, ap, set, Option, Some}
use Rattle.machine.specs.declared.piece.Item.{Item}
use Rattle.splice_tee.specs.BranchStates.{IsLacking, NoOtherLacks, lacking_again}
use Rattle.splice_tee.specs.declared.branches.Served.TheVariants.{Has, Gone}
use Rattle.stages.specs.Outlets.{Putting}
use Rattle.stages.specs.inner.Moves.{Serves, is_piece}
use Rattle.stages.proofs.lemmas.Fronts.{turned_to}
use Rattle.stages.proofs.lemmas.ServeLaws.{serves_put, serves_gone, serves_full, serves_turned}
use Rattle.stages.proofs.lemmas.ServeLaws.{none_left, has_not_lacks, closed_not_lacks}
use Rattle.stages.proofs.outlet.Outlet.offer_last.Goals as goal

pub returns-in-Put-clause-serves : goal.returns-in-Put-clause-serves
returns-in-Put-clause-serves c =
    let i = c.self.inside in
    let o : Putting = record {
      pipes = i.pipes.items;
      ends = i.ends.items;
      served =
          i.served;
      front = i.front;
      block = i.owed.block;
      owed = i.owed.pieces;
    } in
    let lacks = subst (λ (x : Putting). IsLacking x.served c.args.k)
    (sym c.self.view_is) c.requires.lacks in
    let last = subst (λ (x : Putting). NoOtherLacks x.served c.args.k)
    (sym c.self.view_is) c.requires.last in
    let piece : is_piece i.front ≡ true = ap (λ (x : Putting). is_piece x.front) c.self.view_is
    ∙ c.requires.front in
    let ends = set i.ends.items c.args.k c.offer_item.new.end in
    let mid : Putting = record {
      pipes = i.pipes.items;
      ends = ends;
      served =
          set i.served c.args.k Has;
      front = i.front;
      block = i.owed.block;
      owed = i.owed.pieces;
    } in
    let turned : Serves true o (turned_to mid c.next_piece.new.self) =
    serves_turned o mid c.next_piece.new.self
    (serves_put o c.args.k c.index_mut.result.now c.offer_item.new.end c.self.invariant.1 lacks
    c.index_mut.ensures.value c.in-Some.item (set i.served c.args.k Has)
    (sym c.in-Some.ensures.value) refl c.in-Put.ensures) piece
    (none_left i.served c.args.k Has has_not_lacks last) (c.next_piece.ensures
    ∙ ap (map lacking_again) c.given.ensures) in
    subst (λ (f : Option Item). Serves true c.args.self.now
    (record {
      pipes = i.pipes.items;
      ends = ends;
      served = c.next_piece.new.self;
      front =
          f;
      block = i.owed.block;
      owed = i.owed.pieces;
    })) (sym c.take.ensures.after)
    (subst (λ (x : Putting). Serves true x (turned_to mid c.next_piece.new.self)) c.self.view_is
    turned)

pub returns-in-Gone-clause-serves : goal.returns-in-Gone-clause-serves
returns-in-Gone-clause-serves c =
    let i = c.self.inside in
    let o : Putting = record {
      pipes = i.pipes.items;
      ends = i.ends.items;
      served =
          i.served;
      front = i.front;
      block = i.owed.block;
      owed = i.owed.pieces;
    } in
    let lacks = subst (λ (x : Putting). IsLacking x.served c.args.k)
    (sym c.self.view_is) c.requires.lacks in
    let last = subst (λ (x : Putting). NoOtherLacks x.served c.args.k)
    (sym c.self.view_is) c.requires.last in
    let piece : is_piece i.front ≡ true = ap (λ (x : Putting). is_piece x.front) c.self.view_is
    ∙ c.requires.front in
    let ends = set i.ends.items c.args.k c.offer_item.new.end in
    let mid : Putting = record {
      pipes = i.pipes.items;
      ends = ends;
      served =
          set i.served c.args.k Gone;
      front = i.front;
      block = i.owed.block;
      owed = i.owed.pieces;
    } in
    let turned : Serves true o (turned_to mid c.next_piece-in-Gone.new.self) =
    serves_turned o mid c.next_piece-in-Gone.new.self
    (serves_gone o c.args.k c.index_mut.result.now c.offer_item.new.end c.self.invariant.1 lacks
    c.index_mut.ensures.value (set i.served c.args.k Gone) refl c.in-Gone.ensures) piece
    (none_left i.served c.args.k Gone closed_not_lacks last) (c.next_piece-in-Gone.ensures
    ∙ ap (map lacking_again) c.close.ensures) in
    subst (λ (f : Option Item). Serves true c.args.self.now
    (record {
      pipes = i.pipes.items;
      ends = ends;
      served =
          c.next_piece-in-Gone.new.self;
      front = f;
      block = i.owed.block;
      owed = i.owed.pieces;
    }))
    (sym c.take.ensures.after)
    (subst (λ (x : Putting). Serves true x (turned_to mid c.next_piece-in-Gone.new.self))
    c.self.view_is turned)

pub returns-in-Full-clause-serves : goal.returns-in-Full-clause-serves
returns-in-Full-clause-serves c =
    let i = c.self.inside in
    let o : Putting = record {
      pipes = i.pipes.items;
      ends = i.ends.items;
      served =
          i.served;
      front = i.front;
      block = i.owed.block;
      owed = i.owed.pieces;
    } in
    let lacks = subst (λ (x : Putting). IsLacking x.served c.args.k)
    (sym c.self.view_is) c.requires.lacks in
    let ends = set i.ends.items c.args.k c.offer_item.new.end in
    let new : Option Item → Putting =
    λ f. record {
      pipes = i.pipes.items;
      ends = ends;
      served = i.served;
      front = f;
      block =
          i.owed.block;
      owed = i.owed.pieces;
    } in
    let back : i.front ≡ Some c.in-Full.back =
    sym (ap Some c.in-Full.ensures.0 ∙ c.in-Some.ensures.value) in
    subst (λ (f : Option Item). Serves false c.args.self.now (new f)) back
    (subst (λ (x : Putting). Serves false x (new i.front)) c.self.view_is
    (serves_full o c.args.k c.index_mut.result.now c.offer_item.new.end c.self.invariant.1 lacks
    c.index_mut.ensures.value c.in-Full.ensures.1))
