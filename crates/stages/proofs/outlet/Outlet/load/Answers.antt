use Rattle.std.proofs.Common.{ℕ, sym, subst}
use Rattle.stages.specs.Outlets.{Putting}
use Rattle.stages.specs.inner.Moves.{Advances}
use Rattle.stages.proofs.lemmas.Fronts.{loaded, none_is}
use Rattle.stages.proofs.outlet.Outlet.load.Goals.{in-Some+in-Bytes-1, in-Some+in-Close-1}
use Rattle.stages.proofs.outlet.Outlet.load.Goals.{in-None-1}
use Rattle.stages.proofs.outlet.Outlet.load.Goals as goal

pub returns-then-is_none-clause-advances : goal.returns-then-is_none-clause-advances
returns-then-is_none-clause-advances c =
    let i = c.self.inside in
    let finished = c.args.finished in
    let now = c.args.self.now in
    let f = c.next_item.result in
    let o : Putting = record {
      pipes = i.pipes.items;
      ends = i.ends.items;
      served = i.served;
      front = i.front;
      block = i.owed.block;
      owed = i.owed.pieces;
    } in
    let new : ℕ → Putting = λ block. record o {
      front = f;
      block = block;
      owed =
          c.next_item.new.owed.pieces;
    } in
    let there = loaded finished o c.next_item.new.owed.pieces f
    (none_is i.front c.if-is_none.ensures) c.next_item.ensures.next in
    let done = subst (λ (block : ℕ). Advances finished now (new block))
    (sym c.next_item.ensures.block)
    (subst (λ (x : Putting). Advances finished x (new i.owed.block)) c.self.view_is there) in
    elim c.match-self-next_item.branch [
      | in-Some+in-Bytes-1 w ↦ subst (λ (x : Putting). Advances finished now x) (sym w.self-is) done
      | in-Some+in-Close-1 w ↦ subst (λ (x : Putting). Advances finished now x) (sym w.self-is) done
      | in-None-1 w ↦ subst (λ (x : Putting). Advances finished now x) (sym w.self-is) done
    ]
