use Rattle.std.proofs.Common.{◌≡◌, ℕ, ◌+◌, List, map, drop, get_or, ap, ◌∙◌, sym, subst, arith}
use Rattle.std.specs.List.{AllByRecursion}
use Rattle.std.proofs.lemmas.Grind.{common_steps}
use Rattle.graphs.specs.Graph.{IsAmong, AreDistinct}
use Rattle.lending.specs.inner.Loans.{Grouped, IsStageAt, AreOut, AreSeparate, filled}
use Rattle.lending.proofs.SeparateLaws.{first_left, lent_out, lent_back, lent_left}
use Rattle.workers.proofs.phase.lend_all.Goals as goal

pub lend-requires-clause-stages : goal.lend-requires-clause-stages
lend-requires-clause-stages g c =
    let e : c.deref.result.now ≡ (get_or c.args.table.now c.loop-k.k c.index-table-k.result).items =
    c.deref.ensures.value ∙ ap (λ v. v.items) c.index-table-k.is in
    subst (λ (ps : List ℕ). AllByRecursion (IsStageAt c.loop-k.network.nodes) ps) (sym e)
    (subst (λ (ls : List (List ℕ)). AllByRecursion
    (AllByRecursion (IsStageAt c.loop-k.network.nodes)) ls)
    (first_left c.args.table.now c.loop-k.k c.index-table-k.result c.loop-k-test.true)
    c.loop-k.invariant.left).0

pub lend-requires-clause-once : goal.lend-requires-clause-once
lend-requires-clause-once g c =
    let e : c.deref.result.now ≡ (get_or c.args.table.now c.loop-k.k c.index-table-k.result).items =
    c.deref.ensures.value ∙ ap (λ v. v.items) c.index-table-k.is in
    subst AreDistinct (sym e)
    (subst AreSeparate
    (first_left c.args.table.now c.loop-k.k c.index-table-k.result c.loop-k-test.true)
    c.loop-k.invariant.once).0

pub loop-k-preserved : goal.loop-k-preserved
loop-k-preserved g c =
    let i = c.loop-k.invariant in
    let lent = c.in_ok-lend.ensures.lent in
    let group = c.in_ok-lend.field-0 in
    let front = first_left c.args.table.now c.loop-k.k c.index-table-k.result c.loop-k-test.true in
    let e : c.deref.result.now ≡ (get_or c.args.table.now c.loop-k.k c.index-table-k.result).items =
    c.deref.ensures.value ∙ ap (λ v. v.items) c.index-table-k.is in
    let once = subst AreSeparate front i.once in
    let left = subst (λ (ls : List (List ℕ)). AllByRecursion
    (AllByRecursion (IsStageAt c.loop-k.network.nodes)) ls) front i.left in
    record {
      out = subst (λ (gs : List (Grouped g.row.M.Denot)). AreOut c.lend.new.self.nodes gs)
          (sym c.push_reserved.ensures.items)
          (lent_out c.loop-k.network c.lend.new.self c.deref.result.now group lent
          c.loop-k.groups.items i.out);
      back =
          ap (λ (gs : List (Grouped g.row.M.Denot)). filled c.lend.new.self gs)
          c.push_reserved.ensures.items
          ∙ (lent_back c.loop-k.network c.lend.new.self c.deref.result.now group lent
          c.loop-k.groups.items ∙ i.back);
      left = lent_left c.loop-k.network c.lend.new.self c.deref.result.now group lent
          (map (λ v. v.items) (drop (c.loop-k.k + 1) c.args.table.now))
          (subst (λ (ps : List ℕ). AllByRecursion (AllByRecursion (λ p. IsAmong p ps → ⊥))
          (map (λ v. v.items) (drop (c.loop-k.k + 1) c.args.table.now))) (sym e) once.1) left.1;
      once = once.2;
      count = grind (arith, common_steps, c.push_reserved.ensures.len, i.count);
      room = grind (arith, common_steps, c.push_reserved.ensures.capacity, i.room);
    }
