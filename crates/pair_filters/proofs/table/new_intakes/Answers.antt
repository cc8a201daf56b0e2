use Rattle.std.proofs.Common.{◌≡◌, [], List, false, length, ap, sym, subst, arith, length-append}
use Rattle.std.specs.List.{All}
use Rattle.std.proofs.lemmas.List.Elements.{All-push}
use Rattle.pair_filters.specs.Intakes.{Left}
use Rattle.pair_filters.proofs.table.new_intakes.Goals as goal

pub loop-preserved : goal.loop-preserved
loop-preserved c =
    let none = λ (s : Left). s ≡ record { left = []; closed = false } in
    let items = c.in_ok-push.ensures.items in (
      omega (arith, simp length-append at (ap length items)),
      subst (λ (xs : List Left). All none xs) (sym {A = List Left} items)
          (All-push none c.loop.intakes.items c.new.result c.loop.invariant.1 c.new.ensures),
    )
