use Rattle.std.proofs.Common.{◌≡◌, ◌+◌, ℕ, Some, get_or, subst, arith}
use Rattle.tr_filter.specs.inner.Progress.{Pressed}
use Rattle.tr_filter.proofs.lemmas.PressLaws.{press_few}
use Rattle.tr_filter.proofs.squeezing.squeeze_next.Goals as goal

pub returns-clause-pressed : goal.returns-clause-pressed
returns-clause-pressed c before xs same t =
    let set = Some c.args.squeezing.now.set in
    let bytes = c.args.bytes.now in
    let from = c.args.from in
    let end : from + 64 ≡ c.args.to = omega (arith, c.if-to-from-eq-CHUNK.true, c.requires.order) in
    let left = c.in-Some.ensures.left in
    subst (λ (k : ℕ). Pressed set before xs c.put_few.new.bytes (c.args.kept + c.in-Some.count) k
    (Some (get_or bytes (from + 63) 0))) end
    (press_few set before xs bytes c.put_few.new.bytes c.few_squeezed.new.few c.args.kept from
    c.in-Some.count c.args.last
    (omega (arith, end, c.requires.within))
    (omega (arith, c.requires.front, c.requires.order, c.requires.within))
    left.0 left.1 c.put_few.ensures.copied
    (c.put_few.ensures.rest (from + 64) (omega (arith, c.requires.front))
    (omega (arith, end, c.requires.within)))
    (omega (arith, c.requires.front, left.0))
    t)
