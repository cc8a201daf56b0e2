use Rattle.std.proofs.Common.{◌≡◌, ℕ, ◌+◌, List, ◌++◌, [], ◌∷◌, refl, sym, ap, ◌∙◌, subst}
use Rattle.std.proofs.Common.{append_assoc}
use Rattle.std.specs.Prelude.{sum}
use mathlib.Core.List.{IsPrefix}
use Rattle.std.specs.declared.alloc.Global.{Global}
use Rattle.rtrb.specs.Ring.{sent, received, known_items, producer_capacity}
use Rattle.rtrb.specs.declared.AnyItems.{AnyItems}
use Rattle.rtrb.specs.declared.producer.Producer.{Producer}
use Rattle.machine.specs.declared.piece.Item.{Item}
use Rattle.bounded_pipe.specs.Sizes.{size_of}
use Rattle.bounded_pipe.specs.inner.Counts.{Tells}
use Rattle.bounded_pipe.specs.Ends.{Reading, ReadsOn}
use Rattle.bounded_pipe.specs.Events.{Takes}
use Rattle.bounded_pipe.specs.Names.{ring_name}
use Rattle.bounded_pipe.specs.inner.Rings.{reading}
use Rattle.bounded_pipe.proofs.Records.{prefix_behind}
use Rattle.bounded_pipe.proofs.ViewLaws.{if_some_as, same_name, same_pipe, told_view}
use Rattle.bounded_pipe.proofs.reading.PipeIn.take.Goals as goal

pub invariant_of-self : goal.invariant_of-self
invariant_of-self c =
    let i = c.self.inside in
    let before = size_of (received i.items) in
    let more : before + c.taken_size.result ≡ size_of (received c.pop_one-item.new.items) =
    ap (λ (n : ℕ). before + n) c.taken_size.ensures.value ∙ sym c.pop_one-item.ensures.size in
    let added = c.add.ensures.tells before (sum (sent i.teller.numbers)) c.self.invariant.3 in
    let told = c.tell.ensures.tells (before + c.taken_size.result)
    (subst (λ (p : Producer ℕ Global AnyItems). Tells (before + c.taken_size.result)
    (sum (sent p)) c.add.new.self.untold) (sym c.add.ensures.numbers) added) in (
      c.self.invariant.0,
      c.self.invariant.1,
      c.tell.ensures.ring.1
          ∙ (ap (λ (p : Producer ℕ Global AnyItems). producer_capacity p) c.add.ensures.numbers
          ∙ c.self.invariant.2),
      subst (λ (n : ℕ). Tells n (sum (sent c.tell.new.self.numbers)) c.tell.new.self.untold) more
          told,
    )

pub returns-clause-some : goal.returns-clause-some
returns-clause-some c =
    let i = c.self.inside in
    let new : Reading =
    reading c.pop_one-item.new.items i.marks c.tell.new.self.numbers c.tell.new.self.untold
    i.past.items i.hung_up in
    let tells = (invariant_of-self c).3 in
    if_some_as
    (λ (item : Item). (received c.pop_one-item.new.items ≡ received i.items ++ item ∷ [])
    × IsPrefix (known_items i.items) (item ∷ known_items c.pop_one-item.new.items))
    (λ (item : Item). Takes item c.args.self.now new) c.pop_one-item.result
    (λ item e. subst (λ (r : Reading). Takes item r new) c.self.view_is (record {
      pipe = same_pipe (ring_name i.items.end) (ring_name i.marks.end)
          (ring_name i.teller.numbers.end) (ring_name c.pop_one-item.new.items.end)
          (ring_name i.marks.end) (ring_name c.tell.new.self.numbers.end) i.past.items
          (same_name i.items.end c.pop_one-item.new.items.end c.pop_one-item.ensures.ring.0) refl
          (same_name c.add.new.self.numbers.end c.tell.new.self.numbers.end c.tell.ensures.ring.0
          ∙ ap (λ (p : Producer ℕ Global AnyItems). ring_name p.end) c.add.ensures.numbers);
      taken = ap (λ (l : List Item). i.past.items ++ l) e.0
          ∙ sym (append_assoc i.past.items (received i.items) (item ∷ []));
      hung_up = refl;
      told = λ _. told_view c.pop_one-item.new.items i.marks c.tell.new.self.numbers
          c.tell.new.self.untold i.past.items i.hung_up tells;
    }))
    c.pop_one-item.ensures.some

pub returns-clause-goes_on : goal.returns-clause-goes_on
returns-clause-goes_on c =
    let i = c.self.inside in
    let new : Reading =
    reading c.pop_one-item.new.items i.marks c.tell.new.self.numbers c.tell.new.self.untold
    i.past.items i.hung_up in
    let tells = (invariant_of-self c).3 in
    subst (λ (r : Reading). ReadsOn r new) c.self.view_is (record {
      pipe = same_pipe (ring_name i.items.end) (ring_name i.marks.end)
          (ring_name i.teller.numbers.end) (ring_name c.pop_one-item.new.items.end)
          (ring_name i.marks.end) (ring_name c.tell.new.self.numbers.end) i.past.items
          (same_name i.items.end c.pop_one-item.new.items.end c.pop_one-item.ensures.ring.0) refl
          (same_name c.add.new.self.numbers.end c.tell.new.self.numbers.end c.tell.ensures.ring.0
          ∙ ap (λ (p : Producer ℕ Global AnyItems). ring_name p.end) c.add.ensures.numbers);
      taken = prefix_behind i.past.items (received i.items)
          (received c.pop_one-item.new.items) c.pop_one-item.ensures.goes_on;
      hung_up = λ h. h;
      told = λ _. told_view c.pop_one-item.new.items i.marks c.tell.new.self.numbers
          c.tell.new.self.untold i.past.items i.hung_up tells;
    })
