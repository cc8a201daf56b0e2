use Rattle.std.proofs.Common.{◌≡◌, ◌+◌, ◌≤◌, List, ◌++◌, [], ◌∷◌, refl, sym, ap, ◌∙◌, subst}
use Rattle.std.proofs.Common.{append_assoc, arith, rules}
use Rattle.std.specs.Prelude.{sum}
use Rattle.std.proofs.lemmas.Grind.{common_steps}
use Rattle.rtrb.specs.Ring.{sent, received}
use Rattle.machine.specs.declared.piece.Item.{Item}
use Rattle.bounded_pipe.specs.Sizes.{item_size, size_of}
use Rattle.bounded_pipe.specs.Ends.{Writing, KnowsFull}
use Rattle.bounded_pipe.specs.Events.{Puts}
use Rattle.bounded_pipe.specs.Names.{ring_name}
use Rattle.bounded_pipe.specs.inner.Rings.{writing}
use Rattle.bounded_pipe.proofs.Records.{sees_full, puts_on}
use Rattle.bounded_pipe.proofs.SizeLaws.{size_of_push}
use Rattle.bounded_pipe.proofs.Tallies.{counts_after}
use Rattle.bounded_pipe.proofs.ViewLaws.{same_name, same_pipe, counted_view}
use Rattle.bounded_pipe.proofs.writing.PipeOut.put.Goals as goal

pub returns-then-not-has_room-clause-full : goal.returns-then-not-has_room-clause-full
returns-then-not-has_room-clause-full c = λ _.
    let full : KnowsFull (item_size c.args.item) c.args.self.now =
    first_of (search rules, grind (arith, common_steps)) in
    record {
      known = full;
      free = first_of (search rules, grind (arith, common_steps));
      full = λ reader sees. sees_full (item_size c.args.item) c.args.self.now reader sees full;
      still = λ reader sees. first_of (search rules, grind (arith, common_steps));
    }

pub invariant_of-self-in-Ok : goal.invariant_of-self-in-Ok
invariant_of-self-in-Ok c =
    let i = c.self.inside in
    let r = c.receive.ensures.received in
    let size = c.item_size-size.result in
    let room : c.receive.new.self.count + size ≤ c.receive.new.self.limit =
    first_of (search rules, grind (arith, common_steps)) in
    let longer = ap (λ (l : List Item). size_of l) c.in-Ok.ensures.ok.0
    ∙ size_of_push (sent i.items) c.args.item in
    let put : size_of (sent c.push.new.self) ≡ size_of (sent i.items) + size =
    omega (arith, longer, c.item_size-size.ensures.value) in (
      c.self.invariant.0,
      counts_after (size_of (sent i.items)) i.counter.limit i.counter.count
          (sum (received i.counter.numbers)) i.counter.excess r.0 c.receive.new.self.count
          c.receive.new.self.excess size
          (size_of (sent c.push.new.self))
          (sum (received c.receive.new.self.numbers)) c.receive.new.self.limit
          c.self.invariant.1 r.2 r.1 c.receive.ensures.limit put room,
    )

pub returns-in-Ok-clause-ok : goal.returns-in-Ok-clause-ok
returns-in-Ok-clause-ok c =
    let i = c.self.inside in
    let counts = (invariant_of-self-in-Ok c).1 in
    let ring = c.push.ensures.ring in
    let told = c.receive.ensures.ring in
    let new : Writing =
    writing c.push.new.self i.marks c.receive.new.self.numbers c.receive.new.self.limit
    (c.receive.new.self.count + c.item_size-size.result) i.past.items i.noted in
    subst (λ (w : Writing). Puts c.args.item w new) c.self.view_is (record {
      pipe = same_pipe (ring_name i.items.end) (ring_name i.marks.end)
          (ring_name i.counter.numbers.end) (ring_name c.push.new.self.end) (ring_name i.marks.end)
          (ring_name c.receive.new.self.numbers.end) i.past.items
          (same_name i.items.end c.push.new.self.end ring.0) refl
          (same_name i.counter.numbers.end c.receive.new.self.numbers.end told.0);
      capacity = ring.1;
      limit = c.receive.ensures.limit;
      put = ap (λ (l : List Item). i.past.items ++ l) c.in-Ok.ensures.ok.0
          ∙ sym (append_assoc i.past.items (sent i.items) (c.args.item ∷ []));
      noted = refl;
      counted = λ _. counted_view c.push.new.self i.marks c.receive.new.self.numbers
          c.receive.new.self.limit (c.receive.new.self.count + c.item_size-size.result)
          c.receive.new.self.excess i.past.items i.noted counts;
    })

pub returns-in-Ok-clause-goes_on : goal.returns-in-Ok-clause-goes_on
returns-in-Ok-clause-goes_on c =
    let i = c.self.inside in
    puts_on c.args.item c.args.self.now
    (writing c.push.new.self i.marks c.receive.new.self.numbers c.receive.new.self.limit
    (c.receive.new.self.count + c.item_size-size.result) i.past.items i.noted)
    (returns-in-Ok-clause-ok c)
