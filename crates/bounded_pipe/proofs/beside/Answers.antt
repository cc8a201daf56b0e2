use Rattle.std.proofs.Common.{◌≡◌, ◌≤◌, ◌<◌, List, ◌++◌, length, IsTrue, ⊎_elim, inl, inr, refl}
use Rattle.std.proofs.Common.{sym, ap, ◌∙◌, subst, append_assoc, length-append, arith}
use Rattle.std.specs.Prelude.{sum}
use Rattle.std.proofs.lemmas.Bool.{cases_lt}
use Rattle.rtrb.specs.Ring.{sent, received, known_items, known_free}
use Rattle.machine.specs.declared.piece.Item.{Item}
use Rattle.bounded_pipe.specs.Sizes.{size_of}
use Rattle.bounded_pipe.specs.Ends.{Writing, Reading}
use Rattle.bounded_pipe.specs.Events.{SameWriting}
use Rattle.bounded_pipe.specs.Names.{PipeName, ring_name}
use Rattle.bounded_pipe.specs.inner.Rings.{writing}
use Rattle.bounded_pipe.proofs.Records.{beside_consistent}
use Rattle.bounded_pipe.proofs.SizeLaws.{size_of_append}
use Rattle.bounded_pipe.proofs.Tallies.{Level, settled, settled_untold}
use Rattle.bounded_pipe.proofs.ViewLaws.{pipe_name, same_name, same_pipe, counted_view}
use Rattle.bounded_pipe.proofs.beside.Goals as goal

pub invariant_of-writer : goal.invariant_of-writer
invariant_of-writer c =
    let w = c.writer.inside in
    let r = c.reader.inside in
    let s = c.settle.ensures.settled in
    let put = ap (λ (l : List Item). size_of l) (c.slots_beside-3.ensures.producer.1
    ∙ c.slots_beside.ensures.looked.1) in
    let taken = ap (λ (l : List Item). size_of l) (c.slots_beside-3.ensures.looked.1
    ∙ c.slots_beside.ensures.consumer.1) in
    let all = ap (λ (l : List Item). size_of l) c.slots_beside-3.ensures.fifo in
    let parts = size_of_append (received c.slots_beside-3.new.self)
    (known_items c.slots_beside-3.new.self) in
    let order : size_of (received r.items) ≤ size_of (sent w.items) =
    omega (arith, put, taken, all, parts) in
    let level : Level (size_of (sent c.slots_beside-3.new.producer))
    (size_of (received c.slots_beside-3.new.self)) c.settle.new.counter.limit
    c.settle.new.counter.count
    (sum (received c.settle.new.counter.numbers)) c.settle.new.counter.excess
    (sum (sent c.settle.new.teller.numbers)) c.settle.new.teller.untold =
    settled (size_of (sent w.items)) (size_of (received r.items)) w.counter.limit w.counter.count
    (sum (received w.counter.numbers)) w.counter.excess
    (sum (sent r.teller.numbers)) r.teller.untold s.0 s.1 s.2
    (size_of (sent c.slots_beside-3.new.producer))
    (size_of (received c.slots_beside-3.new.self)) c.settle.new.counter.limit
    c.settle.new.counter.count
    (sum (received c.settle.new.counter.numbers)) c.settle.new.counter.excess
    (sum (sent c.settle.new.teller.numbers)) c.settle.new.teller.untold
    c.writer.invariant.1 c.reader.invariant.3 s.3 s.4 s.5 c.settle.ensures.excess
    c.settle.ensures.told.all c.settle.ensures.heard c.settle.ensures.told.none
    c.settle.ensures.counter.1 put taken order in
    let same : received c.slots_beside-2.new.self ≡ received w.marks =
    c.slots_beside-2.ensures.looked.1 in (
      subst (λ (l : List _). (IsTrue w.noted → 0 < length l) × (0 < length l → IsTrue w.noted))
          (sym same) c.writer.invariant.0,
      level.counts,
    )

pub invariant_of-reader : goal.invariant_of-reader
invariant_of-reader c =
    let w = c.writer.inside in
    let r = c.reader.inside in
    let s = c.settle.ensures.settled in
    let put = ap (λ (l : List Item). size_of l) (c.slots_beside-3.ensures.producer.1
    ∙ c.slots_beside.ensures.looked.1) in
    let taken = ap (λ (l : List Item). size_of l) (c.slots_beside-3.ensures.looked.1
    ∙ c.slots_beside.ensures.consumer.1) in
    let all = ap (λ (l : List Item). size_of l) c.slots_beside-3.ensures.fifo in
    let parts = size_of_append (received c.slots_beside-3.new.self)
    (known_items c.slots_beside-3.new.self) in
    let order : size_of (received r.items) ≤ size_of (sent w.items) =
    omega (arith, put, taken, all, parts) in
    let told = settled_untold (size_of (sent w.items))
    (size_of (received r.items)) w.counter.limit w.counter.count
    (sum (received w.counter.numbers)) w.counter.excess
    (sum (sent r.teller.numbers)) r.teller.untold s.0
    c.writer.invariant.1 c.reader.invariant.3 order s.3 in
    let same : sent c.slots_beside-2.new.producer ≡ sent r.marks =
    c.slots_beside-2.ensures.producer.1 in
    let free : known_free r.marks ≤ known_free c.slots_beside-2.new.producer =
    c.slots_beside-2.ensures.producer.2 in (
      subst (λ (l : List _). (IsTrue r.hung_up → 0 < length l) × (0 < length l → IsTrue r.hung_up))
          (sym same) c.reader.invariant.0,
      λ h. let f = c.reader.invariant.1 h in omega (arith, f, free),
      c.settle.ensures.teller.1 ∙ c.reader.invariant.2,
      record {
        least = omega (arith, c.settle.ensures.told.all, c.settle.ensures.told.none, told, taken);
        exact = λ low. omega (
          arith,
          c.settle.ensures.told.all,
          c.settle.ensures.told.none,
          told,
          taken,
        );
      },
    )

pub returns-clause-beside : goal.returns-clause-beside
returns-clause-beside c =
    let w = c.writer.inside in
    let r = c.reader.inside in
    let counts = (invariant_of-writer c).1 in
    let tells = (invariant_of-reader c).3 in
    let named : (pipe_name (ring_name w.items.end) (ring_name w.marks.end)
    (ring_name w.counter.numbers.end) w.past.items)
    ≡ (pipe_name (ring_name r.items.end) (ring_name r.marks.end)
    (ring_name r.teller.numbers.end) r.past.items) =
    ap (λ (x : Writing). x.pipe) c.writer.view_is
    ∙ (c.requires ∙ sym (ap (λ (x : Reading). x.pipe) c.reader.view_is)) in
    let before : w.past.items ≡ r.past.items = ap (λ (n : PipeName). n.before) named in
    let n = c.slots_beside-3.new.producer in
    let m = c.slots_beside-3.new.self in
    let writer_is = same_pipe (ring_name w.items.end) (ring_name w.marks.end)
    (ring_name w.counter.numbers.end) (ring_name n.end)
    (ring_name c.slots_beside-2.new.self.end)
    (ring_name c.settle.new.counter.numbers.end) w.past.items
    (same_name c.slots_beside.new.self.end n.end c.slots_beside-3.ensures.producer.0.0
    ∙ same_name w.items.end c.slots_beside.new.self.end c.slots_beside.ensures.looked.0.0)
    (same_name w.marks.end c.slots_beside-2.new.self.end c.slots_beside-2.ensures.looked.0.0)
    (same_name w.counter.numbers.end c.settle.new.counter.numbers.end
    c.settle.ensures.counter.0.0) in
    let reader_is = same_pipe (ring_name r.items.end) (ring_name r.marks.end)
    (ring_name r.teller.numbers.end) (ring_name m.end)
    (ring_name c.slots_beside-2.new.producer.end)
    (ring_name c.settle.new.teller.numbers.end) r.past.items
    (same_name c.slots_beside.new.consumer.end m.end c.slots_beside-3.ensures.looked.0.0
    ∙ same_name r.items.end c.slots_beside.new.consumer.end c.slots_beside.ensures.consumer.0.0)
    (same_name r.marks.end c.slots_beside-2.new.producer.end c.slots_beside-2.ensures.producer.0.0)
    (same_name r.teller.numbers.end c.settle.new.teller.numbers.end c.settle.ensures.teller.0) in
    -- how many items and bytes are in between
    let puts = ap (λ (l : List Item). length l) c.slots_beside-3.ensures.producer.1 in
    let takes = ap (λ (l : List Item). length l) c.slots_beside-3.ensures.looked.1 in
    let all = ap (λ (l : List Item). length l) c.slots_beside-3.ensures.fifo in
    let parts = length-append (received m) (known_items m) in
    let size = ap (λ (l : List Item). size_of l) c.slots_beside-3.ensures.fifo in
    let sizes = size_of_append (received m) (known_items m) in
    let counted = counts.exact (omega (arith, c.settle.ensures.excess)) in
    let told = tells.exact (omega (arith, c.settle.ensures.told.none)) in
    -- how many marks were told and noted
    let noted = ap (λ l. length l) c.slots_beside-2.ensures.looked.1 in
    let marked = ap (λ l. length l) c.slots_beside-2.ensures.producer.1 in
    let marks = ap (λ l. length l) c.slots_beside-2.ensures.fifo in
    let both = length-append (received c.slots_beside-2.new.self)
    (known_items c.slots_beside-2.new.self) in
    record {
      sees = record {
        ends = writer_is ∙ (named ∙ sym reader_is);
        between = ap (λ (l : List Item). w.past.items ++ l) (sym c.slots_beside-3.ensures.fifo)
            ∙ (ap (λ (l : List Item). l ++ (received m ++ known_items m)) before
            ∙ sym (append_assoc r.past.items (received m) (known_items m)));
        within = omega (
          arith,
          puts,
          takes,
          all,
          parts,
          c.slots_beside.ensures.all_free,
          c.slots_beside-3.ensures.producer.0.1,
        );
        room = omega (
          arith,
          puts,
          takes,
          all,
          parts,
          c.slots_beside.ensures.all_free,
          c.slots_beside.ensures.value,
          c.slots_beside-3.ensures.producer.0.1,
          c.slots_beside-3.ensures.producer.2,
        );
        noted = λ h. let one = c.writer.invariant.0.0 h in
            c.reader.invariant.0.1 (omega (arith, one, noted, marked, marks, both));
        seen = λ h. let one = c.reader.invariant.0.0 h in
            ⊎_elim (λ (some : 0 < length (received w.marks)). inl (c.writer.invariant.0.1 some))
            (λ (none : length (received w.marks) ≤ 0). inr
            (omega (arith, one, none, noted, marked, marks, both)))
            (cases_lt 0 (length (received w.marks)));
        count = omega (
          arith,
          counted,
          told,
          size,
          sizes,
          c.settle.ensures.excess,
          c.settle.ensures.heard,
          c.settle.ensures.told.none,
        );
      };
      count = omega (
        arith,
        counted,
        told,
        size,
        sizes,
        c.settle.ensures.excess,
        c.settle.ensures.heard,
        c.settle.ensures.told.none,
      );
      light = counts.within;
      heard = c.settle.ensures.heard;
      told =
          let s = size_of_append r.past.items (received m) in
          omega (arith, s, told, c.settle.ensures.told.none);
      untold = c.settle.ensures.told.none;
    }

pub returns-clause-consistent : goal.returns-clause-consistent
returns-clause-consistent c = beside_consistent _ _ (returns-clause-beside c)

pub returns-clause-writer : goal.returns-clause-writer
returns-clause-writer c =
    let w = c.writer.inside in
    let n = c.slots_beside-3.new.producer in
    let new : Writing =
    writing n c.slots_beside-2.new.self c.settle.new.counter.numbers c.settle.new.counter.limit
    c.settle.new.counter.count w.past.items w.noted in
    let counts = (invariant_of-writer c).1 in
    subst (λ (x : Writing). SameWriting x new) c.writer.view_is (record {
      pipe = same_pipe (ring_name w.items.end) (ring_name w.marks.end)
          (ring_name w.counter.numbers.end) (ring_name n.end)
          (ring_name c.slots_beside-2.new.self.end)
          (ring_name c.settle.new.counter.numbers.end) w.past.items
          (same_name c.slots_beside.new.self.end n.end c.slots_beside-3.ensures.producer.0.0
          ∙ same_name w.items.end c.slots_beside.new.self.end c.slots_beside.ensures.looked.0.0)
          (same_name w.marks.end c.slots_beside-2.new.self.end c.slots_beside-2.ensures.looked.0.0)
          (same_name w.counter.numbers.end c.settle.new.counter.numbers.end
          c.settle.ensures.counter.0.0);
      capacity = c.slots_beside-3.ensures.producer.0.1 ∙ c.slots_beside.ensures.looked.0.1;
      limit = c.settle.ensures.counter.1;
      put = ap (λ (l : List Item). w.past.items ++ l) (c.slots_beside-3.ensures.producer.1
          ∙ c.slots_beside.ensures.looked.1);
      noted = refl;
      counted = λ _. counted_view n c.slots_beside-2.new.self c.settle.new.counter.numbers
          c.settle.new.counter.limit c.settle.new.counter.count c.settle.new.counter.excess
          w.past.items w.noted counts;
    })
