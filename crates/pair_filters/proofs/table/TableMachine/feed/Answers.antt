use Rattle.std.proofs.Common.{◌<◌, ◌++◌, ◌∙◌, List, ap, sym, subst, length, drop, ℕ, arith, refl}
use Rattle.std.specs.Vec.{with_item}
use Rattle.std.proofs.lemmas.List.{with_items_is, get_or_read}
use Rattle.machine.specs.Law.{Feeds}
use Rattle.machine.proofs.Cuts.{contents_added}
use Rattle.pair_filters.specs.Intakes.{Left, over}
use Rattle.pair_filters.specs.TableShows.{pasting, column_open, open_within}
use Rattle.pair_filters.proofs.lemmas.CircleFeeds.{circle_feeds_as, row_emptied}
use Rattle.pair_filters.proofs.lemmas.TableFeeds.{table_feeds, written_as, settled_as}
use Rattle.pair_filters.proofs.lemmas.PourLaws.{poured_all}
use Rattle.pair_filters.proofs.lemmas.WantLaws.{wanted_used}
use Rattle.pair_filters.proofs.table.TableMachine.feed.Goals as goal

pub returns-clause-ok : goal.returns-clause-ok
returns-clause-ok c =
    let m = c.args.self.now in
    let i = c.args.input in
    let ds = m.delimiters.items in
    let cs = m.columns.items in
    let ss = m.intakes.items in
    let new = c.put_rows.new in
    let w = c.in_ok-put_rows.ensures.poured in
    let low : i < length ss =
    open_within ss i (column_open (drop m.place.column cs) ss i c.requires) in
    let read = get_or_read ss i c.index_mut.result.now low c.index_mut.ensures.value over in
    subst (λ (xs : List Left). Feeds i c.args.piece (pasting ds cs ss m.place)
    (pasting ds cs xs new.place) c.args.out.now c.hand_on.new.out)
    (sym (with_items_is (with_item m.intakes i c.push.new.self) new.intakes (w.written.same.count
    ∙ c.deref_mut.ensures.len)))
    (table_feeds ds cs ss new.intakes c.push.new.self m.place new.place i c.args.piece
    (w.handed ++ new.made) c.args.out.now c.hand_on.new.out c.requires
    (c.push.ensures ∙ ap (λ (s : Left). record s { left = s.left ++ c.args.piece }) read)
    (written_as _ ds _ cs _ _ new.intakes m.place new.place _ (w.handed ++ new.made)
    c.as_slice-2.ensures.value c.as_slice-3.ensures.value c.deref_mut.ensures.value c.clear.ensures
    w.written)
    (settled_as _ cs new.intakes new.place.column c.as_slice-3.ensures.value
    c.in_ok-put_rows.ensures.settled)
    (poured_all w.handed new.made c.args.out.now new.out c.hand_on.new.out w.added
    c.in_ok-hand_on.ensures.handed))

pub push-requires : goal.push-requires
push-requires c =
    let m = c.args.self.now in
    let i = c.args.input in
    let left = drop m.place.column m.columns.items in
    let ss = m.intakes.items in
    let low : i < length ss = open_within ss i (column_open left ss i c.requires) in
    ap (λ (s : Left). s.left)
    (get_or_read ss i c.index_mut.result.now low c.index_mut.ensures.value over)
    ∙ wanted_used left ss i c.requires m.emptied

pub invariant_of-self : goal.invariant_of-self
invariant_of-self c =
    let m = c.args.self.now in
    let circle = m.circle.items in
    let low : m.place.column < length circle =
    subst (λ (x : List ℕ). m.place.column < length x) c.as_slice.ensures.value
    ((c.if-goes_in_circle.ensures refl).0) in
    record {
      emptied =
          row_emptied m.delimiters.items m.columns.items circle m.intakes.items m.place.column
          c.put_in_rows.new.place.column (m.row (omega (arith, low))) low
          (subst (λ (x : List ℕ). c.put_in_rows.new.place.column < length x)
          c.as_slice-circle.ensures.value c.put_in_rows.ensures.within)
          m.emptied;
      row = m.row;
    }

pub returns-then-goes_in_circle-clause-ok : goal.returns-then-goes_in_circle-clause-ok
returns-then-goes_in_circle-clause-ok c =
    let m = c.args.self.now in
    let made = c.in_ok-made.made.items in
    let p = c.in_ok-made.ensures in
    circle_feeds_as m.delimiters.items m.columns.items m.circle.items _ _ m.intakes.items m.place
    c.put_in_rows.new.place c.args.input c.args.piece _ made c.args.out.now c.push_vec.new.self
    c.as_slice.ensures.value c.as_slice-circle.ensures.value c.bytes.ensures.value m.row c.requires
    ((c.if-goes_in_circle.ensures refl).0)
    ((c.if-goes_in_circle.ensures refl).1) m.emptied p.place p.within p.made
    (contents_added c.args.out.now c.push_vec.new.self made c.in_ok-push_vec.ensures.ok)
