use Rattle.std.proofs.Common.{◌<◌, ◌++◌, ◌∙◌, List, true, ap, sym, subst, length, drop}
use Rattle.std.specs.Vec.{with_item}
use Rattle.std.proofs.lemmas.List.{with_items_is, get_or_read}
use Rattle.machine.specs.Law.{Closes}
use Rattle.pair_filters.specs.Intakes.{Left, over}
use Rattle.pair_filters.specs.TableShows.{pasting, column_open, open_within}
use Rattle.pair_filters.proofs.lemmas.TableFeeds.{table_closes, written_as, settled_as}
use Rattle.pair_filters.proofs.lemmas.PourLaws.{poured_all}
use Rattle.pair_filters.proofs.table.TableMachine.close.Goals as goal

pub returns-clause-ok : goal.returns-clause-ok
returns-clause-ok c =
    let m = c.args.self.now in
    let i = c.args.input in
    let ds = m.delimiters.items in
    let cs = m.columns.items in
    let ss = m.intakes.items in
    let new = c.put_rows.new in
    let w = c.in_ok-put_rows.ensures.poured in
    let low : i < length ss =
    open_within ss i (column_open (drop m.place.column cs) ss i c.requires) in
    let read = get_or_read ss i c.index_mut.result.now low c.index_mut.ensures.value over in
    subst (λ (xs : List Left). Closes i (pasting ds cs ss m.place)
    (pasting ds cs xs new.place) c.args.out.now c.hand_on.new.out)
    (sym (with_items_is (with_item m.intakes i c.close.new.self) new.intakes (w.written.same.count
    ∙ c.deref_mut.ensures.len)))
    (table_closes ds cs ss new.intakes c.close.new.self m.place new.place i (w.handed ++ new.made)
    c.args.out.now c.hand_on.new.out c.requires
    (c.close.ensures ∙ ap (λ (s : Left). record s { closed = true }) read)
    (written_as _ ds _ cs _ _ new.intakes m.place new.place _ (w.handed ++ new.made)
    c.as_slice.ensures.value c.as_slice-2.ensures.value c.deref_mut.ensures.value c.clear.ensures
    w.written)
    (settled_as _ cs new.intakes new.place.column c.as_slice-2.ensures.value
    c.in_ok-put_rows.ensures.settled)
    (poured_all w.handed new.made c.args.out.now new.out c.hand_on.new.out w.added
    c.in_ok-hand_on.ensures.handed))
