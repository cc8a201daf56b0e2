use Rattle.std.proofs.Common.{◌∙◌, sym, length}
use Rattle.pair_filters.proofs.lemmas.NewLaws.{serial_new_as, new_settled}
use Rattle.pair_filters.proofs.lemmas.SerialFeeds.{first_as}
use Rattle.pair_filters.proofs.serial.Serial.new.Goals as goal

pub invariant_of-result : goal.invariant_of-result
invariant_of-result c =
    let cs = c.args.columns.now in
    let ps = c.args.inputs.now in
    let found = c.first_column-column in
    record {
      bytes = λ h. c.in_ok-circle.ensures h ∙ sym c.in_ok-from_slice.ensures.items;
      settled = first_as cs c.in_ok-from_slice-2.field-0.items ps c.in_ok-from_slice-3.field-0.items
          found.result (sym c.in_ok-from_slice-2.ensures.items)
          (sym c.in_ok-from_slice-3.ensures.items)
          (new_settled cs (length ps) found.result found.ensures.within found.ensures.before
          found.ensures.here);
    }

pub returns : goal.returns
returns c =
    let found = c.first_column-column in
    serial_new_as c.args.delimiters.now c.in_ok-from_slice.field-0.items c.args.columns.now
    c.in_ok-from_slice-2.field-0.items c.args.inputs.now c.in_ok-from_slice-3.field-0.items
    found.result c.new.result c.new.ensures c.in_ok-from_slice.ensures.items
    c.in_ok-from_slice-2.ensures.items c.in_ok-from_slice-3.ensures.items found.ensures.within
    found.ensures.before found.ensures.here
