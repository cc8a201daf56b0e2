use Rattle.std.proofs.Common.{ℕ, Option, ◌<◌, ◌∙◌, length, None, ap, arith}
use Rattle.std.proofs.lemmas.List.{with_items_is, length-replicate}
use Rattle.openings.proofs.lemmas.NoteLaws.{all_noted}
use Rattle.openings.proofs.tables.Tables.filled.Goals as goal

pub returns-clause-own : goal.returns-clause-own
returns-clause-own c = λ node h.
    let old = c.as_mut_slice.ensures.value ∙ c.requires.own in
    let within : node < length c.as_mut_slice.result.now =
    omega (
      arith,
      h,
      ap length old,
      length-replicate {A = Option ℕ}
          (length c.args.plan.now.nodes) None,
    ) in
    all_noted c.args.plan.now c.new.result c.args.self.inputs.items c.args.self.outputs.items
    c.as_mut_slice.result.now c.note_all.new.own _
    (length c.args.plan.now.nodes) node c.new.ensures
    (with_items_is c.args.self.own c.note_all.new.own (c.note_all.ensures.count
    ∙ c.as_mut_slice.ensures.len)) old
    (rw (c.as_slice-2.ensures.value, c.as_slice-3.ensures.value) at
    (c.note_all.ensures.noted node within))
