use Rattle.std.proofs.Common.{◌∙◌, sym, refl, get_or}
use Rattle.pair_filters.proofs.lemmas.OperandLaws.{passes_one, passes_on}
use Rattle.pair_filters.proofs.serial.next_operand.Goals as goal

pub loop-column-preserved : goal.loop-column-preserved
loop-column-preserved c =
    λ ds.
    let l = c.loop-column in
    let cs = c.args.columns.now in
    let p = l.column in
    let made = c.put_end.new.made in
    passes_on ds cs c.args.inputs.now c.args.from p _ c.args.made.now l.made made (l.invariant ds)
    (passes_one ds cs c.args.inputs.now p (get_or cs p 0) l.made made c.loop-column-test.true refl
    (sym c.is_first.ensures ∙ c.if-is_first.false) c.in_ok-put_end.ensures)
