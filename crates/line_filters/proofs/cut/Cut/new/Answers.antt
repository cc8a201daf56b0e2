use Rattle.std.proofs.Common.{◌∙◌, ap, List}
use Rattle.commands.specs.declared.range.Range.{Range}
use Rattle.commands.specs.Selections.{is_selected}
use Rattle.line_filters.proofs.lemmas.NewLaws.{cut_new}
use Rattle.line_filters.proofs.cut.Cut.new.Goals as goal

pub returns : goal.returns
returns c =
    cut_new c.in_ok-new.field-0.ranges.items c.args.spec.now.ranges c.args.spec.now.parts
    c.new-3.result.items c.in_ok-new-2.field-0 c.args.inputs.now
    (λ n. c.in_ok-new.ensures n ∙ ap (λ (rs : List Range). is_selected rs n) c.as_slice.ensures)
    c.new-3.ensures.items c.in_ok-new-2.ensures
