use Rattle.std.proofs.Common.{ℕ, subst, sym}
use Rattle.std.specs.Prelude.{IfOk}
use Rattle.commands.specs.declared.cut_words.Parts.{Parts}
use Rattle.commands.specs.Selections.{is_selected}
use Rattle.line_filters.specs.CutLeft.{cut_left}
use Rattle.line_filters.specs.inner.LongLines.{PutsFront}
use Rattle.line_filters.proofs.long_lines.take_long_line.Goals as goal

pub returns-in-Fields-clause-front : goal.returns-in-Fields-clause-front
returns-in-Fields-clause-front c =
    let s = is_selected c.args.ranges.now.ranges.items in
    subst (λ (p : Parts). IfOk c.take_long_fields.result (λ count. (passed : ℕ)
    → PutsFront (cut_left s p c.args.partial.now.items passed)
    (cut_left s p c.take_long_fields.new.partial.items passed) c.args.bytes.now count
    c.args.out.now c.take_long_fields.new.out))
    (sym c.in-Fields.is) c.take_long_fields.ensures.front
