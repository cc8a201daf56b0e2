use Rattle.std.proofs.Common.{◌≡◌, ◌-◌, length}
use Rattle.commands.specs.declared.cut_words.Parts.TheVariants.{Fields}
use Rattle.commands.specs.Cut.{cut_line}
use Rattle.commands.specs.Selections.{is_selected}
use Rattle.line_filters.specs.inner.Walked.{Walked}
use Rattle.line_filters.proofs.cut_lines.put_field_lines.Given as goal

abbrev pub invariant-loop-at : goal.invariant-loop-at
invariant-loop-at l =
    Walked (cut_line (is_selected l.ranges.ranges.items) (Fields l.delimiter l.only_delimited))
    l.fn.partial.items l.partial.items l.bytes l.at l.fn.made l.made × (length l.few ≡ 1024)

abbrev pub decreases-loop-at : goal.decreases-loop-at
decreases-loop-at l = length l.bytes - l.at
