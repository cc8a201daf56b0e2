use Rattle.std.proofs.Common.{◌≡◌, length, ◌-◌}
use Rattle.machine.specs.Lines.{newline}
use Rattle.commands.specs.declared.cut_words.Parts.TheVariants.{Fields}
use Rattle.commands.specs.Cut.{cut_line}
use Rattle.commands.specs.Selections.{is_selected}
use Rattle.line_filters.specs.inner.Walked.{Walked}
use Rattle.line_filters.proofs.cut_lines.put_far_lines.Given as goal

abbrev pub invariant-loop-end : goal.invariant-loop-end
invariant-loop-end l =
    Walked (cut_line (is_selected l.ranges.ranges.items) (Fields l.delimiter l.only_delimited))
    l.fn.partial.items l.partial.items l.bytes l.at l.fn.made l.made
    × (l.ends.bytes ≡ l.bytes) × (l.ends.byte ≡ newline) × (l.ends.from ≡ l.at)
    × (l.contents.bytes ≡ l.bytes) × (l.contents.byte ≡ l.delimiter)

abbrev pub decreases-loop-end : goal.decreases-loop-end
decreases-loop-end l = length l.bytes - l.at
