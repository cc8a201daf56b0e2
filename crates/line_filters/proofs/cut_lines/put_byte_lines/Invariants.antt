use Rattle.std.proofs.Common.{◌≡◌, length, ◌-◌}
use Rattle.machine.specs.Lines.{newline}
use Rattle.commands.specs.Selections.{is_selected}
use Rattle.line_filters.proofs.lemmas.LeftLaws.{BytesWalked}
use Rattle.line_filters.proofs.cut_lines.put_byte_lines.Given as goal

abbrev pub invariant-loop-end : goal.invariant-loop-end
invariant-loop-end l =
    BytesWalked (is_selected l.ranges.ranges.items) l.fn.passed l.passed l.bytes l.at l.fn.made
    l.made
    × (l.ends.bytes ≡ l.bytes) × (l.ends.byte ≡ newline) × (l.ends.from ≡ l.at)

abbrev pub decreases-loop-end : goal.decreases-loop-end
decreases-loop-end l = length l.bytes - l.at
