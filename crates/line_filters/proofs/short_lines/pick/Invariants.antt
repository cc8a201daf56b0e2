use Rattle.std.proofs.Common.{◌≡◌, length}
use Rattle.commands.specs.Selections.{is_selected}
use Rattle.line_filters.proofs.lemmas.ShortLaws.{Picked}
use Rattle.line_filters.proofs.short_lines.pick.Given as goal

abbrev pub invariant-loop-byte : goal.invariant-loop-byte
invariant-loop-byte l =
    Picked (is_selected l.ranges.ranges.items) l.lines l.few l.byte-index l.passed l.made
    × (length l.few ≡ 64)
