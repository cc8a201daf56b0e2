-- What the machine of cut shows.
use Rattle.machine.specs.Law.{Shown, IsLawful}
use Rattle.line_filters.specs.declared.cut.Cut.{Cut}
use Rattle.line_filters.specs.ByLine.{by_input, by_input_lawful}
use Rattle.line_filters.specs.CutLeft.{cut_input, cut_left}
use Rattle.commands.specs.Selections.{is_selected}

abbrev pub cut_shows : Cut → Shown
cut_shows m =
    by_input (cut_input (is_selected m.ranges.ranges.items) m.parts)
    (cut_left (is_selected m.ranges.ranges.items) m.parts m.partial.items m.passed)
    m.inputs.at m.inputs.presence

-- it obeys the law
pub cut_lawful : (m : Cut) → IsLawful (cut_shows m)
cut_lawful m =
    by_input_lawful (cut_input (is_selected m.ranges.ranges.items) m.parts)
    (cut_left (is_selected m.ranges.ranges.items) m.parts m.partial.items m.passed)
    m.inputs.at m.inputs.presence
