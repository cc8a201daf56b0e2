use Rattle.commands.specs.Selections.{is_selected}
use Rattle.line_filters.specs.inner.Ranges.{IsPassed}
use Rattle.line_filters.proofs.lemmas.StepLaws.{Leads}
use Rattle.line_filters.proofs.steps.steps_of.Given as goal

abbrev pub invariant-loop-range : goal.invariant-loop-range
invariant-loop-range l = IsPassed l.ranges l.range-index l.number
    × Leads (is_selected l.ranges) l.steps.items l.number
