-- What the words of a command line say is to be shown of a run, and of its faults.
use Rattle.std.specs.Prelude.{◌≡◌, ◌⊎◌, true, List, Option, Some, None, codes, is_some}
use Rattle.std.specs.Prelude.{option_and_then}
use Rattle.clap.specs.Words.{Row, Text, first_of}
use Rattle.command_line.specs.HintPlaces.{hints_named}
use Rattle.command_line.specs.ProgressLines.{progress_named}
use Rattle.command_line.specs.StatsForms.{stats_named}
use Rattle.command_line.specs.declared.showing.Progress.{Progress}
use Rattle.command_line.specs.declared.showing.StatsForm.{StatsForm}
use Rattle.command_line.specs.declared.showing.StatsForm.TheVariants as of

-- the name of the place at which progress is shown, if there is one
abbrev pub progress_in : List Row → Option Text
progress_in rows = first_of (codes "progress") rows

-- the progress of a run is to be shown in this place, whose name is given, or it is not to be shown
abbrev pub GivesProgress : List Row → Option Progress → Type 0
GivesProgress rows (Some progress) = option_and_then progress_named (progress_in rows)
    ≡ Some progress
GivesProgress rows None = progress_in rows ≡ None

-- the name is that of a place, or none is given
abbrev pub KnowsProgress : List Row → Type 0
KnowsProgress rows = (progress : Option Progress) × GivesProgress rows progress

-- a name is given, and it is that of no place
abbrev pub GivesNoSuchProgress : List Row → Type 0
GivesNoSuchProgress rows = (is_some (progress_in rows) ≡ true)
    × (option_and_then progress_named (progress_in rows) ≡ None)

-- the name of the form of the statistics, if there is one
abbrev pub stats_in : List Row → Option Text
stats_in rows = first_of (codes "stats") rows

-- the name of the file that statistics are written to, if there is one
abbrev pub stats_file_in : List Row → Option Text
stats_file_in rows = first_of (codes "stats-to") rows

-- the form of the statistics if none is named: lines, if a file is named for them
abbrev pub GivesUnnamedStats : List Row → Option StatsForm → Type 0
GivesUnnamedStats rows (Some form) = (form ≡ of.Text) × (is_some (stats_file_in rows) ≡ true)
GivesUnnamedStats rows None = stats_file_in rows ≡ None

-- The statistics are to be printed in this form, or they are not to be printed. The name of the
-- form is given, or none is.
abbrev pub GivesStats : List Row → Option StatsForm → Type 0
GivesStats rows (Some form) = (option_and_then stats_named (stats_in rows) ≡ Some form)
    ⊎ ((stats_in rows ≡ None) × GivesUnnamedStats rows (Some form))
GivesStats rows None = (stats_in rows ≡ None) × GivesUnnamedStats rows None

-- the name is that of a form, or none is given
abbrev pub KnowsStats : List Row → Type 0
KnowsStats rows = (form : Option StatsForm) × GivesStats rows form

-- a name is given, and it is that of no form
abbrev pub GivesNoSuchStats : List Row → Type 0
GivesNoSuchStats rows = (is_some (stats_in rows) ≡ true)
    × (option_and_then stats_named (stats_in rows) ≡ None)

-- the name of the place at which hints are written, if there is one
abbrev pub hints_in : List Row → Option Text
hints_in rows = first_of (codes "hints") rows

-- the name is that of a place, or none is given
abbrev pub KnowsHints : List Row → Type 0
KnowsHints rows = (hints_in rows ≡ None)
    ⊎ (is_some (option_and_then hints_named (hints_in rows)) ≡ true)

-- a name is given, and it is that of no place
abbrev pub GivesNoSuchHints : List Row → Type 0
GivesNoSuchHints rows = (is_some (hints_in rows) ≡ true)
    × (option_and_then hints_named (hints_in rows) ≡ None)

-- it is known what is to be shown of a run, and of its faults
abbrev pub KnowsShown : List Row → Type 0
KnowsShown rows = KnowsProgress rows × KnowsStats rows × KnowsHints rows
