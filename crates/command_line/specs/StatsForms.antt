-- The form in which the statistics of a run are printed, by the name that a command line gives it.
use Rattle.std.specs.Prelude.{Option, Some, None, codes, bytes_eq, if◌then◌else◌}
use Rattle.clap.specs.Words.{Text}
use Rattle.command_line.specs.declared.showing.StatsForm.{StatsForm}
use Rattle.command_line.specs.declared.showing.StatsForm.TheVariants as form

-- the form of this name, if there is one
abbrev pub stats_named : Text → Option StatsForm
stats_named name =
    if bytes_eq name (codes "text") then Some form.Text
    else (if bytes_eq name (codes "json") then Some form.Json else None)
