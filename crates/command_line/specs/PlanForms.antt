-- The form in which a plan is printed, by the name that a command line gives it.
use Rattle.std.specs.Prelude.{Option, Some, None, codes, bytes_eq, if◌then◌else◌}
use Rattle.clap.specs.Words.{Text}
use Rattle.command_line.specs.declared.showing.PlanForm.{PlanForm}
use Rattle.command_line.specs.declared.showing.PlanForm.TheVariants.{Lines, Full, Json}

-- the form of this name, if there is one
abbrev pub form_named : Text → Option PlanForm
form_named name =
    if bytes_eq name (codes "lines") then Some Lines
    else (if bytes_eq name (codes "full") then Some Full
    else (if bytes_eq name (codes "json") then Some Json else None))
