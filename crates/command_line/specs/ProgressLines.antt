-- The place at which progress is shown, by the name that a command line gives it.
use Rattle.std.specs.Prelude.{Option, Some, None, codes, bytes_eq, if◌then◌else◌}
use Rattle.clap.specs.Words.{Text}
use Rattle.command_line.specs.declared.showing.Progress.{Progress}
use Rattle.command_line.specs.declared.showing.Progress.TheVariants.{OnTerminal, Always}

-- the place of this name, if there is one
abbrev pub progress_named : Text → Option Progress
progress_named name =
    if bytes_eq name (codes "terminal") then Some OnTerminal
    else (if bytes_eq name (codes "always") then Some Always else None)
