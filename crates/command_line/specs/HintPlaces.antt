-- The place at which hints are written, by the name that a command line gives it.
use Rattle.std.specs.Prelude.{Option, Some, None, codes, bytes_eq, if◌then◌else◌}
use Rattle.clap.specs.Words.{Text}
use Rattle.command_line.specs.declared.showing.Hints.{Hints}
use Rattle.command_line.specs.declared.showing.Hints.TheVariants as place

-- the place of this name, if there is one
abbrev pub hints_named : Text → Option Hints
hints_named name =
    if bytes_eq name (codes "terminal") then Some place.OnTerminal
    else (if bytes_eq name (codes "always") then Some place.Always
    else (if bytes_eq name (codes "line") then Some place.Line
    else (if bytes_eq name (codes "never") then Some place.Never else None)))
