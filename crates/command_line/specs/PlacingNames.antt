-- When outputs get what is written to them, by the name that a command line gives it.
use Rattle.std.specs.Prelude.{Option, Some, None, codes, bytes_eq, if◌then◌else◌}
use Rattle.clap.specs.Words.{Text}
use Rattle.run_types.specs.declared.placing.Placing.{Placing}
use Rattle.run_types.specs.declared.placing.Placing.TheVariants.{AtEnd, AtEndStored}

-- the time of this name, if there is one
abbrev pub placing_named : Text → Option Placing
placing_named name =
    if bytes_eq name (codes "renamed") then Some AtEnd
    else (if bytes_eq name (codes "synced") then Some AtEndStored else None)
