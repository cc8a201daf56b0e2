-- Whether a run is strict, by the name that a command line gives it.
use Rattle.std.specs.Prelude.{Bool, true, false, Option, Some, None, codes, bytes_eq}
use Rattle.std.specs.Prelude.{if◌then◌else◌}
use Rattle.clap.specs.Words.{Text}

-- whether it is by this name, if it is one
abbrev pub strict_named : Text → Option Bool
strict_named name =
    if bytes_eq name (codes "always") then Some true
    else (if bytes_eq name (codes "never") then Some false else None)
