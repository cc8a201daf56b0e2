-- The form in which the shards of a script are printed, by the name that a command line gives it.
use Rattle.std.specs.Prelude.{Option, Some, None, codes, bytes_eq, if◌then◌else◌}
use Rattle.clap.specs.Words.{Text}
use Rattle.command_line.specs.declared.showing.ShardsForm.{ShardsForm}
use Rattle.command_line.specs.declared.showing.ShardsForm.TheVariants.{Lines, Map, Combine, Json}

-- the form of this name, if there is one
abbrev pub shards_named : Text → Option ShardsForm
shards_named name =
    if bytes_eq name (codes "lines") then Some Lines
    else (if bytes_eq name (codes "map") then Some Map
    else (if bytes_eq name (codes "combine") then Some Combine
    else (if bytes_eq name (codes "json") then Some Json else None)))
