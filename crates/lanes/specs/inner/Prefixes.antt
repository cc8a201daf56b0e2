-- The first bytes of a slice.
use Rattle.std.specs.Prelude.{ℕ, List, take}
use Rattle.lanes.specs.declared.prefix.Prefix.{Prefix}

-- the bytes
abbrev pub prefix_bytes : Prefix → List ℕ
prefix_bytes prefix = take prefix.len prefix.of.now
