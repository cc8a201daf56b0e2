-- What tail keeps of its input.
use Rattle.std.specs.Prelude.{◌≡◌, ◌≤◌, [], ◌∷◌, ◌++◌}
use Rattle.line_filters.specs.KeptParts.{AreSized, amount_of, kept_bytes, later_bytes}
use Rattle.line_filters.specs.declared.tail.Tail.{Tail}
use Rattle.commands.specs.declared.tail_words.Origin.TheVariants.{Beginning, End}

-- Under `-N` the bytes that are kept after the first part have at most N newlines, or are at most N
-- bytes. Under `+N` nothing is kept. Each part that is kept has at most 4096 bytes, or as many as
-- the longest piece that came.
pub record KeepsTheLast (m : Tail) : Type 0 where
  pub few : m.origin ≡ End
      → amount_of m.kept.counted (later_bytes m.kept.full.items m.kept.last) ≤ m.left
  pub none : m.origin ≡ Beginning → kept_bytes m.kept.full.items m.kept.last ≡ []
  pub sized : AreSized m.kept.longest.bytes (m.kept.full.items ++ m.kept.last ∷ [])

-- a tail keeps no more than that
abbrev pub TailsKeepTheLast : Type 0
TailsKeepTheLast = (m : Tail) → KeepsTheLast m
