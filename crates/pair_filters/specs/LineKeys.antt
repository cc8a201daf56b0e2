-- The lines that uniq keeps, and their keys by its rules.
use Rattle.std.specs.Prelude.{◌≡◌, ℕ, ◌≤◌, List, [], ◌∷◌, ◌++◌, drop, length}
use Rattle.machine.specs.Lines.{content, newline}
use Rattle.pair_filters.specs.declared.runs.Rules.{Rules}
use Rattle.commands.specs.Keys.{key}

-- the key of a line
abbrev pub key_by : Rules → List ℕ → List ℕ
key_by rules = key rules.skipped_fields rules.skipped_bytes

-- the key of a line begins there
abbrev pub IsKeyAt : Rules → List ℕ → ℕ → Type 0
IsKeyAt rules line at = (at ≤ length line) × (drop at line ≡ key_by rules line)

-- a line that ends with its newline
abbrev pub IsEnded : List ℕ → Type 0
IsEnded line = line ≡ content line ++ newline ∷ []
