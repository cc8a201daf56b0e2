-- The first word that is none of the options that the variable may have.
use Rattle.std.specs.Prelude.{◌≡◌, not, List, Some}
use Rattle.std.specs.List.{find}
use Rattle.command_line.specs.Presets.{Word, is_preset}
use Rattle.command_line.specs.declared.presets.NoWords.{NoWords}
use Rattle.command_line.specs.declared.presets.NoWords.TheVariants.{NoMemory, NoPreset}

-- why these words of the variable were not added: memory was refused, or this is the first of them
-- that is none of its options
abbrev pub IsFirstUnknown : List Word → NoWords → Type 0
IsFirstUnknown words NoMemory = Unit {0}
IsFirstUnknown words (NoPreset word) = find (λ word. not (is_preset word)) words ≡ Some word.items
