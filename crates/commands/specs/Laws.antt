-- What the words of every command promise of its inputs.
use Rattle.std.specs.Prelude.{◌≡◌, ◌≤◌, ℕ, List, Some, length, count_by}
use Rattle.command_words.specs.Streams.{is_standard_input}
use Rattle.commands.specs.Filters.{filter_means, input_count}
use Rattle.commands.specs.Operands.{input_names}
use Rattle.commands.specs.declared.spec.FilterSpec.{FilterSpec}

-- the standard input is at most one of the inputs of a command
abbrev pub StandardInputIsNamedOnce : Type 0
StandardInputIsNamedOnce = (words : List (List ℕ)) (f : FilterSpec) → filter_means words ≡ Some f
    → count_by is_standard_input (input_names f) ≤ 1

-- a command has as many inputs as names of inputs
abbrev pub InputsAreCounted : Type 0
InputsAreCounted = (words : List (List ℕ)) (f : FilterSpec) → filter_means words ≡ Some f
    → length (input_names f) ≡ input_count f
