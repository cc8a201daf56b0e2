-- The operands of a command: the names of its inputs and of its outputs (POSIX.1-2017 XCU, the
-- OPERANDS, STDIN and STDOUT of the utilities' pages).
use Rattle.std.specs.Prelude.{ℕ, Bool, true, false, List, [], ◌∷◌, length, is_none}
use Rattle.std.specs.Option.{option_to_list}
use Rattle.command_words.specs.Bytes.{dash}
use Rattle.commands.specs.declared.spec.FilterSpec.{FilterSpec}
use Rattle.commands.specs.declared.spec.FilterSpec.TheVariants as spec

-- its operands that name inputs, each input once; `-` is standard input
abbrev pub input_operands : FilterSpec → List (List ℕ)
input_operands (spec.Cat s) = s.inputs
input_operands (spec.Cut s) = s.inputs
input_operands (spec.Fold s) = s.inputs
input_operands (spec.Head s) = s.inputs
input_operands (spec.Paste s) = s.inputs
input_operands (spec.Tail s) = s.inputs
input_operands (spec.Tee s) = []
input_operands (spec.Tr s) = []
input_operands (spec.Uniq s) = s.inputs
input_operands (spec.Wc s) = s.operands

-- without such operands a command reads its standard input alone
abbrev pub or_standard : List (List ℕ) → List (List ℕ)
or_standard [] = (dash ∷ []) ∷ []
or_standard (name ∷ names) = name ∷ names

-- the names of its inputs, by input
abbrev pub input_names : FilterSpec → List (List ℕ)
input_names f = or_standard (input_operands f)

-- its operands that name outputs
abbrev pub output_operands : FilterSpec → List (List ℕ)
output_operands (spec.Tee s) = s.outputs
output_operands (spec.Uniq s) = option_to_list s.output
output_operands _ = []

-- whether it writes after what these hold
abbrev pub is_appending : FilterSpec → Bool
is_appending (spec.Tee s) = s.append
is_appending _ = false

-- whether it writes its standard output; a uniq with an output operand writes that in its place
abbrev pub writes_standard : FilterSpec → Bool
writes_standard (spec.Uniq s) = is_none s.output
writes_standard _ = true

-- How many operands it has, each `-` of paste among them. (That uniq may have one more for its
-- output reaches no limit.)
abbrev pub operand_count : FilterSpec → ℕ
operand_count (spec.Paste s) = length s.columns
operand_count (spec.Tee s) = length s.outputs
operand_count f = length (input_operands f)
