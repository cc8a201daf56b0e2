-- The names of a command's inputs: its operands, or `-` alone.
use Rattle.std.proofs.Common.{◌≡◌, ℕ, List, [], ◌∷◌, length, refl}
use Rattle.std.specs.Prelude.{unwrap_or}
use Rattle.std.specs.List.{flat_map, enumerate_from, position, position_or_len}
use Rattle.command_words.specs.Streams.{is_standard_input}
use Rattle.commands.specs.Operands.{or_standard}
use Rattle.planner.specs.declared.plan.NodeName.{NodeName}
use Rattle.planner.specs.Places.{Stage}
use Rattle.planner.specs.Openings.{opened_operand, in_side}
use Rattle.planner.proofs.lemmas.GatherLaws.{or_length}

-- the number of the first that is `-`
pub first_standard : (operands : List (List ℕ))
    → unwrap_or (position is_standard_input operands) (length operands)
    ≡ position_or_len is_standard_input (or_standard operands)
first_standard [] = refl
first_standard (name ∷ names) = or_length is_standard_input (name ∷ names)

-- nothing is opened for `-`
pub opened_by_operands : (fifos : List (List ℕ)) (nodes : List NodeName) (s : Stage)
    (operands : List (List ℕ)) → flat_map (opened_operand (in_side fifos) nodes s)
    (enumerate_from 0 operands) ≡ flat_map (opened_operand (in_side fifos) nodes s)
    (enumerate_from 0 (or_standard operands))
opened_by_operands fifos nodes s [] = refl
opened_by_operands fifos nodes s (name ∷ names) = refl
