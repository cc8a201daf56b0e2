-- What cut writes of what is left of an input.
use Rattle.std.specs.Prelude.{ℕ, Bool, List, []}
use Rattle.std.specs.List.{flat_map}
use Rattle.machine.specs.Lines.{lines, led}
use Rattle.commands.specs.declared.cut_words.Parts.{Parts}
use Rattle.commands.specs.declared.cut_words.Parts.TheVariants.{Bytes, Fields}
use Rattle.commands.specs.Cut.{cut_line}
use Rattle.line_filters.specs.ShortLines.{bytes_left}

-- What is written of what is left. Of a line that is begun, `partial` is kept under -f, and under
-- -b only the number of its bytes, `passed`.
abbrev pub cut_left : (ℕ → Bool) → Parts → List ℕ → ℕ → List ℕ → List ℕ
cut_left selects Bytes partial passed xs = bytes_left selects passed xs
cut_left selects (Fields delimiter only_delimited) partial passed xs =
    flat_map (cut_line selects (Fields delimiter only_delimited)) (led partial (lines xs))

-- what is written of an input
abbrev pub cut_input : (ℕ → Bool) → Parts → List ℕ → List ℕ
cut_input selects parts xs = cut_left selects parts [] 0 xs
