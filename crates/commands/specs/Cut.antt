-- What cut writes of whole inputs (POSIX.1-2017 XCU cut, DESCRIPTION and OPTIONS): of each line the
-- selected bytes or fields, in the line's order, whatever the order of the list.
use Rattle.std.specs.Prelude.{ℕ, List, [], ◌∷◌, ◌++◌, Bool, ◌==◌, if◌then◌else◌}
use Rattle.std.specs.List.{flat_map, join_with_byte, slice_split, list_any}
use Rattle.machine.specs.Lines.{lines, content, newline}
use Rattle.machine.specs.Whole.{present, WholeAnswer}
use Rattle.commands.specs.declared.cut_words.Parts.{Parts}
use Rattle.commands.specs.declared.cut_words.Parts.TheVariants.{Bytes, Fields}
use Rattle.commands.specs.declared.range.Range.{Range}
use Rattle.commands.specs.Selections.{is_selected, selected}

-- the fields between the delimiters
abbrev pub fields : ℕ → List ℕ → List (List ℕ)
fields delimiter xs = slice_split (λ x. x == delimiter) xs

-- whether a byte is in a list
abbrev pub has_byte : ℕ → List ℕ → Bool
has_byte byte xs = list_any (λ x. x == byte) xs

-- What is written of the content of a line. A line without the delimiter has no fields: it is
-- written whole, or left out.
abbrev pub cut_content : (ℕ → Bool) → Parts → List ℕ → List ℕ
cut_content selects Bytes xs = selected selects xs ++ newline ∷ []
cut_content selects (Fields delimiter only_delimited) xs =
    if has_byte delimiter xs
    then join_with_byte delimiter (selected selects (fields delimiter xs)) ++ newline ∷ []
    else (if only_delimited then [] else xs ++ newline ∷ [])

-- what is written of a line
abbrev pub cut_line : (ℕ → Bool) → Parts → List ℕ → List ℕ
cut_line selects parts line = cut_content selects parts (content line)

-- the whole answer of cut: the lines of each present input by themselves
abbrev pub cut_whole : List Range → Parts → WholeAnswer
cut_whole ranges parts ins =
    record {
      out = flat_map (cut_line (is_selected ranges) parts) (flat_map lines (present ins));
      count = 0;
    }
