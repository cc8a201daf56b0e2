-- What wc counts, and the lines that it writes (POSIX.1-2017 XCU wc, DESCRIPTION, OPTIONS and
-- STDOUT).
use Rattle.std.specs.Prelude.{ℕ, ◌+◌, List, [], ◌∷◌, ◌++◌, Bool, true, false, ◌==◌, ◌&&◌, not}
use Rattle.std.specs.Prelude.{Option, Some, None, length, map, nat_le, count_by, max, decimal}
use Rattle.std.specs.Prelude.{codes, slice_get, if◌then◌else◌}
use Rattle.std.specs.List.{enumerate_from, flat_map, fold, join_with_byte, sum_by, zip}
use Rattle.std.specs.Option.{option_to_list}
use Rattle.machine.specs.Lines.{newline}
use Rattle.machine.specs.Whole.{present, WholeAnswer}
use Rattle.command_words.specs.Bytes.{space}
use Rattle.command_words.specs.Bytes.{is_space}
use Rattle.commands.specs.declared.wc_counts.Counts.{Counts}
use Rattle.commands.specs.declared.wc_words.WcSpec.{WcSpec}

-- whether a byte belongs to a word: it is not in the class `space`
abbrev pub is_word : ℕ → Bool
is_word x = not (is_space x)

-- for each byte whether the one before it belongs to a word, and whether it does; `before` comes
-- before them all
abbrev pub neighbours : Bool → List ℕ → List (Bool × Bool)
neighbours before xs = zip (before ∷ map is_word xs) (map is_word xs)

-- how many words begin: how many bytes of words have no byte of a word before them
abbrev pub words_after : Bool → List ℕ → ℕ
words_after before xs = count_by (λ (p : Bool × Bool). not p.0 && p.1) (neighbours before xs)

-- the newlines, words and bytes of a stream, whose beginning was counted and ended within a word or
-- not
abbrev pub counted_after : Counts → Bool → List ℕ → Counts
counted_after counts before xs =
    record {
      lines = counts.lines + count_by (λ x. x == newline) xs;
      words = counts.words + words_after before xs;
      bytes = counts.bytes + length xs;
    }

-- nothing was counted
abbrev pub nothing : Counts
nothing = record { lines = 0; words = 0; bytes = 0 }

-- the newlines, words and bytes of a stream
abbrev pub counts_of : List ℕ → Counts
counts_of xs = counted_after nothing false xs

-- this number, if it is asked for
abbrev pub asked : Bool → ℕ → List ℕ
asked true n = n ∷ []
asked false n = []

-- the numbers that are asked for, in the order in which they are written
abbrev pub numbers : WcSpec → Counts → List ℕ
numbers spec counts = asked spec.lines counts.lines
    ++ (asked spec.words counts.words ++ asked spec.bytes counts.bytes)

-- a line of wc: its name, if it has one, and its numbers
abbrev pub Tally : Type 0
Tally = Option (List ℕ) × List ℕ

-- the line of an input, by its number, named as its operand; none of a missing one
abbrev pub tally_of : WcSpec → ℕ × Option (List ℕ) → List Tally
tally_of spec (i, None) = []
tally_of spec (i, Some xs) = (slice_get spec.operands i, numbers spec (counts_of xs)) ∷ []

-- the sums over the present inputs
abbrev pub sums : List (Option (List ℕ)) → Counts
sums ins =
    record {
      lines = sum_by (λ xs. (counts_of xs).lines) (present ins);
      words = sum_by (λ xs. (counts_of xs).words) (present ins);
      bytes = sum_by (λ xs. (counts_of xs).bytes) (present ins);
    }

-- whether a line with the sums is written: two operands or more are given
abbrev pub has_total : WcSpec → Bool
has_total spec = nat_le 2 (length spec.operands)

-- the line with the sums, if one is written
abbrev pub total_of : WcSpec → Counts → List Tally
total_of spec counts = if has_total spec then (Some (codes "total"), numbers spec counts) ∷ []
    else []

-- the lines of wc
abbrev pub tallies : WcSpec → List (Option (List ℕ)) → List Tally
tallies spec ins = flat_map (tally_of spec) (enumerate_from 0 ins) ++ total_of spec (sums ins)

-- a line as it is written: the numbers and the name with a space between each two, and a newline
abbrev pub written_line : Tally → List ℕ
written_line t = join_with_byte space (map decimal t.1 ++ option_to_list t.0) ++ newline ∷ []

-- the greatest of these, or 0 if there are none
abbrev pub greatest : List ℕ → ℕ
greatest ns = fold max 0 ns

-- the whole answer of wc
abbrev pub wc_whole : WcSpec → WholeAnswer
wc_whole spec ins =
    record {
      out = flat_map written_line (tallies spec ins);
      count = greatest (flat_map (λ (t : Tally). t.1) (tallies spec ins));
    }
