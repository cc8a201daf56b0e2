-- What fold makes of its inputs (POSIX.1-2017 XCU fold, DESCRIPTION and OPTIONS).
use Rattle.std.specs.Prelude.{ℕ, zero, suc, ◌+◌, ◌-◌, ◌*◌, ◌/◌, List, [], ◌∷◌, ◌++◌, Bool, false}
use Rattle.std.specs.Prelude.{◌==◌, ◌&&◌, ◌||◌, not, drop, length, max, nat_le, nat_lt, slice_index}
use Rattle.std.specs.Prelude.{if◌then◌else◌}
use Rattle.std.specs.List.{flat_map, prefix_len}
use Rattle.machine.specs.Lines.{content, lines, newline}
use Rattle.machine.specs.Whole.{present, WholeAnswer}
use Rattle.command_words.specs.Bytes.{is_blank_byte}
use Rattle.commands.specs.declared.fold_words.FoldForm.{FoldForm}

-- a backspace or a carriage return
abbrev pub is_back : ℕ → Bool
is_back x = (x == 8) || (x == 13)

-- The column after a byte. If bytes are counted, each adds one. Otherwise a backspace takes one
-- away, a carriage return goes to column 0, a tab to the next multiple of 8, and every other byte
-- adds one.
abbrev pub column_after : FoldForm → ℕ → ℕ → ℕ
column_after spec column x =
    if spec.bytes then column + 1
    else (if x == 8 then column - 1
    else (if x == 13 then 0
    else (if x == 9 then (column / 8 + 1) * 8
    else column + 1)))

-- the column after each of these bytes, if this is the one before them
abbrev pub columns : FoldForm → ℕ → List ℕ → List ℕ
columns spec column [] = []
columns spec column (x ∷ xs) = column_after spec column x
    ∷ columns spec (column_after spec column x) xs

-- whether a column is within the width
abbrev pub fits : FoldForm → ℕ → Bool
fits spec column = nat_le column spec.width

-- how many bytes in front fit, and one at least
abbrev pub fitting : FoldForm → List ℕ → ℕ
fitting spec xs = max 1 (prefix_len (fits spec) (columns spec 0 xs))

-- whether a backspace or a carriage return is in front
abbrev pub begins_back : List ℕ → Bool
begins_back [] = false
begins_back (x ∷ xs) = is_back x

-- whether a line may be cut after this byte, which these follow: under `-s` after a blank, unless
-- bytes are not counted and a backspace or carriage return follows
abbrev pub is_break : FoldForm → ℕ → List ℕ → Bool
is_break spec x xs = spec.spaces && (is_blank_byte x && (spec.bytes || not (begins_back xs)))

-- The place after the last byte among the first n at which a line may be cut, or `found` if there
-- is none; `place` bytes come before them.
abbrev pub last_break : FoldForm → ℕ → ℕ → ℕ → List ℕ → ℕ
last_break spec found place zero xs = found
last_break spec found place (suc n) [] = found
last_break spec found place (suc n) (x ∷ xs) =
    last_break spec (if is_break spec x xs then place + 1 else found) (place + 1) n xs

-- how many bytes more a segment has that would be cut after this byte, which these follow: none is
-- cut next to a backspace or a carriage return
abbrev pub lengthened : ℕ → List ℕ → ℕ
lengthened last [] = 0
lengthened last (x ∷ xs) = if is_back last || is_back x then lengthened x xs + 1 else 0

-- How many bytes the first segment of a line has: all, if they fit. Otherwise, under `-s`, those up
-- to the last blank that fits, if there is one. Otherwise those that fit, and more so that none is
-- cut next to a backspace or a carriage return.
abbrev pub segment : FoldForm → List ℕ → ℕ
segment spec xs =
    let n = fitting spec xs in
    let b = last_break spec 0 0 n xs in
    if nat_le (length xs) n then length xs
    else (if nat_lt 0 b then b
    else (if spec.bytes then n else n + lengthened (slice_index xs (n - 1)) (drop n xs)))

-- what is left of a line's content whose first bytes, this many, belong to the segment before: a
-- newline before each segment
abbrev pub segments_after : FoldForm → ℕ → List ℕ → List ℕ
segments_after spec zero [] = []
segments_after spec (suc passed) [] = []
segments_after spec (suc passed) (x ∷ xs) = x ∷ segments_after spec passed xs
segments_after spec zero (x ∷ xs) = newline ∷ x ∷ segments_after spec (segment spec (x ∷ xs) - 1) xs

-- a line's content, with a newline between each two segments
abbrev pub segments : FoldForm → List ℕ → List ℕ
segments spec xs = segments_after spec (segment spec xs) xs

-- a line: its content in segments, and its own newline, if it has one
abbrev pub folded_line : FoldForm → List ℕ → List ℕ
folded_line spec line = segments spec (content line) ++ drop (length (content line)) line

-- a stream, line by line
abbrev pub folded : FoldForm → List ℕ → List ℕ
folded spec xs = flat_map (folded_line spec) (lines xs)

-- the whole answer of fold
abbrev pub fold_whole : FoldForm → WholeAnswer
fold_whole spec ins = record { out = flat_map (folded spec) (present ins); count = 0 }
