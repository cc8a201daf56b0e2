-- What head writes of whole inputs (POSIX.1-2017 XCU head, DESCRIPTION, OPTIONS and STDOUT).
use Rattle.std.specs.Prelude.{ℕ, List, ◌++◌, Option, Some, None, codes, length, nat_le, take}
use Rattle.std.specs.Prelude.{if◌then◌else◌}
use Rattle.std.specs.List.{concat, flat_map, filter_map, join_with_byte, zip}
use Rattle.machine.specs.Lines.{lines, newline}
use Rattle.machine.specs.Whole.{present, WholeAnswer}

-- the first n lines
abbrev pub head_of : ℕ → List ℕ → List ℕ
head_of n x = concat (take n (lines x))

-- the header of an input with this name
abbrev pub header : List ℕ → List ℕ
header name = codes "==> " ++ name ++ codes " <==\n"

-- a present input's first lines under its header
abbrev pub under_header : ℕ → List ℕ × Option (List ℕ) → Option (List ℕ)
under_header n (name, None) = None
under_header n (name, Some x) = Some (header name ++ head_of n x)

-- The whole answer of head of inputs with these names: if there are two or more, each present one
-- has a header, and a newline comes before every header but the first.
abbrev pub head_whole : ℕ → List (List ℕ) → WholeAnswer
head_whole n names ins =
    record {
      out = if nat_le 2 (length names)
          then join_with_byte newline (filter_map (under_header n) (zip names ins))
          else flat_map (head_of n) (present ins);
      count = 0;
    }
