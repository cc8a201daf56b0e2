-- What uniq writes of a whole input (POSIX.1-2017 XCU uniq, DESCRIPTION, OPTIONS and STDOUT).
use Rattle.std.specs.Prelude.{ℕ, List, [], ◌∷◌, ◌++◌, ◌==◌, nat_le, max, map, decimal}
use Rattle.std.specs.Prelude.{if◌then◌else◌}
use Rattle.std.specs.List.{flat_map}
use Rattle.machine.specs.Lines.{lines, content, newline}
use Rattle.machine.specs.Whole.{present, unless_missing, WholeAnswer}
use Rattle.command_words.specs.Bytes.{space}
use Rattle.commands.specs.declared.uniq_words.RunsShown.{RunsShown}
use Rattle.commands.specs.declared.uniq_words.RunsShown.TheVariants.{Every, Counted, Repeated}
use Rattle.commands.specs.declared.uniq_words.RunsShown.TheVariants.{Single}
use Rattle.commands.specs.Keys.{key}
use Rattle.commands.specs.Runs.{Run, run_length, runs}

-- what is written of a run of n lines with this first one: -c puts its length before it, -d writes
-- runs of two lines or more, -u runs of one
abbrev pub run_text : RunsShown → List ℕ → ℕ → List ℕ
run_text Every first n = first ++ newline ∷ []
run_text Counted first n = decimal n ++ space ∷ (first ++ newline ∷ [])
run_text Repeated first n = if nat_le 2 n then first ++ newline ∷ [] else []
run_text Single first n = if n == 1 then first ++ newline ∷ [] else []

-- the numbers that are written of runs
abbrev pub counts_of : RunsShown → List Run → List ℕ
counts_of Every rs = []
counts_of Counted rs = map run_length rs
counts_of Repeated rs = []
counts_of Single rs = []

-- what is written of lines
abbrev pub uniq_text : (List ℕ → List ℕ) → RunsShown → List (List ℕ) → List ℕ
uniq_text key shown ls = flat_map (λ (r : Run). run_text shown r.first (run_length r)) (runs key ls)

-- the numbers that are written of them
abbrev pub uniq_counts : (List ℕ → List ℕ) → RunsShown → List (List ℕ) → List ℕ
uniq_counts key shown ls = counts_of shown (runs key ls)

-- the greatest of these, or 0 if there are none
abbrev pub greatest : List ℕ → ℕ
greatest [] = 0
greatest (n ∷ ns) = max n (greatest ns)

-- the contents of the lines of a stream
abbrev pub contents_of : List ℕ → List (List ℕ)
contents_of x = map content (lines x)

-- the whole answer of uniq
abbrev pub uniq_whole : ℕ → ℕ → RunsShown → WholeAnswer
uniq_whole skipped_fields skipped_bytes shown ins =
    record {
      out =
          unless_missing ins
          (flat_map
          (λ (x : List ℕ). uniq_text (key skipped_fields skipped_bytes) shown (contents_of x))
          (present ins));
      count =
          greatest (unless_missing ins
          (flat_map
          (λ (x : List ℕ). uniq_counts (key skipped_fields skipped_bytes) shown (contents_of x))
          (present ins)));
    }
