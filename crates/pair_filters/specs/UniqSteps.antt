-- What uniq makes of lines as they come. Of a run that is not over it knows its first line and how
-- many lines it has.
use Rattle.std.specs.Prelude.{◌≡◌, ℕ, ◌+◌, ◌^◌, ◌≤◌, List, ◌∷◌, ◌++◌, Option, Some, None, map}
use Rattle.std.specs.Prelude.{replicate}
use Rattle.std.specs.Borrow.{Bor}
use Rattle.machine.specs.Lines.{lines, led, content}
use Rattle.pair_filters.specs.declared.begun.Begun.{Begun}
use Rattle.pair_filters.specs.declared.runs.Rules.{Rules}
use Rattle.commands.specs.declared.uniq_words.RunsShown.{RunsShown}
use Rattle.commands.specs.declared.uniq_words.RunsShown.TheVariants.{Every, Counted, Repeated}
use Rattle.commands.specs.declared.uniq_words.RunsShown.TheVariants.{Single}
use Rattle.pair_filters.specs.LineKeys.{key_by}
use Rattle.commands.specs.Uniq.{uniq_text, uniq_counts, greatest}

-- what is written of lines
abbrev pub text_by : Rules → List (List ℕ) → List ℕ
text_by rules ls = uniq_text (key_by rules) rules.shown ls

-- the greatest number that is written of them
abbrev pub greatest_by : Rules → List (List ℕ) → ℕ
greatest_by rules ls = greatest (uniq_counts (key_by rules) rules.shown ls)

-- The lines of the run that is not over: as many as there are, each with the key of the first one,
-- as good as that.
abbrev pub lines_begun : Begun → List (List ℕ)
lines_begun begun = replicate begun.count (content begun.first.items)

-- the contents of the lines of a stream, if the beginning of the first one comes before it
abbrev pub contents_behind : List ℕ → List ℕ → List (List ℕ)
contents_behind partial x = map content (led partial (lines x))

-- how many lines a run of n lines has with one more; without -c two means all numbers above one
abbrev pub one_more : RunsShown → ℕ → ℕ
one_more Every n = 2
one_more Counted n = n + 1
one_more Repeated n = 2
one_more Single n = 2

-- A line was taken, and `made` grew to `made'`: whatever lines follow, that and what is written of
-- the rest is as before, and no number is greater.
pub record TakesLine (rules : Rules) (begun begun' : List (List ℕ)) (line made made' : List ℕ) :
    Type 0 where
  pub splits : (ls : List (List ℕ))
      → made ++ text_by rules (begun ++ line ∷ ls) ≡ made' ++ text_by rules (begun' ++ ls)
  pub counts : (ls : List (List ℕ))
      → greatest_by rules (begun' ++ ls) ≤ greatest_by rules (begun ++ line ∷ ls)

-- whatever lines follow, a number is too great
abbrev pub IsOneTooMany : Rules → List (List ℕ) → List ℕ → Type 0
IsOneTooMany rules begun line = (ls : List (List ℕ))
    → 2 ^ 63 ≤ greatest_by rules (begun ++ line ∷ ls)

-- Bytes were taken, whatever follows. `partial` came before them and `partial'` comes before what
-- follows.
pub record TakesBytes (rules : Rules) (begun begun' : List (List ℕ))
    (partial partial' bytes made made' : List ℕ) : Type 0 where
  pub splits : (zs : List ℕ)
      → made ++ text_by rules (begun ++ contents_behind partial (bytes ++ zs))
      ≡ made' ++ text_by rules (begun' ++ contents_behind partial' zs)
  pub counts : (zs : List ℕ)
      → greatest_by rules (begun' ++ contents_behind partial' zs)
      ≤ greatest_by rules (begun ++ contents_behind partial (bytes ++ zs))

-- whatever bytes follow, a number is too great
abbrev pub AreTooMany : Rules → List (List ℕ) → List ℕ → List ℕ → Type 0
AreTooMany rules begun partial bytes = (zs : List ℕ)
    → 2 ^ 63 ≤ greatest_by rules (begun ++ contents_behind partial (bytes ++ zs))

-- the content of the first line of the run that is not over: of the one that began last, if one
-- did, otherwise of the one before
abbrev pub first_of : List ℕ → Option (Bor (List ℕ)) → List ℕ
first_of before None = before
first_of before (Some line) = line.now
