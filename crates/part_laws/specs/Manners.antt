-- How a filter's output for an input follows from its outputs for the parts of that input.
--
-- A filter writes what its utility's page says of its whole standard input (POSIX.1-2017 XCU, STDIN
-- and STDOUT of the pages of the utilities).
use Rattle.std.specs.Prelude.{◌≡◌, ℕ, List, [], ◌∷◌, ◌++◌, Some}
use Rattle.commands.specs.Filters.{filter_whole}
use Rattle.commands.specs.declared.spec.FilterSpec.{FilterSpec}
use Rattle.part_laws.specs.Additions.{addition}
use Rattle.part_laws.specs.Parts.{IsWholeLines, lines_after}
use Rattle.part_laws.specs.declared.manner.Addition.{Addition}
use Rattle.part_laws.specs.declared.manner.Addition.TheVariants.{Squeeze}
use Rattle.part_laws.specs.declared.manner.Manner.{Manner}
use Rattle.part_laws.specs.declared.manner.Manner.TheVariants.{ByBytes, ByLines, Counts, Gathers}
use Rattle.part_laws.specs.declared.manner.Manner.TheVariants.{Skips, Squeezes, Whole}

-- what a filter writes of this standard input
abbrev pub made_of : FilterSpec → List ℕ → List ℕ
made_of f x = (filter_whole f (Some x ∷ [])).out

-- It goes byte by byte: wherever an input is cut, its outputs for both parts are its output.
abbrev pub GoesByBytes : FilterSpec → Type 0
GoesByBytes f = (x y : List ℕ) → made_of f (x ++ y) ≡ made_of f x ++ made_of f y

-- It goes line by line: the same if the input is cut at the end of a line.
abbrev pub GoesByLines : FilterSpec → Type 0
GoesByLines f = (x y : List ℕ) → IsWholeLines x → made_of f (x ++ y) ≡ made_of f x ++ made_of f y

-- It keeps whole lines: of whole lines it makes whole lines.
abbrev pub KeepsLines : FilterSpec → Type 0
KeepsLines f = (x : List ℕ) → IsWholeLines x → IsWholeLines (made_of f x)

-- A filter, or a pipeline of filters, that makes this of an input gathers: if the input is cut at
-- the end of a line, its output is that for its outputs for both parts, joined. So is its output for
-- an output of its own. It makes nothing of nothing, and whole lines of whole lines.
pub record GathersParts (made : List ℕ → List ℕ) : Type 0 where
  pub nothing : made [] ≡ []
  pub gathers : (x y : List ℕ) → IsWholeLines x → made (x ++ y) ≡ made (made x ++ made y)
  pub again : (x : List ℕ) → IsWholeLines x → made (made x) ≡ made x
  pub keeps : (x : List ℕ) → IsWholeLines x → IsWholeLines (made x)

-- It makes a line of each line: it goes line by line, and makes the same whether the first lines are
-- left out before it or after it. It makes whole lines of whole lines.
pub record MakesLineOfLine (f : FilterSpec) : Type 0 where
  pub by_lines : GoesByLines f
  pub after : (n : ℕ) (x : List ℕ) → made_of f (lines_after n x) ≡ lines_after n (made_of f x)
  pub keeps : KeepsLines f

-- It counts the same in an input as in what the addition makes of that input, and the addition makes
-- a line of each line.
pub record CountsTheSame (a : Addition) (f : FilterSpec) : Type 0 where
  pub same : (x : List ℕ) → made_of f x ≡ made_of f (made_of (addition a) x)
  pub lines : MakesLineOfLine (addition a)

-- It squeezes: if the input is cut at the end of a line, its output is that for both parts, joined,
-- with runs of this byte squeezed. It makes nothing of nothing.
pub record SqueezesParts (byte : ℕ) (f : FilterSpec) : Type 0 where
  pub nothing : made_of f [] ≡ []
  pub squeezes : (x y : List ℕ) → IsWholeLines x
      → made_of f (x ++ y) ≡ made_of (addition (Squeeze byte)) (made_of f x ++ made_of f y)

-- It skips first lines: it leaves out this many.
abbrev pub SkipsLines : FilterSpec → Type 0
SkipsLines f = (n : ℕ) × ((x : List ℕ) → made_of f x ≡ lines_after n x)

-- a filter goes in this manner; of one that needs its whole input nothing is said
abbrev pub GoesIn : Manner → FilterSpec → Type 0
GoesIn ByBytes f = GoesByBytes f
GoesIn ByLines f = GoesByLines f
GoesIn Gathers f = GathersParts (made_of f)
GoesIn (Counts a) f = CountsTheSame a f
GoesIn (Squeezes byte) f = SqueezesParts byte f
GoesIn Skips f = SkipsLines f
GoesIn (Whole cause) f = Unit {0}

-- a filter of this manner goes byte by byte or line by line
abbrev pub GoesOn : Manner → Type 0
GoesOn ByBytes = Unit {0}
GoesOn ByLines = Unit {0}
GoesOn _ = ⊥
