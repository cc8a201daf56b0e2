-- The laws by which a pipeline of filters runs over the parts of an input.
use Rattle.std.specs.Prelude.{◌≡◌, ℕ, List, true}
use Rattle.commands.specs.declared.spec.FilterSpec.{FilterSpec}
use Rattle.part_laws.specs.Divisions.{DividesSo, halves, IsLongest}
use Rattle.part_laws.specs.Manners.{GathersParts, GoesIn, GoesOn, KeepsLines, made_of}
use Rattle.part_laws.specs.Manners.{MakesLineOfLine}
use Rattle.part_laws.specs.Utilities.{gather_together, keeps_newlines, makes_line_of_line, manner_of}

-- each filter goes in the manner of its utility (POSIX.1-2017 XCU, the pages of the utilities)
abbrev pub EachGoesInItsManner : Type 0
EachGoesInItsManner = (f : FilterSpec) → GoesIn (manner_of f) f

-- a filter that goes byte by byte or line by line, and keeps newlines, makes whole lines of whole
-- lines
abbrev pub NewlinesKeepLines : Type 0
NewlinesKeepLines = (f : FilterSpec) → GoesOn (manner_of f) → keeps_newlines f ≡ true → KeepsLines f

-- filters that are said to make a line of each line do so
abbrev pub LinesAreMadeOfLines : Type 0
LinesAreMadeOfLines = (f : FilterSpec) → makes_line_of_line f ≡ true → MakesLineOfLine f

-- two filters that are said to gather together do so
abbrev pub RunsAreGatheredBeforeHeads : Type 0
RunsAreGatheredBeforeHeads = (f g : FilterSpec) → gather_together f g ≡ true
    → GathersParts (λ (x : List ℕ). made_of g (made_of f x))

-- every pipeline of filters divides into its halves, and the first half is the longest
pub record FiltersDivide : Type 0 where
  pub same : (fs : List FilterSpec) → DividesSo fs (halves true fs).each (halves true fs).joined
  pub longest : (fs : List FilterSpec) → IsLongest (halves true fs).each (halves true fs).joined
