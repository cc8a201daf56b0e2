-- Pipelines of filters, and how they run over the parts of an input.
--
-- The standard output of each command of a pipeline is the standard input of the next (POSIX.1-2017
-- XCU 2.9.2).
use Rattle.std.specs.Prelude.{◌≡◌, ℕ, ◌⊎◌, Bool, true, false, ◌&&◌, List, [], ◌∷◌, map}
use Rattle.std.specs.Prelude.{Option, Some, None, if◌then◌else◌}
use Rattle.std.specs.List.{concat}
use Rattle.commands.specs.Filters.{is_nothing}
use Rattle.commands.specs.declared.spec.FilterSpec.{FilterSpec}
use Rattle.part_laws.specs.Additions.{addition}
use Rattle.part_laws.specs.Manners.{GoesOn, made_of}
use Rattle.part_laws.specs.Parts.{AreCutAtLines}
use Rattle.part_laws.specs.Utilities.{gather_together, keeps_newlines, makes_line_of_line, manner_of}
use Rattle.part_laws.specs.declared.manner.Addition.TheVariants.{Squeeze}
use Rattle.part_laws.specs.declared.manner.Manner.{Manner}
use Rattle.part_laws.specs.declared.manner.Manner.TheVariants.{ByBytes, ByLines, Counts, Gathers}
use Rattle.part_laws.specs.declared.manner.Manner.TheVariants.{Skips, Squeezes, Whole}
use Rattle.part_laws.specs.declared.manner.WholeCause.{WholeCause}
use Rattle.part_laws.specs.declared.manner.WholeCause.TheVariants as cause

-- what the filters of a pipeline write of this standard input, each of what the one before it wrote
abbrev pub made_by : List FilterSpec → List ℕ → List ℕ
made_by [] x = x
made_by (f ∷ fs) x = made_by fs (made_of f x)

-- the filters that run on each part, and those that run on the joined outputs for the parts
pub record Halves : Type 0 where
  pub each : List FilterSpec
  pub joined : List FilterSpec

-- none of these runs on each part
abbrev pub undivided : List FilterSpec → Halves
undivided fs = record { each = []; joined = fs }

-- one filter more runs on each part, before these
abbrev pub after_one : FilterSpec → Halves → Halves
after_one f h = record { each = f ∷ h.each; joined = h.joined }

-- A filter of this manner that counts, before others: what it counts is picked out on each part.
abbrev pub counted : Manner → FilterSpec → List FilterSpec → Halves
counted (Counts a) f fs = record { each = addition a ∷ []; joined = f ∷ fs }
counted _ f fs = undivided (f ∷ fs)

-- Filters after one that skips first lines: those that make a line of each line run on each part,
-- first lines and all, up to the first other one.
abbrev pub halves_of_lines : List FilterSpec → Halves
halves_of_lines [] = undivided []
halves_of_lines (f ∷ fs) = if makes_line_of_line f then after_one f (halves_of_lines fs)
    else counted (manner_of f) f fs

-- the filter after one that gathers, if both gather together
abbrev pub gathered_with : FilterSpec → List FilterSpec → List FilterSpec
gathered_with f [] = []
gathered_with f (g ∷ gs) = if gather_together f g then g ∷ [] else []

-- The same by the manner of the first filter, if `rest` is how the filters after it are divided and
-- the parts end at ends of lines. One that gathers runs once more on the joined outputs. One that
-- skips first lines runs on the joined outputs alone.
abbrev pub halves_from : Manner → FilterSpec → List FilterSpec → (rest : Halves) → Halves
halves_from ByBytes f fs rest = after_one f rest
halves_from ByLines f fs rest = after_one f rest
halves_from Gathers f fs rest = record { each = f ∷ gathered_with f fs; joined = f ∷ fs }
halves_from (Squeezes byte) f fs rest =
    record { each = f ∷ []; joined = addition (Squeeze byte) ∷ fs }
halves_from Skips f fs rest =
    record { each = (halves_of_lines fs).each; joined = f ∷ (halves_of_lines fs).joined }
halves_from manner f fs rest = counted manner f fs

-- The same if the parts do not end at ends of lines: only a filter that goes byte by byte runs on
-- each part.
abbrev pub halves_of_bytes : Manner → FilterSpec → List FilterSpec → (rest : Halves) → Halves
halves_of_bytes ByBytes f fs rest = after_one f rest
halves_of_bytes _ f fs rest = undivided (f ∷ fs)

-- How the filters of a pipeline are divided. `at_lines` is whether the parts of their input end at
-- ends of lines.
abbrev pub halves : (at_lines : Bool) → List FilterSpec → Halves
halves at_lines [] = undivided []
halves at_lines (f ∷ fs) =
    let rest = halves (at_lines && keeps_newlines f) fs in
    if at_lines then halves_from (manner_of f) f fs rest else halves_of_bytes (manner_of f) f fs rest

-- why nothing of a pipeline runs on each part, if that is so, by the manner of its first filter
abbrev pub cause_from : Manner → List FilterSpec → Option WholeCause
cause_from (Whole why) fs = Some why
cause_from Skips fs = if is_nothing (halves_of_lines fs).each then Some cause.FromStart else None
cause_from _ fs = None

abbrev pub needs_whole : List FilterSpec → Option WholeCause
needs_whole [] = None
needs_whole (f ∷ fs) = cause_from (manner_of f) fs

-- The output of filters for an input that is cut at ends of lines is that of the joined ones for the
-- outputs of the others for its parts, one after another.
abbrev pub DividesSo : (fs each joined : List FilterSpec) → Type 0
DividesSo fs each joined = (parts : List (List ℕ)) → AreCutAtLines parts
    → made_by fs (concat parts) ≡ made_by joined (concat (map (made_by each) parts))

-- whether one of these loses newlines
abbrev pub some_lose_newlines : List FilterSpec → Bool
some_lose_newlines [] = false
some_lose_newlines (f ∷ fs) = if keeps_newlines f then some_lose_newlines fs else true

-- As many filters as may run on each part do: the first of the joined ones goes neither byte by byte
-- nor line by line, or it follows one that loses newlines.
abbrev pub IsLongest : (each joined : List FilterSpec) → Type 0
IsLongest each [] = Unit {0}
IsLongest each (f ∷ fs) = (GoesOn (manner_of f) → ⊥) ⊎ (some_lose_newlines each ≡ true)
