-- The part of an input that is all that its reader needs, and an input that lost what nobody needs.
--
-- A line goes up to and including a newline, so bytes that end with one end a line (POSIX.1-2017
-- XBD 3.206). A reader of the last lines or bytes alone needs nothing that comes before them (XCU
-- tail, OPTIONS -n and -c). A reader of the first lines leaves what follows them in the file for
-- others (XCU 1.4, INPUT FILES; XCU head, OPTIONS -n).
use Rattle.std.specs.Prelude.{◌≡◌, ◌≢◌, ℕ, ◌≤◌, ◌⊎◌, List, [], ◌∷◌, ◌++◌, length, Option, Some}
use Rattle.std.specs.Prelude.{None}
use Rattle.machine.specs.FrontLines.{first_lines}
use Rattle.machine.specs.Lines.{lines, newline}
use Rattle.collector.specs.Files.{FilesShown, SameLogs, OtherLogs, SameContents}
use Rattle.collector.specs.declared.needed.NeededEnd.{NeededEnd}
use Rattle.collector.specs.declared.needed.NeededEnd.TheVariants.{Lines, Bytes}
use Rattle.collector.specs.declared.needed.LeftOut.{LeftOut}
use Rattle.collector.specs.declared.needed.LeftOut.TheVariants.{Nothing, Once, Often}

-- the last of these bytes ends a line
abbrev pub EndsLine : List ℕ → Type 0
EndsLine front = (before : List ℕ) × (front ≡ before ++ newline ∷ [])

-- With this front before it, the rest of an input has what is needed: it begins with a line and has
-- at least this many lines; or it has at least this many bytes.
abbrev pub HasNeeded : NeededEnd → List ℕ → List ℕ → Type 0
HasNeeded (Lines n) front rest = EndsLine front × (n ≤ length (lines rest))
HasNeeded (Bytes n) front rest = n ≤ length rest

-- What is left of an input: all of it, or an end that has what is needed.
abbrev pub IsLeftOf : NeededEnd → List ℕ → List ℕ → Type 0
IsLeftOf needed whole left =
    (front : List ℕ) × (whole ≡ front ++ left) × ((front ≡ []) ⊎ HasNeeded needed front left)

-- the same of what an input holds, if that is known
abbrev pub IsHeldLeft : NeededEnd → Option (List ℕ) → Option (List ℕ) → Type 0
IsHeldLeft needed None None = Unit {0}
IsHeldLeft needed (Some whole) (Some left) = IsLeftOf needed whole left
IsHeldLeft needed _ _ = ⊥

-- a front was left out once more, with this end that is needed
abbrev pub left_out_too : LeftOut → NeededEnd → LeftOut
left_out_too Nothing needed = Once needed
left_out_too _ needed = Often

-- A front of what this input holds may have been left out, and then that is noted, with just the
-- end that is needed. Nothing else changed.
pub record LeavesOut (file : ℕ) (needed : NeededEnd) (old new : FilesShown) : Type 0 where
  pub openings : new.openings ≡ old.openings
  pub inputs : SameLogs old.inputs new.inputs
  pub outputs : SameLogs old.outputs new.outputs
  pub contents : SameContents old new
  pub standard_input : new.standard_input ≡ old.standard_input
  pub others : OtherLogs file old.held new.held
  pub left : IsHeldLeft needed (old.held file) (new.held file)
  pub noted : (new.left_out file ≡ left_out_too (old.left_out file) needed)
      ⊎ ((new.left_out file ≡ old.left_out file) × (new.held file ≡ old.held file))
  pub left_out : (other : ℕ) → other ≢ file → new.left_out other ≡ old.left_out other
  pub failures : new.failures ≡ old.failures

-- the first lines of what an input holds, this many, if that is known
abbrev pub IsHeldFirst : ℕ → Option (List ℕ) → Option (List ℕ) → Type 0
IsHeldFirst n None None = Unit {0}
IsHeldFirst n (Some whole) (Some first) = first ≡ first_lines n whole
IsHeldFirst n _ _ = ⊥

-- This input has to give its first lines alone, this many. What follows them stays in its file, and
-- no read takes it. Nothing else changed.
pub record LeavesRest (file n : ℕ) (old new : FilesShown) : Type 0 where
  pub openings : new.openings ≡ old.openings
  pub inputs : SameLogs old.inputs new.inputs
  pub outputs : SameLogs old.outputs new.outputs
  pub contents : SameContents old new
  pub standard_input : new.standard_input ≡ old.standard_input
  pub others : OtherLogs file old.held new.held
  pub first : IsHeldFirst n (old.held file) (new.held file)
  pub left_out : (other : ℕ) → new.left_out other ≡ old.left_out other
  pub failures : new.failures ≡ old.failures
