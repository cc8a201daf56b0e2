-- Files that can be read at any place, and the end of one that is left.
use Rattle.std.specs.Prelude.{◌≡◌, ℕ, ◌≤◌, ◌⊎◌, List, drop, Option, Some, None}
use Rattle.collector.specs.InputEnds.{IsLeftOf}
use Rattle.collector.specs.declared.needed.NeededEnd.{NeededEnd}

-- all the bytes of a file, and the place from which on it is read next
pub record Placed : Type 0 where
  pub bytes : List ℕ
  pub at : ℕ

-- what is still to be read of a file
abbrev pub still_in : Option Placed → Option (List ℕ)
still_in None = None
still_in (Some p) = Some (drop p.at p.bytes)

-- a file that is read next from this place on
abbrev pub with_place : ℕ → Option Placed → Option Placed
with_place place None = None
with_place place (Some p) = Some (record p { at = place })

-- a file goes to this place, or stays where it is
abbrev pub GoesTo : ℕ → Option Placed → Option Placed → Type 0
GoesTo place old new = (new ≡ old) ⊎ (new ≡ with_place place old)

-- from this place on, and not before the next read, a file has an end that is needed
pub record HasEndAt (needed : NeededEnd) (file : Placed) (place : ℕ) : Type 0 where
  pub after : file.at ≤ place
  pub left : IsLeftOf needed (drop file.at file.bytes) (drop place file.bytes)
