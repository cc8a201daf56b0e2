-- Walks from place to place by a table, and the circles that they reach.
--
-- A command that writes a full pipe waits for the one that reads it, and one that reads an empty
-- pipe for the one that writes it (POSIX.1-2017 XSH write, read): each place is one that waits, and
-- the table has, for each, the one that it waits for.
use Rattle.std.specs.Prelude.{◌≡◌, ℕ, zero, suc, ◌+◌, ◌-◌, ◌<◌, ◌≤◌, List, length, Option, Some}
use Rattle.std.specs.Prelude.{None, slice_index_or}
use Rattle.std.specs.Global.{Vec}

-- the place that the table has after this one, if there is one
abbrev pub next_of : List (Option ℕ) → ℕ → Option ℕ
next_of next place = slice_index_or next place None

-- the place one step further, if there is one
abbrev pub stepped : List (Option ℕ) → Option ℕ → Option ℕ
stepped next None = None
stepped next (Some place) = next_of next place

-- the place this many steps from a place, if there is one
abbrev pub walk : List (Option ℕ) → ℕ → ℕ → Option ℕ
walk next from zero = Some from
walk next from (suc n) = stepped next (walk next from n)

-- the walk from a place ends: this many steps lead nowhere
abbrev pub ComesToEnd : List (Option ℕ) → ℕ → Type 0
ComesToEnd next from = (n : ℕ) × (walk next from n ≡ None)

-- the walk from a place comes back to it, in no more steps than the table has places
abbrev pub ComesRound : List (Option ℕ) → ℕ → Type 0
ComesRound next place = (n : ℕ) × (0 < n) × (n ≤ length next) × (walk next place n ≡ Some place)

-- A circle: for each of these places the table has the next of them, for the last the first, and
-- none is there twice.
pub record IsCircle (next : List (Option ℕ)) (places : List ℕ) : Type 0 where
  pub some : 0 < length places
  pub each : (i : ℕ) → i + 1 < length places
      → next_of next (slice_index_or places i 0) ≡ Some (slice_index_or places (i + 1) 0)
  pub closed : next_of next (slice_index_or places (length places - 1) 0)
      ≡ Some (slice_index_or places 0 0)
  pub once : (i j : ℕ) → i < j → j < length places
      → slice_index_or places i 0 ≡ slice_index_or places j 0 → ⊥

-- The circle that the walk from a place reaches, from its own lowest place on.
pub record IsCircleMet (next : List (Option ℕ)) (from : ℕ) (places : List ℕ) : Type 0 where
  pub circle : IsCircle next places
  pub lowest : (i : ℕ) → i < length places → slice_index_or places 0 0 ≤ slice_index_or places i 0
  pub met : (n : ℕ) × (walk next from n ≡ Some (slice_index_or places 0 0))

-- what the walk from a place reaches: the circle of these places, or its end if there is none
abbrev pub MeetsCircle : List (Option ℕ) → ℕ → Option (Vec ℕ) → Type 0
MeetsCircle next from None = ComesToEnd next from
MeetsCircle next from (Some places) = IsCircleMet next from places.items
