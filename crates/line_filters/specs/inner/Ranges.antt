-- Ranges of selected numbers.
use Rattle.std.specs.Prelude.{◌≡◌, ℕ, ◌<◌, ◌≤◌, List, Bool, true, false, Option, Some, None, nat_le}
use Rattle.std.specs.Prelude.{take}
use Rattle.std.specs.List.Sorted.{IsNonDecreasingBy}
use Rattle.commands.specs.declared.range.Range.{Range}
use Rattle.commands.specs.Selections.{is_in, is_selected}

-- no number from n up to this one, which is not among them, is selected
abbrev pub IsNoneBetween : (ℕ → Bool) → ℕ → ℕ → Type 0
IsNoneBetween selects n end = (k : ℕ) → n ≤ k → k < end → selects k ≡ false

-- no number from n on is selected
abbrev pub IsNoneFrom : (ℕ → Bool) → ℕ → Type 0
IsNoneFrom selects n = (k : ℕ) → n ≤ k → selects k ≡ false

-- The next selected numbers from n on are those of this range.
pub record IsNextRange (selects : ℕ → Bool) (n : ℕ) (range : Range) : Type 0 where
  pub after : n ≤ range.first
  pub some : is_in range range.first ≡ true
  pub none_before : IsNoneBetween selects n range.first
  pub all : (k : ℕ) → is_in range k ≡ true → selects k ≡ true

-- this many leading ranges end before n
abbrev pub IsPassed : List Range → ℕ → ℕ → Type 0
IsPassed ranges passed n = IsNoneFrom (is_selected (take passed ranges)) n

-- whether numbers with this last one, or without one, go at least as far as those with the other
abbrev pub reaches : Option ℕ → Option ℕ → Bool
reaches None last = true
reaches (Some top) None = false
reaches (Some top) (Some last) = nat_le last top

-- whether a range goes no further than this one, if there is one
abbrev pub is_covered : Option Range → Range → Bool
is_covered None range = false
is_covered (Some top) range = reaches top.last range.last

-- ranges in the order of their first numbers that select what these do
pub record IsAllOf (ranges kept : List Range) : Type 0 where
  pub rising : IsNonDecreasingBy (λ (r : Range). r.first) kept
  pub same : (n : ℕ) → is_selected kept n ≡ is_selected ranges n
