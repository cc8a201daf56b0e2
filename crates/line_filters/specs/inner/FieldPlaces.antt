-- Places of fields in the content of a line.
use Rattle.std.specs.Prelude.{◌≡◌, ◌≢◌, ℕ, ◌+◌, ◌-◌, ◌<◌, ◌≤◌, List, ◌∷◌, ◌++◌, true, false, length}
use Rattle.std.specs.Prelude.{take, drop}
use Rattle.std.specs.List.{join_with_byte}
use Rattle.lanes.specs.inner.Walks.{Course}
use Rattle.commands.specs.Cut.{fields}
use Rattle.commands.specs.Selections.{is_in, is_up_to}
use Rattle.commands.specs.declared.range.Range.{Range}

-- the delimiter is right before this place
pub record IsLed (delimiter : ℕ) (content : List ℕ) (at : ℕ) : Type 0 where
  pub some : 1 ≤ at
  pub before : drop (at - 1) content ≡ delimiter ∷ drop at content

-- `count` fields go from `at` up to the delimiter at `end`
pub record FieldsUpTo (delimiter count : ℕ) (content : List ℕ) (at end : ℕ) : Type 0 where
  pub front : List (List ℕ)
  pub many : at + count ≤ end + 1
  pub within : end < length content
  pub counted : length front ≡ count
  pub splits : fields delimiter (drop at content)
      ≡ front ++ fields delimiter (drop (end + 1) content)
  pub joined : join_with_byte delimiter front ≡ take (end - at) (drop at content)
  pub led : IsLed delimiter content (end + 1)

-- `count` fields go from `at` up to the field that begins at `start`
pub record FieldsBefore (delimiter count : ℕ) (content : List ℕ) (at start : ℕ) : Type 0 where
  pub front : List (List ℕ)
  pub many : at + count ≤ start
  pub within : start ≤ length content
  pub counted : length front ≡ count
  pub splits : fields delimiter (drop at content) ≡ front ++ fields delimiter (drop start content)
  pub led : count ≢ 0 → IsLed delimiter content start
  pub here : count ≡ 0 → start ≡ at

-- the fields of a range, whose first one begins at `start`, go up to the delimiter at `end`; the
-- next one's number is `next`
pub record FieldsOf (range : Range) (delimiter : ℕ) (content : List ℕ) (start end next : ℕ) : Type
    0 where
  pub some : range.first < next
  pub inside : (k : ℕ) → range.first ≤ k → k < next → is_in range k ≡ true
  pub ends : is_up_to range.last next ≡ false
  pub few : next ≤ end + 2
  pub places : FieldsUpTo delimiter (next - range.first) content start end

-- the fields from `start` on are all in a range, whose first one begins there
abbrev pub AllFieldsOf : Range → ℕ → List ℕ → ℕ → Type 0
AllFieldsOf range delimiter content start =
    (k : ℕ) → range.first ≤ k → k < range.first + length (fields delimiter (drop start content))
    → is_in range k ≡ true

-- the walk has gone to this place
pub record IsWalkedTo (place : ℕ) (old new : Course) : Type 0 where
  pub bytes : new.bytes ≡ old.bytes
  pub byte : new.byte ≡ old.byte
  pub from : new.from ≡ place
