-- Inputs that are read in turn, each from where its last read ended (POSIX.1-2017 XSH read).
use Rattle.std.specs.Prelude.{◌≡◌, ◌≢◌, ℕ, ◌<◌, List, [], ◌∷◌, ◌++◌, length, take, Option, Some}
use Rattle.std.specs.Prelude.{None, slice_get, unwrap_or}
use Rattle.std.specs.Io.KnownBytes.{Keeps, Consumes, IsAtEnd}

-- what each input has left: the bytes that its reads will return from here on, where they are known
abbrev pub Lefts : Type 0
Lefts = List (Option (List ℕ))

-- what the input with this number has left; nothing is known of one that was not added
abbrev pub left_at : Lefts → ℕ → Option (List ℕ)
left_at lefts input = unwrap_or (slice_get lefts input) None

-- One read: it returned the next bytes, none of them only at the end or with no room; or it failed,
-- and what is left stays.
abbrev pub ReadsNext : Option ℕ → List ℕ → Option (List ℕ) → Option (List ℕ) → Type 0
ReadsNext None into old new = Keeps old new
ReadsNext (Some n) into old new = Consumes old new (take n into)
    × (n ≡ 0 → 0 < length into → IsAtEnd new)

-- An input with these bytes was added after the others, with the next number.
pub record AddsInput (input : ℕ) (bytes : Option (List ℕ)) (old new : Lefts) : Type 0 where
  pub number : input ≡ length old
  pub last : new ≡ old ++ bytes ∷ []

-- These bytes were taken from the input with this number, and none from another.
pub record TakesInput (input : ℕ) (bytes : List ℕ) (old new : Lefts) : Type 0 where
  pub next : Consumes (left_at old input) (left_at new input) bytes
  pub others : (other : ℕ) → other ≢ input → left_at new other ≡ left_at old other
  pub count : length new ≡ length old

-- The input with this number was read once, and no other.
pub record ReadsInput (input : ℕ) (result : Option ℕ) (into : List ℕ) (old new : Lefts) :
    Type 0 where
  pub next : ReadsNext result into (left_at old input) (left_at new input)
  pub others : (other : ℕ) → other ≢ input → left_at new other ≡ left_at old other
  pub count : length new ≡ length old
