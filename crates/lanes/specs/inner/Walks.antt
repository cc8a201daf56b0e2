-- Walks over the places of a byte.
use Rattle.std.specs.Prelude.{◌≡◌, ℕ, ◌+◌, ◌-◌, ◌<◌, ◌≤◌, ◌==◌, List, ◌∷◌, ◌++◌, Bool, true, false}
use Rattle.std.specs.Prelude.{length, take, drop, count_by, slice_index, if◌then◌else◌}
use Rattle.std.specs.Int.{bit_at}

-- bytes, the byte whose places are walked, and the place from which on they are still to come
pub record Course : Type 0 where
  pub bytes : List ℕ
  pub byte : ℕ
  pub from : ℕ

-- bytes, and the byte whose places are sought in parts of them
pub record Sought : Type 0 where
  pub bytes : List ℕ
  pub byte : ℕ

-- whether the byte is at this place
abbrev pub is_at : List ℕ → ℕ → ℕ → Bool
is_at bytes byte k = slice_index bytes k == byte

-- the byte is at this place, which is less than 64 places after the walk's place
pub record IsOneOfSeveral (course : Course) (place : ℕ) : Type 0 where
  pub after : course.from ≤ place
  pub near : place < course.from + 64
  pub within : place < length course.bytes
  pub here : is_at course.bytes course.byte place ≡ true

-- how many places of the byte are still to come
abbrev pub places_from : Course → ℕ
places_from course = count_by (λ x. x == course.byte) (drop course.from course.bytes)

-- the byte is at this place, which is the `count`-th after the walk's place
pub record IsNth (course : Course) (count place : ℕ) : Type 0 where
  pub after : course.from ≤ place
  pub within : place < length course.bytes
  pub counted :
      count_by (λ x. x == course.byte) (take (place - course.from) (drop course.from course.bytes))
      + 1 ≡ count
  pub here :
      drop course.from course.bytes
      ≡ take (place - course.from) (drop course.from course.bytes)
      ++ course.byte ∷ drop (place + 1) course.bytes

-- the bits of `left` tell at which of the 64 places from `base` on the byte is
abbrev pub AreMarks : List ℕ → ℕ → ℕ → ℕ → Type 0
AreMarks bytes byte base left =
    (k : ℕ) → k < 64 → base + k < length bytes
    → bit_at left k ≡ (if is_at bytes byte (base + k) then 1 else 0)

-- No place of the byte is from `from` up to `base`, and the bits of `left` tell at which of the 64
-- places from `base` on, and from `from` on, it is. Bits for places after the end mean nothing.
pub record Shows (bytes : List ℕ) (byte from base left : ℕ) : Type 0 where
  pub low : from ≤ base + 64
  pub passed : (k : ℕ) → from ≤ k → k < base → k < length bytes → is_at bytes byte k ≡ false
  pub each : (k : ℕ) → k < 64 → from ≤ base + k → base + k < length bytes
      → bit_at left k ≡ 0 → is_at bytes byte (base + k) ≡ false
  pub only : (k : ℕ) → k < 64 → base + k < length bytes
      → bit_at left k ≡ 1 → (from ≤ base + k) × (is_at bytes byte (base + k) ≡ true)

-- how many of the first bytes are this one
abbrev pub places_in : List ℕ → ℕ → ℕ → ℕ
places_in bytes byte k = count_by (λ x. x == byte) (take k bytes)

-- `count` places from `from` on are passed, and the bits of `left` tell of those after them. Some
-- of those that are passed may be after the end.
pub record HasPassed (bytes : List ℕ) (byte from count base left : ℕ) : Type 0 where
  pub to : ℕ
  pub order : from ≤ to
  pub shows : Shows bytes byte to base left
  pub counted : to ≤ length bytes → places_in bytes byte from + count ≡ places_in bytes byte to
  pub most : places_in bytes byte to ≤ places_in bytes byte from + count
