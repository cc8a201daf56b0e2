-- Bytes that are kept, and how many newlines, or bytes, they have.
use Rattle.std.specs.Prelude.{◌≡◌, ◌≤◌, ℕ, List, [], ◌∷◌, ◌++◌, Bool, false, not, ◌==◌, drop, length}
use Rattle.std.specs.Prelude.{max, sum_by, count_by}
use Rattle.std.specs.List.{All}
use Rattle.machine.specs.Lines.{newline}
use Rattle.line_filters.specs.declared.held.Held.{Held}
use Rattle.commands.specs.declared.tail_words.Counted.{Counted}
use Rattle.commands.specs.declared.tail_words.Counted.TheVariants.{Lines, Bytes}

-- how many newlines, or bytes, there are
abbrev pub amount_of : Counted → List ℕ → ℕ
amount_of Lines x = count_by (λ y. y == newline) x
amount_of Bytes x = length x

-- whether the last line is incomplete
abbrev pub ends_open : List ℕ → Bool
ends_open [] = false
ends_open (x ∷ []) = not (x == newline)
ends_open (x ∷ y ∷ ys) = ends_open (y ∷ ys)

-- the bytes that are held, in order
abbrev pub held_bytes : List Held → List ℕ
held_bytes [] = []
held_bytes (h ∷ hs) = h.bytes.items ++ held_bytes hs

-- the same, if `last` is held after the others
abbrev pub kept_bytes : List Held → Held → List ℕ
kept_bytes full last = held_bytes (full ++ last ∷ [])

-- the bytes that are held after the first part
abbrev pub later_bytes : List Held → Held → List ℕ
later_bytes full last = held_bytes (drop 1 (full ++ last ∷ []))

-- the bytes have the amounts that are next to them, and these together; and whether their last line
-- is incomplete
pub record AreCounted (counted : Counted) (held : List Held) (amount : ℕ) (incomplete : Bool) :
    Type 0 where
  pub each : All (λ h. h.amount ≡ amount_of counted h.bytes.items) held
  pub total : amount ≡ sum_by (λ h. h.amount) held
  pub ending : incomplete ≡ ends_open (held_bytes held)

-- each part has at most 4096 bytes, or as many as the longest piece has
abbrev pub AreSized : ℕ → List Held → Type 0
AreSized longest held = All (λ h. length h.bytes.items ≤ max 4096 longest) held
