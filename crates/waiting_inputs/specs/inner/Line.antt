-- The line from the thread of an input to the table of inputs: the results of its reads, in order.
use Rattle.std.specs.Prelude.{◌≡◌, ℕ, List, [], ◌∷◌, length, drop, Option, None}
use Rattle.std.specs.Option.{option_map}
use Rattle.std.specs.Io.KnownBytes.{prepend_known, IsAtEnd}
use Rattle.crossbeam_channel.specs.Claims.{Pass, view}
use Rattle.waiting_inputs.specs.declared.reading.Reading.{Reading}
use Rattle.waiting_inputs.specs.declared.reading.Reading.TheVariants as reading
use Rattle.waiting_inputs.specs.declared.line.Known.{Known}
use Rattle.waiting_inputs.specs.declared.line.Known.TheVariants as known

-- the bytes that will come, where they are known
abbrev pub Left : Type 0
Left = Option (List ℕ)

-- the bytes of a read
abbrev pub given : Reading → List ℕ
given (reading.Idle _) = []
given reading.Asked = []
given (reading.Gave bytes) = bytes
given (reading.Failed _) = []
given reading.Lost = []

-- the read gave no byte, so it came to the end
abbrev pub IsEnd : Reading → Type 0
IsEnd (reading.Idle _) = ⊥
IsEnd reading.Asked = ⊥
IsEnd (reading.Gave bytes) = bytes ≡ []
IsEnd (reading.Failed _) = ⊥
IsEnd reading.Lost = ⊥

-- the bytes that are left after the read
abbrev pub after : Reading → Left → Left
after r left = option_map (drop (length (given r))) left

-- The read gave the next of the bytes that were left, and none of them only at the end.
pub record IsNext (r : Reading) (left : Left) : Type 0 where
  pub bytes : left ≡ prepend_known (given r) (after r left)
  pub end : IsEnd r → IsAtEnd (after r left)

-- these reads, one after the other, lead from the bytes left before them to the bytes left after
-- them
abbrev pub Follows : List Reading → Left → Left → Type 0
Follows [] before now = before ≡ now
Follows (r ∷ rs) before now = IsNext r before × Follows rs (after r before) now

-- two passes: one knows the bytes left after all that was received, the other those left after all
-- that was sent
abbrev pub Leads : List Reading → Known → Known → Type 0
Leads items known.Fresh w = ⊥
Leads items (known.Sends sent) w = ⊥
Leads items (known.Takes got) known.Fresh = ⊥
Leads items (known.Takes got) (known.Takes _) = ⊥
Leads items (known.Takes got) (known.Sends sent) = Follows items got sent

-- a pass that is alone on an empty line
abbrev pub IsAlone : List Reading → Known → Type 0
IsAlone items known.Fresh = items ≡ []
IsAlone items (known.Takes _) = ⊥
IsAlone items (known.Sends _) = ⊥

-- The rule of a line: it is empty with one pass, or it has one pass that takes and one that sends.
abbrev pub Ruled : List Reading → List Known → Type 0
Ruled items [] = ⊥
Ruled items (v ∷ []) = IsAlone items v
Ruled items (v ∷ w ∷ []) = Leads items v w
Ruled items (v ∷ w ∷ u ∷ us) = ⊥

-- the bytes that a pass of this view knows to be left
abbrev pub known_left : Known → Left
known_left known.Fresh = None
known_left (known.Takes left) = left
known_left (known.Sends left) = left

-- the bytes that this pass knows to be left
abbrev pub pass_left : Pass Reading Known → Left
pass_left pass = known_left (view pass)

-- the pass takes what was sent
abbrev pub IsTaker : Pass Reading Known → Type 0
IsTaker pass = view pass ≡ known.Takes (pass_left pass)

-- the pass sends what was read
abbrev pub IsSender : Pass Reading Known → Type 0
IsSender pass = view pass ≡ known.Sends (pass_left pass)
