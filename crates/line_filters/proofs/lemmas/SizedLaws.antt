-- Parts that have few bytes.
use Rattle.std.proofs.Common.{◌≡◌, ℕ, ◌≤◌, List, [], ◌∷◌, ◌++◌, length, refl, ap, arith, Some}
use Rattle.std.specs.Prelude.{max}
use Rattle.std.proofs.lemmas.List.Elements.{All-pop, All-push, All-tail}
use Rattle.line_filters.specs.declared.held.Held.{Held}
use Rattle.line_filters.specs.KeptParts.{AreSized}

-- a part is as short as the longest piece lets it be
abbrev IsSized : ℕ → Held → Type 0
IsSized longest h = length h.bytes.items ≤ max 4096 longest

-- the last part is another one
pub sized_last : (longest : ℕ) (hs : List Held) (h h' : Held) → AreSized longest (hs ++ h ∷ [])
    → length h'.bytes.items ≤ max 4096 longest → AreSized longest (hs ++ h' ∷ [])
sized_last longest hs h h' each few =
    All-push (IsSized longest) hs h'
    ((All-pop (IsSized longest) (hs ++ h ∷ []) hs (Some h) refl each).0) few

-- or has other memory
pub sized_same : (longest : ℕ) (hs : List Held) (h h' : Held) → AreSized longest (hs ++ h ∷ [])
    → h'.bytes.items ≡ h.bytes.items → AreSized longest (hs ++ h' ∷ [])
sized_same longest hs h h' each e =
    let was : length h.bytes.items ≤ max 4096 longest =
    (All-pop (IsSized longest) (hs ++ h ∷ []) hs (Some h) refl each).1 in
    sized_last longest hs h h' each (omega (arith, was, ap length e))

-- one part more
pub sized_push : (longest : ℕ) (hs : List Held) (h : Held) → AreSized longest hs
    → length h.bytes.items ≤ max 4096 longest → AreSized longest (hs ++ h ∷ [])
sized_push longest hs h each few = All-push (IsSized longest) hs h each few

-- the first ones are not needed
pub sized_less : (longest : ℕ) (h : Held) (hs : List Held) → AreSized longest (h ∷ hs)
    → AreSized longest hs
sized_less longest h hs each = All-tail (IsSized longest) h hs each
