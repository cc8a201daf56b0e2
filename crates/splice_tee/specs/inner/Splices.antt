-- What a splice does: one take of one pipe and one put of the same item on another (splice(2)).
use Rattle.std.specs.Prelude.{◌≡◌}
use Rattle.machine.specs.declared.piece.Item.{Item}
use Rattle.bounded_pipe.specs.Sizes.{item_size}
use Rattle.bounded_pipe.specs.Ends.{Writing, Reading, SeeEachOther, IsEmpty, LacksRoom}
use Rattle.bounded_pipe.specs.Events.{Puts, Takes, SameWriting, SameReading}
use Rattle.splice_tee.specs.declared.moving.Moved.{Moved}
use Rattle.splice_tee.specs.declared.moving.Moved.TheVariants.{Handed, Empty, Held}

-- Handed: an item was taken, and the same was put. Empty: nothing was taken or put. Held: this item
-- was taken, and nothing was put.
abbrev pub Splices : Reading → Reading → Writing → Writing → Moved → Type 0
Splices from from' to to' Handed = (item : Item) × Takes item from from' × Puts item to to'
Splices from from' to to' Empty = SameReading from from' × (to' ≡ to)
Splices from from' to to' (Held item) = Takes item from from' × SameWriting to to'

-- If each end of a pipe has seen all that the other did, Empty comes only of an empty pipe, and
-- Held only of one that is full for this item.
abbrev pub IsExact : Reading → Writing → Moved → Type 0
IsExact from to Handed = Unit {0}
IsExact from to Empty = (writer : Writing) → SeeEachOther writer from → IsEmpty writer from
IsExact from to (Held item) = (reader : Reading) → SeeEachOther to reader
    → LacksRoom (item_size item) to reader
