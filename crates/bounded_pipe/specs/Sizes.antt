-- How many bytes items have. A pipe can hold a limited number of bytes (pipe(7)). Close, the mark
-- that its writer has closed it, has none.
use Rattle.std.specs.Prelude.{ℕ, List, length, Option, Some, None}
use Rattle.machine.specs.Items.{bytes_of}
use Rattle.machine.specs.declared.piece.Item.{Item}
use Rattle.machine.specs.declared.piece.Item.TheVariants.{Bytes, Close}

-- the number of bytes of one item
abbrev pub item_size : Item → ℕ
item_size (Bytes piece) = length piece
item_size Close = 0

-- the number of bytes that were taken, if an item was
abbrev pub taken_size : Option Item → ℕ
taken_size None = 0
taken_size (Some item) = item_size item

-- the number of bytes of these items together
abbrev pub size_of : List Item → ℕ
size_of items = length (bytes_of items)
