-- Sizes of lists of items.
use Rattle.std.proofs.Common.{◌≡◌, ◌+◌, List, [], ◌∷◌, ◌++◌, length, refl, sym, ◌∙◌, ap}
use Rattle.std.proofs.Common.{append_assoc, length-append}
use Rattle.std.proofs.lemmas.List.{append-nil}
use Rattle.machine.specs.Items.{bytes_of}
use Rattle.machine.specs.declared.piece.Item.{Item}
use Rattle.machine.specs.declared.piece.Item.TheVariants.{Bytes, Close}
use Rattle.bounded_pipe.specs.Sizes.{item_size, size_of}

pub bytes_of_append : (a b : List Item) → bytes_of (a ++ b) ≡ bytes_of a ++ bytes_of b
bytes_of_append [] b = refl
bytes_of_append (Bytes piece ∷ a) b = ap (λ l. piece ++ l) (bytes_of_append a b)
    ∙ sym (append_assoc piece (bytes_of a) (bytes_of b))
bytes_of_append (Close ∷ a) b = bytes_of_append a b

pub size_of_append : (a b : List Item) → size_of (a ++ b) ≡ size_of a + size_of b
size_of_append a b = ap (λ l. length l) (bytes_of_append a b)
    ∙ length-append (bytes_of a) (bytes_of b)

size_of_one : (item : Item) → size_of (item ∷ []) ≡ item_size item
size_of_one (Bytes piece) = ap (λ l. length l) (append-nil piece)
size_of_one Close = refl

pub size_of_push : (items : List Item) (item : Item)
    → size_of (items ++ item ∷ []) ≡ size_of items + item_size item
size_of_push items item = size_of_append items (item ∷ [])
    ∙ ap (λ n. size_of items + n) (size_of_one item)
