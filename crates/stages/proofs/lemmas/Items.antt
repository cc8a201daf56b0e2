-- One item more.
use Rattle.std.proofs.Common.{◌≡◌, ℕ, false, List, [], ◌∷◌, ◌++◌, refl, sym, ap, ◌∙◌, append_assoc}
use Rattle.std.proofs.lemmas.Bool.{false≢true}
use Rattle.std.proofs.lemmas.List.{append-nil}
use Rattle.std.specs.Prelude.{Some}
use Rattle.machine.specs.Pieces.{IsPieceLong}
use Rattle.machine.specs.Items.{bytes_of, has_close, IsTidy}
use Rattle.machine.specs.declared.piece.Item.{Item}
use Rattle.machine.specs.declared.piece.Item.TheVariants.{Bytes, Close}
use Rattle.stages.specs.Stages.{front_bytes, is_close}

pub bytes-append : (a b : List Item) → bytes_of (a ++ b) ≡ bytes_of a ++ bytes_of b
bytes-append [] b = refl
bytes-append (Bytes piece ∷ a) b = ap (λ x. piece ++ x) (bytes-append a b)
    ∙ sym (append_assoc piece (bytes_of a) (bytes_of b))
bytes-append (Close ∷ a) b = bytes-append a b

item_bytes : (item : Item) → bytes_of (item ∷ []) ≡ front_bytes (Some item)
item_bytes (Bytes piece) = append-nil piece
item_bytes Close = refl

pub bytes_push : (a : List Item) (item : Item)
    → bytes_of (a ++ item ∷ []) ≡ bytes_of a ++ front_bytes (Some item)
bytes_push a item = bytes-append a (item ∷ []) ∙ ap (λ x. bytes_of a ++ x) (item_bytes item)

pub close_push : (a : List Item) (item : Item) → has_close a ≡ false
    → has_close (a ++ item ∷ []) ≡ is_close (Some item)
close_push [] (Bytes piece) e = refl
close_push [] Close e = refl
close_push (Bytes piece ∷ a) item e = close_push a item e
close_push (Close ∷ a) item e = absurd (false≢true (sym e))

-- a piece of an item is no longer than the block
abbrev pub IsItemLong : ℕ → Item → Type 0
IsItemLong block (Bytes piece) = IsPieceLong block piece
IsItemLong block Close = Unit {0}

pub tidy_push : (block : ℕ) (a : List Item) (item : Item) → has_close a ≡ false
    → IsItemLong block item → IsTidy block a → IsTidy block (a ++ item ∷ [])
tidy_push block [] (Bytes piece) e long t = (long, tt)
tidy_push block [] Close e long t = refl
tidy_push block (Bytes piece ∷ a) item e long t = (t.0, tidy_push block a item e long t.1)
tidy_push block (Close ∷ a) item e long t = absurd (false≢true (sym e))
