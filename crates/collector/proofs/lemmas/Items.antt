-- Lists of items with one item more.
use Rattle.std.proofs.Common.{◌≡◌, ℕ, true, false, List, [], ◌∷◌, ◌++◌, refl, sym, ap, ◌∙◌}
use Rattle.std.proofs.Common.{append_assoc, append-nil}
use Rattle.std.proofs.lemmas.Bool.{false≢true}
use Rattle.machine.specs.Pieces.{IsPieceLong}
use Rattle.machine.specs.Items.{bytes_of, has_close, IsTidy}
use Rattle.machine.specs.declared.piece.Item.{Item}
use Rattle.machine.specs.declared.piece.Item.TheVariants.{Bytes, Close}

-- the bytes, with a piece more
pub bytes_of-piece : (items : List Item) (piece : List ℕ)
    → bytes_of (items ++ Bytes piece ∷ []) ≡ bytes_of items ++ piece
bytes_of-piece [] piece = append-nil piece
bytes_of-piece (Bytes p ∷ items) piece = ap (λ l. p ++ l) (bytes_of-piece items piece)
    ∙ sym (append_assoc p (bytes_of items) piece)
bytes_of-piece (Close ∷ items) piece = bytes_of-piece items piece

-- the bytes, with Close
pub bytes_of-close : (items : List Item) → bytes_of (items ++ Close ∷ []) ≡ bytes_of items
bytes_of-close [] = refl
bytes_of-close (Bytes p ∷ items) = ap (λ l. p ++ l) (bytes_of-close items)
bytes_of-close (Close ∷ items) = bytes_of-close items

-- a piece is no Close
pub has_close-piece : (items : List Item) (piece : List ℕ)
    → has_close (items ++ Bytes piece ∷ []) ≡ has_close items
has_close-piece [] piece = refl
has_close-piece (Bytes p ∷ items) piece = has_close-piece items piece
has_close-piece (Close ∷ items) piece = refl

-- Close is there once it was put
pub has_close-close : (items : List Item) → has_close (items ++ Close ∷ []) ≡ true
has_close-close [] = refl
has_close-close (Bytes p ∷ items) = has_close-close items
has_close-close (Close ∷ items) = refl

-- a piece after items without Close
pub tidy_piece : (block : ℕ) (items : List Item) (piece : List ℕ) → IsTidy block items
    → has_close items ≡ false → IsPieceLong block piece → IsTidy block (items ++ Bytes piece ∷ [])
tidy_piece block [] piece t c long = (long, tt)
tidy_piece block (Bytes p ∷ items) piece t c long = (t.0, tidy_piece block items piece t.1 c long)
tidy_piece block (Close ∷ items) piece t c long = absurd (false≢true (sym c))

-- Close after items without one
pub tidy_close : (block : ℕ) (items : List Item) → IsTidy block items → has_close items ≡ false
    → IsTidy block (items ++ Close ∷ [])
tidy_close block [] t c = refl
tidy_close block (Bytes p ∷ items) t c = (t.0, tidy_close block items t.1 c)
tidy_close block (Close ∷ items) t c = absurd (false≢true (sym c))
