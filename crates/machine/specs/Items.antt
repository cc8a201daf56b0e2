-- What is in a pipe: pieces, and last the mark that the writer has closed it. A read of a pipe
-- whose writer has closed it returns the end of the file once all was read (POSIX.1-2017 XSH read;
-- pipe(7)).
use Rattle.std.specs.Prelude.{◌≡◌, ℕ, List, [], ◌∷◌, ◌++◌, Bool, true, false}
use Rattle.machine.specs.Pieces.{IsPieceLong}
use Rattle.machine.specs.declared.piece.Item.{Item}
use Rattle.machine.specs.declared.piece.Item.TheVariants.{Bytes, Close}

-- the bytes of the pieces, in order
abbrev pub bytes_of : List Item → List ℕ
bytes_of [] = []
bytes_of (Bytes piece ∷ items) = piece ++ bytes_of items
bytes_of (Close ∷ items) = bytes_of items

-- whether Close is among them
abbrev pub has_close : List Item → Bool
has_close [] = false
has_close (Bytes piece ∷ items) = has_close items
has_close (Close ∷ items) = true

-- each piece has 1 to block bytes, and Close is only at the end
abbrev pub IsTidy : ℕ → List Item → Type 0
IsTidy block [] = Unit {0}
IsTidy block (Bytes piece ∷ items) = IsPieceLong block piece × IsTidy block items
IsTidy block (Close ∷ items) = items ≡ []
