-- Which input paste without -s wants: that of the first column of a row whose cell is not whole.
use Rattle.std.specs.Prelude.{◌≡◌, ℕ, ◌<◌, [], false, length, slice_index}
use Rattle.machine.specs.declared.protocol.Want.TheVariants.{Take}
use Rattle.pair_filters.specs.Intakes.{intake}
use Rattle.pair_filters.specs.PasteShows.{paste_shows}
use Rattle.pair_filters.specs.declared.paste.Form.TheVariants as forms
use Rattle.pair_filters.specs.declared.paste.Paste.{Paste}
use Rattle.pair_filters.specs.declared.table.Table.{Table}

-- A row is at the column of input i, and the cell is not whole: all that came of that input is
-- written, and it has not ended.
pub record IsAtOpenCell (m : Table) (i : ℕ) : Type 0 where
  pub within : m.place.column < length m.columns.items
  pub column : slice_index m.columns.items m.place.column ≡ i
  pub written : (intake m.intakes.items i).left ≡ []
  pub unclosed : (intake m.intakes.items i).closed ≡ false

-- a paste without -s wants only the input of the column that a row is at, until that cell is whole
abbrev pub PastesWantOpenCells : Type 0
PastesWantOpenCells = (p : Paste) (m : Table) (i : ℕ) → p.form ≡ forms.Table m
    → (paste_shows p).wanted ≡ Take i → IsAtOpenCell m i
