-- paste without -s wants the input of a cell that is not whole.
use Rattle.std.proofs.Common.{◌≡◌, ℕ, ◌+◌, ◌<◌, Bool, true, false, cond, List, [], ◌∷◌, length}
use Rattle.std.proofs.Common.{get_or, drop, refl, ap, ◌∙◌, sym, arith, length-drop}
use Rattle.std.proofs.lemmas.List.{get_or-drop}
use Rattle.machine.specs.declared.protocol.Want.TheVariants.{Take, Finished}
use Rattle.pair_filters.specs.Intakes.{Left, intake, first_left}
use Rattle.pair_filters.specs.PasteShows.{form_shows}
use Rattle.pair_filters.specs.PasteWants.{IsAtOpenCell, PastesWantOpenCells}
use Rattle.pair_filters.specs.TableShows.{column_wanted, column_open}
use Rattle.pair_filters.specs.declared.paste.Form.{Form}
use Rattle.pair_filters.specs.declared.table.Table.{Table}

-- the column that begins the columns that are left
column_at : (columns left : List ℕ) (k x : ℕ) → drop k columns ≡ x ∷ left
    → (k < length columns) × (get_or columns k 0 ≡ x)
column_at columns left k x e =
    let long = ap length e in
    let read : get_or (drop k columns) 0 0 ≡ get_or columns (k + 0) 0 = get_or-drop k columns 0 0 in
    let same : k + 0 ≡ k = omega arith in (
      omega (arith, long, length-drop k columns),
      ap (λ (j : ℕ). get_or columns j 0) (sym same)
          ∙ (sym read ∙ ap (λ (xs : List ℕ). get_or xs 0 0) e),
    )

wants_one : (b : Bool) (x i : ℕ) → cond b Finished (Take x) ≡ Take i → x ≡ i
wants_one true x i h = absurd (cc)
wants_one false x i h = cc

-- nothing is left of the input that is wanted
pub wanted_used : (left : List ℕ) (intakes : List Left) (i : ℕ)
    → column_wanted left intakes ≡ Take i → first_left left intakes ≡ []
    → (intake intakes i).left ≡ []
wanted_used [] intakes i h none = absurd (cc)
wanted_used (x ∷ left) intakes i h none =
    ap (λ (j : ℕ). (intake intakes j).left) (sym (wants_one (intake intakes x).closed x i h)) ∙ none

open_cell : (left : List ℕ) (m : Table) (i : ℕ) → drop m.place.column m.columns.items ≡ left
    → column_wanted left m.intakes.items ≡ Take i → first_left left m.intakes.items ≡ []
    → IsAtOpenCell m i
open_cell [] m i e h none = absurd (cc)
open_cell (x ∷ left) m i e h none =
    let at = column_at m.columns.items left m.place.column x e in
    let is : x ≡ i = wants_one (intake m.intakes.items x).closed x i h in
    record {
      within = at.0;
      column = at.1 ∙ is;
      written = wanted_used (x ∷ left) m.intakes.items i h none;
      unclosed = column_open (x ∷ left) m.intakes.items i h;
    }

pub pastes_want_open_cells : PastesWantOpenCells
pastes_want_open_cells p m i e h =
    open_cell (drop m.place.column m.columns.items) m i refl
    (sym (ap (λ (f : Form). (form_shows f).wanted) e) ∙ h) m.emptied
