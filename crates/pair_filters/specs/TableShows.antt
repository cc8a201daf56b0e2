-- What paste's machine of a table shows: it wants the columns of a row in order, each until its
-- line is whole or its input has ended.
use Rattle.std.specs.Prelude.{◌≡◌, ℕ, ◌<◌, List, [], ◌∷◌, Option, Bool, true, false, ◌&&◌, nat_lt}
use Rattle.std.specs.Prelude.{length, drop, refl, if◌then◌else◌}
use Rattle.std.proofs.Common.{ap, ◌∙◌, sym, inl, inr}
use Rattle.std.proofs.lemmas.Bool.{cases_lt, and_right}
use Rattle.std.proofs.lemmas.List.{get_or_past}
use Rattle.machine.specs.Law.{Shown, IsLawful}
use Rattle.machine.specs.Lines.{lines}
use Rattle.machine.specs.declared.protocol.Want.{Want}
use Rattle.machine.specs.declared.protocol.Want.TheVariants.{Take, Finished}
use Rattle.pair_filters.specs.Intakes.{Left, intake, over, lines_with}
use Rattle.commands.specs.Paste.{Lines, table}
use Rattle.pair_filters.specs.TableRows.{still_written}
use Rattle.pair_filters.specs.declared.table.Place.{Place}
use Rattle.pair_filters.specs.declared.table.Table.{Table}

-- the input of the first of these columns, unless it has ended
abbrev pub column_wanted : List ℕ → List Left → Want
column_wanted [] intakes = Finished
column_wanted (i ∷ left) intakes = if (intake intakes i).closed then Finished else Take i

-- what is still to come on the inputs that there are
abbrev pub coming : ℕ → (ℕ → List ℕ) → ℕ → List ℕ
coming count ys i = if nat_lt i count then ys i else []

-- what is still written while an input is wanted
abbrev pub still_wanted : List (Option ℕ) → List ℕ → Place → List ℕ → List Left → Lines → List ℕ
still_wanted delimiters columns place [] intakes lines = []
still_wanted delimiters columns place (i ∷ left) intakes lines =
    if (intake intakes i).closed then []
    else still_written delimiters columns place.column place.begun (i ∷ left) lines

-- what a machine shows that is at this place
abbrev pub pasting : List (Option ℕ) → List ℕ → List Left → Place → Shown
pasting delimiters columns intakes place =
    record {
      inputs = length intakes;
      wanted = column_wanted (drop place.column columns) intakes;
      closed = λ j. nat_lt j (length intakes) && (intake intakes j).closed;
      rest =
          λ ys. still_wanted delimiters columns place (drop place.column columns) intakes
          (lines_with intakes (coming (length intakes) ys));
      most = λ ys. 0;
    }

abbrev pub table_shows : Table → Shown
table_shows m = pasting m.delimiters.items m.columns.items m.intakes.items m.place

-- what a new machine of this many inputs shows: whatever comes on them, it would write the table of
-- their lines
pub record IsNewTable (delimiters : List (Option ℕ)) (columns : List ℕ) (count : ℕ) (m : Shown) :
    Type 0 where
  pub inputs : m.inputs ≡ count
  pub unclosed : (j : ℕ) → m.closed j ≡ false
  pub rest : (ys : ℕ → List ℕ)
      → m.rest ys ≡ table delimiters columns (λ i. lines (coming count ys i))
  pub most : (ys : ℕ → List ℕ) → m.most ys ≡ 0

wants_by : (b : Bool) (i j : ℕ) → (if b then Finished else Take i) ≡ Take j → (b ≡ false) × (i ≡ j)
wants_by true i j h = absurd (cc)
wants_by false i j h = (refl, cc)

-- the input that is wanted has not ended
pub column_open : (left : List ℕ) (intakes : List Left) (i : ℕ)
    → column_wanted left intakes ≡ Take i → (intake intakes i).closed ≡ false
column_open [] intakes i h = absurd (cc)
column_open (x ∷ left) intakes i h =
    let w = wants_by (intake intakes x).closed x i h in
    ap (λ (j : ℕ). (intake intakes j).closed) (sym (w.1)) ∙ w.0

-- and it is there
pub open_within : (intakes : List Left) (i : ℕ) → (intake intakes i).closed ≡ false
    → i < length intakes
open_within intakes i h =
    elim (cases_lt i (length intakes)) [
      | inl low ↦ low
      | inr high ↦ let e : true
          ≡ false = sym (ap (λ (s : Left). s.closed) (get_or_past intakes i over high))
          ∙ h in absurd (cc)
    ]

finished_by : (b : Bool) (i : ℕ) (x : List ℕ) → (if b then Finished else Take i) ≡ Finished
    → (if b then [] else x) ≡ []
finished_by true i x h = refl
finished_by false i x h = absurd (cc)

still_finished : (delimiters : List (Option ℕ)) (columns : List ℕ) (place : Place) (left : List ℕ)
    (intakes : List Left) (lines : Lines) → column_wanted left intakes ≡ Finished
    → still_wanted delimiters columns place left intakes lines ≡ []
still_finished delimiters columns place [] intakes lines h = refl
still_finished delimiters columns place (i ∷ left) intakes lines h =
    finished_by (intake intakes i).closed i
    (still_written delimiters columns place.column place.begun (i ∷ left) lines) h

-- it obeys the law
pub table_lawful : (m : Table) → IsLawful (table_shows m)
table_lawful m =
    record {
      wants = λ i h.
          let shut = column_open (drop m.place.column m.columns.items) m.intakes.items i h in (
            open_within m.intakes.items i shut,
            and_right (nat_lt i (length m.intakes.items))
                (intake m.intakes.items i).closed shut,
          );
      finished = λ h ys e.
          still_finished m.delimiters.items m.columns.items m.place
          (drop m.place.column m.columns.items) m.intakes.items
          (lines_with m.intakes.items (coming (length m.intakes.items) ys)) h;
    }
