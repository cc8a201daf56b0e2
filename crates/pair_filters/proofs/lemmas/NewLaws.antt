-- New machines of paste.
use Rattle.std.proofs.Common.{◌≡◌, ◌≢◌, ℕ, zero, suc, ◌+◌, ◌<◌, ◌≤◌, Bool, true, false, cond, not}
use Rattle.std.proofs.Common.{ltb, List, [], ◌∷◌, ◌++◌, Option, Some, None, length, get_or, take}
use Rattle.std.proofs.Common.{drop, refl, ap, ◌∙◌, sym, subst, arith, inl, inr}
use Rattle.std.specs.Prelude.{◌&&◌, ◌||◌}
use Rattle.std.specs.List.{All, flat_map, enumerate_from, list_any}
use Rattle.std.proofs.lemmas.Bool.{ltb-true, ltb-false, lt-ltb, le-ltb, ne_eqb, cases_lt}
use Rattle.std.proofs.lemmas.List.{drop_all, drop_more, get_or-take, get_or_past, length-take}
use Rattle.machine.specs.Law.{IsNew, Shown}
use Rattle.machine.specs.Lines.{lines}
use Rattle.machine.specs.Whole.{inputs_from, inputs_of, is_some_missing}
use Rattle.machine.specs.declared.protocol.Presence.{Presence}
use Rattle.machine.specs.declared.protocol.Presence.TheVariants.{Present, Missing}
use Rattle.machine.proofs.MakesLaws.{fun_ext}
use Rattle.pair_filters.specs.SilentShows.{in_turn}
use Rattle.pair_filters.specs.Joins.{no_line}
use Rattle.pair_filters.specs.Operands.{by_presence, inputs_on, is_at_first, is_first}
use Rattle.pair_filters.specs.Operands.{operands_from}
use Rattle.pair_filters.specs.SerialShows.{joining}
use Rattle.pair_filters.specs.Intakes.{Left, intake, over, lines_with}
use Rattle.commands.specs.Paste.{Inputs, Lines, input, lines_of, lines_in, operand, has_column}
use Rattle.commands.specs.Paste.{table, paste_whole}
use Rattle.pair_filters.specs.TableRows.{still_written}
use Rattle.pair_filters.specs.TableShows.{coming, pasting, IsNewTable}
use Rattle.pair_filters.specs.inner.TableSteps.{IsSettled, still_at}
use Rattle.pair_filters.specs.declared.serial.Joint.{Joint}
use Rattle.pair_filters.specs.declared.table.Place.{Place}
use Rattle.pair_filters.proofs.lemmas.OperandLaws.{operand_of, first_joined}
use Rattle.pair_filters.proofs.lemmas.StepLaws.{row_passes}
use Rattle.pair_filters.proofs.lemmas.TableFeeds.{settled_still}
use Rattle.pair_filters.proofs.lemmas.TableLaws.{table_still}

-- what is on an input, by its number
input_from : (ps : List Presence) (k i : ℕ) (ys : ℕ → List ℕ)
    → get_or (inputs_from k ps ys) i None ≡ by_presence (get_or ps i Missing) (ys (k + i))
input_from [] k i ys = refl
input_from (Present ∷ ps) k zero ys =
    let e : k ≡ k + 0 = omega arith in
    ap (λ (j : ℕ). Some (ys j)) e
input_from (Missing ∷ ps) k zero ys = refl
input_from (Present ∷ ps) k (suc i) ys =
    let e : k + 1 + i ≡ k + suc i = omega arith in
    input_from ps (k + 1) i ys ∙ ap (λ (j : ℕ). by_presence (get_or ps i Missing) (ys j)) e
input_from (Missing ∷ ps) k (suc i) ys =
    let e : k + 1 + i ≡ k + suc i = omega arith in
    input_from ps (k + 1) i ys ∙ ap (λ (j : ℕ). by_presence (get_or ps i Missing) (ys j)) e

pub inputs_are : (ps : List Presence) (ys : ℕ → List ℕ) → input (inputs_of ps ys) ≡ inputs_on ps ys
inputs_are ps ys = fun_ext (λ i. let e : 0 + i ≡ i = omega arith in input_from ps 0 i ys
    ∙ ap (λ (j : ℕ). by_presence (get_or ps i Missing) (ys j)) e)

-- the columns before one are of inputs that are not there
pub beyond : (columns : List ℕ) (count p : ℕ) → p ≤ length columns
    → All (λ i. count ≤ i) (take p columns) → (k : ℕ) → k < p → count ≤ get_or columns k 0
beyond columns count p within all k low =
    let long : k < length (take p columns) = omega (arith, length-take p columns) in
    subst (λ (x : ℕ). count ≤ x) (get_or-take p columns k 0 low) (all k 0 long)

-- nothing is written of operands of inputs that are not there
operands_gone : (delimiters : List (Option ℕ)) (columns : List ℕ) (ins : Inputs) (count p : ℕ)
    → ((i : ℕ) → count ≤ i → ins i ≡ None) → p ≤ length columns
    → ((k : ℕ) → k < p → count ≤ get_or columns k 0)
    → operands_from delimiters columns ins 0 ≡ operands_from delimiters columns ins p
operands_gone delimiters columns ins count zero none within all = refl
operands_gone delimiters columns ins count (suc p) none within all =
    let i = get_or columns p 0 in
    let low : p < length columns = omega arith in
    let e : p + 1 ≡ suc p = omega arith in
    operands_gone delimiters columns ins count p none (omega arith) (λ k h. all k (omega arith))
    ∙ (ap (λ (l : List ℕ). flat_map (operand delimiters columns ins) (enumerate_from p l))
    (drop_more columns p 0 low)
    ∙ (ap (λ (o : Option (List ℕ)). operand_of delimiters columns p i o
    ++ operands_from delimiters columns ins (p + 1)) (none i (all p (omega arith)))
    ∙ ap (operands_from delimiters columns ins) e))

has_column_none : (columns : List ℕ) (j : ℕ)
    → ((k : ℕ) → k < length columns → j ≢ get_or columns k 0) → has_column columns j ≡ false
has_column_none [] j h = refl
has_column_none (x ∷ columns) j h =
    ap (λ (b : Bool). b || has_column columns j) (ne_eqb x j (λ e. h 0 (omega arith) (sym e)))
    ∙ has_column_none columns j (λ k low. h (suc k) (omega arith))

unclosed_by : (b : Bool) (columns : List ℕ) (count p j : ℕ) → ltb j count ≡ b → p ≤ length columns
    → ((k : ℕ) → k < p → count ≤ get_or columns k 0) → (b && has_column (take p columns) j) ≡ false
unclosed_by false columns count p j e within all = refl
unclosed_by true columns count p j e within all =
    let low : j < count = ltb-true j count e in
    has_column_none (take p columns) j (λ k long same.
    let small : k < p = omega (arith, long, length-take p columns) in
    let far : count ≤ get_or columns k 0 = all k small in
    let read = get_or-take p columns k 0 small in omega (arith, low, far, read, same))

first_there : (columns : List ℕ) (count p : ℕ) → p < length columns → get_or columns p 0 < count
    → ((k : ℕ) → k < p → count ≤ get_or columns k 0)
    → is_first columns count p (get_or columns p 0) ≡ true
first_there columns count p low here all =
    let i = get_or columns p 0 in
    let t : ltb i count ≡ true = lt-ltb i count here in
    ap (λ (b : Bool). b && not (has_column (take p columns) i)) t
    ∙ ap not (sym (ap (λ (b : Bool). b && has_column (take p columns) i) t)
    ∙ unclosed_by (ltb i count) columns count p i refl (omega arith) all)

-- the first column of an input that is there is the first one of its input
pub new_settled : (columns : List ℕ) (count p : ℕ) → p ≤ length columns
    → All (λ i. count ≤ i) (take p columns) → (p < length columns → get_or columns p 0 < count)
    → is_at_first columns count p (drop p columns) ≡ true
new_settled columns count p within all here =
    elim (cases_lt p (length columns)) [
      | inl low ↦ ap (is_at_first columns count p) (drop_more columns p 0 low)
          ∙ first_there columns count p low (here low) (beyond columns count p within all)
      | inr high ↦ ap (is_at_first columns count p) (drop_all p columns high)
    ]

-- a new machine of paste -s
pub serial_new : (delimiters : List (Option ℕ)) (columns : List ℕ) (inputs : List Presence) (p : ℕ)
    → p ≤ length columns → All (λ i. length inputs ≤ i) (take p columns)
    → (p < length columns → get_or columns p 0 < length inputs)
    → IsNew (joining delimiters columns inputs p no_line)
    (paste_whole delimiters true columns) inputs
serial_new delimiters columns inputs p within all here =
    let n = length inputs in
    let far = beyond columns n p within all in
    record {
      inputs = refl;
      unclosed = λ j. unclosed_by (ltb j n) columns n p j refl within far;
      rest = λ ys.
          let ins = inputs_on inputs ys in
          sym (first_joined delimiters columns n p (drop p columns) ins
          (new_settled columns n p within all here))
          ∙ (sym (operands_gone delimiters columns ins n p
          (λ i h. ap (λ (q : Presence). by_presence q (ys i)) (get_or_past inputs i Missing h))
          within far)
          ∙ ap (λ (x : Inputs). operands_from delimiters columns x 0) (sym (inputs_are inputs ys)));
      most = λ ys. omega arith;
    }

-- the same of copies of these lists
pub serial_new_as : (delimiters ds : List (Option ℕ)) (columns cs : List ℕ)
    (inputs ps : List Presence) (p : ℕ) (joint : Joint) → joint ≡ no_line → ds ≡ delimiters
    → cs ≡ columns → ps ≡ inputs → p ≤ length columns
    → All (λ i. length inputs ≤ i) (take p columns)
    → (p < length columns → get_or columns p 0 < length inputs)
    → IsNew (joining ds cs ps p joint) (paste_whole delimiters true columns) inputs
serial_new_as delimiters ds columns cs inputs ps p joint j d c e within all here =
    subst (λ (x : Joint). IsNew (joining ds cs ps p x) (paste_whole delimiters true columns) inputs)
    (sym j)
    (subst (λ (x : List (Option ℕ)). IsNew (joining x cs ps p no_line)
    (paste_whole delimiters true columns) inputs) (sym d)
    (subst (λ (x : List ℕ). IsNew (joining delimiters x ps p no_line)
    (paste_whole delimiters true columns) inputs) (sym c)
    (subst (λ (x : List Presence). IsNew (joining delimiters columns x p no_line)
    (paste_whole delimiters true columns) inputs) (sym e)
    (serial_new delimiters columns inputs p within all here))))

-- columns of inputs that are not there are passed
columns_gone : (delimiters : List (Option ℕ)) (columns : List ℕ) (ls : Lines) (count p : ℕ)
    → ((i : ℕ) → count ≤ i → ls i ≡ []) → p ≤ length columns
    → ((k : ℕ) → k < p → count ≤ get_or columns k 0)
    → still_written delimiters columns 0 false columns ls
    ≡ still_written delimiters columns p false (drop p columns) ls
columns_gone delimiters columns ls count zero none within all = refl
columns_gone delimiters columns ls count (suc p) none within all =
    let low : p < length columns = omega arith in
    let e : p + 1 ≡ suc p = omega arith in
    columns_gone delimiters columns ls count p none (omega arith) (λ k h. all k (omega arith))
    ∙ (ap (λ (l : List ℕ). still_written delimiters columns p false l ls)
    (drop_more columns p 0 low)
    ∙ (row_passes delimiters columns p (get_or columns p 0) (drop (p + 1) columns) ls
    (none (get_or columns p 0) (all p (omega arith)))
    ∙ ap (λ (k : ℕ). still_written delimiters columns k false (drop k columns) ls) e))

nothing_by : (intakes : List Left) (i : ℕ)
    → All (λ s. s ≡ record { left = []; closed = false }) intakes → (intake intakes i).left ≡ []
nothing_by intakes i all =
    elim (cases_lt i (length intakes)) [
      | inl low ↦ ap (λ (s : Left). s.left) (all i over low)
      | inr high ↦ ap (λ (s : Left). s.left) (get_or_past intakes i over high)
    ]

new_lines : (intakes : List Left) (ys : ℕ → List ℕ)
    → All (λ s. s ≡ record { left = []; closed = false }) intakes
    → lines_with intakes (coming (length intakes) ys) ≡ (λ i. lines (coming (length intakes) ys i))
new_lines intakes ys all =
    fun_ext (λ i. ap (λ (x : List ℕ). lines (x ++ coming (length intakes) ys i))
    (nothing_by intakes i all))

coming_none : (count i : ℕ) (ys : ℕ → List ℕ) → count ≤ i → lines (coming count ys i) ≡ []
coming_none count i ys h = ap (λ (b : Bool). lines (cond b (ys i) [])) (le-ltb i count h)

open_new : (columns : List ℕ) (intakes : List Left) (p : ℕ)
    → All (λ s. s ≡ record { left = []; closed = false }) intakes
    → (p < length columns → get_or columns p 0 < length intakes)
    → IsSettled (drop p columns) intakes
open_new columns intakes p all here =
    elim (cases_lt p (length columns)) [
      | inl low ↦ subst (λ (l : List ℕ). IsSettled l intakes) (sym (drop_more columns p 0 low))
          (ap (λ (s : Left). s.closed) (all (get_or columns p 0) over (here low)))
      | inr high ↦ subst (λ (l : List ℕ). IsSettled l intakes) (sym (drop_all p columns high)) tt
    ]

closed_new : (b : Bool) (intakes : List Left) (j : ℕ) → ltb j (length intakes) ≡ b
    → All (λ s. s ≡ record { left = []; closed = false }) intakes
    → (b && (intake intakes j).closed) ≡ false
closed_new false intakes j e all = refl
closed_new true intakes j e all = ap (λ (s : Left). s.closed)
    (all j over (ltb-true j (length intakes) e))

-- a new machine of a table
pub table_new : (delimiters : List (Option ℕ)) (columns : List ℕ) (count : ℕ) (intakes : List Left)
    (p : ℕ) → length intakes ≡ count → All (λ s. s ≡ record { left = []; closed = false }) intakes
    → p ≤ length columns → All (λ i. count ≤ i) (take p columns)
    → (p < length columns → get_or columns p 0 < count)
    → IsNewTable delimiters columns count
    (pasting delimiters columns intakes (record { column = p; begun = false }))
table_new delimiters columns count intakes p many all within gone here =
    let place : Place = record { column = p; begun = false } in
    let here' : p < length columns → get_or columns p 0 < length intakes =
    λ low. subst (λ (n : ℕ). get_or columns p 0 < n) (sym many) (here low) in
    record {
      inputs = many;
      unclosed = λ j. closed_new (ltb j (length intakes)) intakes j refl all;
      rest = λ ys.
          let of : ℕ → Lines = λ n i. lines (coming n ys i) in
          let ls = of count in
          settled_still delimiters columns place (drop p columns) intakes
          (lines_with intakes (coming (length intakes) ys))
          (open_new columns intakes p all here')
          ∙ (ap (still_at delimiters columns place) (new_lines intakes ys all ∙ ap of many)
          ∙ (sym (columns_gone delimiters columns ls count p
          (λ i h. coming_none count i ys h) within (beyond columns count p within gone))
          ∙ sym (table_still delimiters columns ls)));
      most = λ ys. refl;
    }

-- the same of copies of these lists
pub table_new_as : (delimiters ds : List (Option ℕ)) (columns cs : List ℕ) (count : ℕ)
    (intakes : List Left) (p : ℕ) → ds ≡ delimiters → cs ≡ columns → length intakes ≡ count
    → All (λ s. s ≡ record { left = []; closed = false }) intakes → p ≤ length columns
    → All (λ i. count ≤ i) (take p columns) → (p < length columns → get_or columns p 0 < count)
    → IsNewTable delimiters columns count
    (pasting ds cs intakes (record { column = p; begun = false }))
table_new_as delimiters ds columns cs count intakes p d c many all within gone here =
    let place : Place = record { column = p; begun = false } in
    subst (λ (x : List (Option ℕ)). IsNewTable delimiters columns count
    (pasting x cs intakes place)) (sym d)
    (subst (λ (x : List ℕ). IsNewTable delimiters columns count
    (pasting delimiters x intakes place)) (sym c)
    (table_new delimiters columns count intakes p many all within gone here))

-- whether an input is missing
missing_from : (test : Presence → Bool) → test Present ≡ false → test Missing ≡ true
    → (ps : List Presence) (k : ℕ) (ys : ℕ → List ℕ)
    → list_any test ps ≡ is_some_missing (inputs_from k ps ys)
missing_from test p m [] k ys = refl
missing_from test p m (Present ∷ ps) k ys = ap (λ (b : Bool). b || list_any test ps) p
    ∙ missing_from test p m ps (k + 1) ys
missing_from test p m (Missing ∷ ps) k ys = ap (λ (b : Bool). b || list_any test ps) m

pub missing_is : (test : Presence → Bool) → test Present ≡ false → test Missing ≡ true
    → (b : Bool) (ps : List Presence) (ys : ℕ → List ℕ) → b ≡ list_any test ps
    → b ≡ is_some_missing (inputs_of ps ys)
missing_is test p m b ps ys e = e ∙ missing_from test p m ps 0 ys

-- if no input is missing all are present
all_present : (ps : List Presence) (k i : ℕ) (ys : ℕ → List ℕ)
    → is_some_missing (inputs_from k ps ys) ≡ false → i < length ps → get_or ps i Missing ≡ Present
all_present [] k i ys h low = absurd (omega arith)
all_present (Present ∷ ps) k zero ys h low = refl
all_present (Present ∷ ps) k (suc i) ys h low = all_present ps (k + 1) i ys h (omega arith)
all_present (Missing ∷ ps) k i ys h low = absurd (cc)

came_by : (b : Bool) (ps : List Presence) (i : ℕ) (ys : ℕ → List ℕ) → ltb i (length ps) ≡ b
    → is_some_missing (inputs_of ps ys) ≡ false
    → lines_in (by_presence (get_or ps i Missing) (ys i)) ≡ lines (cond b (ys i) [])
came_by true ps i ys e h = ap (λ (q : Presence). lines_in (by_presence q (ys i)))
    (all_present ps 0 i ys h (ltb-true i (length ps) e))
came_by false ps i ys e h = ap (λ (q : Presence). lines_in (by_presence q (ys i)))
    (get_or_past ps i Missing (ltb-false i (length ps) e))

table_out : (delimiters : List (Option ℕ)) (columns : List ℕ) (ps : List Presence) (ys : ℕ → List ℕ)
    → is_some_missing (inputs_of ps ys) ≡ false
    → table delimiters columns (λ i. lines (coming (length ps) ys i))
    ≡ (paste_whole delimiters false columns (inputs_of ps ys)).out
table_out delimiters columns ps ys h =
    ap (table delimiters columns)
    (fun_ext (λ i. sym (came_by (ltb i (length ps)) ps i ys refl h))
    ∙ ap lines_of (sym (inputs_are ps ys)))
    ∙ sym
    (ap
    (λ (b : Bool). cond b [] (table delimiters columns (lines_of (input (inputs_of ps ys))))) h)

-- a new machine of paste, if no input is missing
pub paste_new : (delimiters : List (Option ℕ)) (columns : List ℕ) (ps : List Presence) (m : Shown)
    → ((ys : ℕ → List ℕ) → is_some_missing (inputs_of ps ys) ≡ false)
    → (t : IsNewTable delimiters columns (length ps) m)
    → IsNew m (paste_whole delimiters false columns) ps
paste_new delimiters columns ps m here t =
    record {
      inputs = t.inputs;
      unclosed = t.unclosed;
      rest = λ ys. t.rest ys ∙ table_out delimiters columns ps ys (here ys);
      most = λ ys. let e = t.most ys in omega (arith, e);
    }

-- the same of copies of these lists
pub paste_new_as : (delimiters ds : List (Option ℕ)) (is_serial : Bool) (columns cs : List ℕ)
    (ps : List Presence) (m : Shown) → ds ≡ delimiters → is_serial ≡ false → cs ≡ columns
    → ((ys : ℕ → List ℕ) → false ≡ is_some_missing (inputs_of ps ys))
    → IsNewTable ds cs (length ps) m → IsNew m (paste_whole delimiters is_serial columns) ps
paste_new_as delimiters ds is_serial columns cs ps m d e c here t =
    subst (λ (b : Bool). IsNew m (paste_whole delimiters b columns) ps) (sym e)
    (subst (λ (x : List (Option ℕ)). IsNew m (paste_whole x false columns) ps) d
    (subst (λ (x : List ℕ). IsNew m (paste_whole ds false x) ps) c
    (paste_new ds cs ps m (λ ys. sym (here ys)) t)))

-- and if one is
pub silent_new : (delimiters : List (Option ℕ)) (columns : List ℕ) (ps : List Presence) (n : ℕ)
    → n ≡ length ps → ((ys : ℕ → List ℕ) → is_some_missing (inputs_of ps ys) ≡ true)
    → IsNew (in_turn n 0) (paste_whole delimiters false columns) ps
silent_new delimiters columns ps n many gone =
    record {
      inputs = many;
      unclosed = λ j. le-ltb j 0 (omega arith);
      rest =
          λ ys. sym
          (ap
          (λ (b : Bool). cond b [] (table delimiters columns (lines_of (input (inputs_of ps ys)))))
          (gone ys));
      most = λ ys. omega arith;
    }
