-- The machine of a table goes on as the law says.
use Rattle.std.proofs.Common.{◌≡◌, ◌≢◌, ℕ, ◌<◌, Bool, true, false, cond, eqb, ltb, List, [], ◌∷◌}
use Rattle.std.proofs.Common.{◌++◌, Option, length, set, drop, refl, ap, ◌∙◌, sym, subst, arith}
use Rattle.std.proofs.Common.{append_assoc}
use Rattle.std.specs.Prelude.{◌&&◌, ◌||◌}
use Rattle.std.proofs.lemmas.Bool.{eq-eqb, eqb-true, lt-ltb}
use Rattle.std.proofs.lemmas.List.{get_or-set_same, get_or-set_other, length-set}
use Rattle.machine.specs.Law.{GoesOn, IsEmptyOn, Feeds, Closes, before, with_closed}
use Rattle.machine.specs.Lines.{lines}
use Rattle.machine.specs.Pieces.{Queued, contents}
use Rattle.machine.specs.declared.protocol.Want.TheVariants.{Take, Finished}
use Rattle.machine.proofs.MakesLaws.{fun_ext}
use Rattle.pair_filters.specs.Intakes.{Left, intake, over, lines_with, AreOver}
use Rattle.commands.specs.Paste.{Lines}
use Rattle.pair_filters.specs.TableRows.{still_written}
use Rattle.pair_filters.specs.TableShows.{column_wanted, column_open, open_within, coming}
use Rattle.pair_filters.specs.TableShows.{still_wanted, pasting}
use Rattle.pair_filters.specs.inner.TableSteps.{still_at, IsSettled, WritesCells}
use Rattle.pair_filters.specs.declared.table.Place.{Place}
use Rattle.pair_filters.proofs.lemmas.CellLaws.{seen_same}

-- while the input of the next column has not ended, all is still written
pub settled_still : (delimiters : List (Option ℕ)) (columns : List ℕ) (place : Place)
    (left : List ℕ) (intakes : List Left) (ls : Lines) → IsSettled left intakes
    → still_wanted delimiters columns place left intakes ls
    ≡ still_written delimiters columns place.column place.begun left ls
settled_still delimiters columns place [] intakes ls h = refl
settled_still delimiters columns place (i ∷ left) intakes ls h =
    ap (λ (b : Bool). cond b [] (still_written delimiters columns place.column place.begun
    (i ∷ left) ls)) h

open_by : (b : Bool) (x i : ℕ) → cond b Finished (Take x) ≡ Take i → b ≡ false
open_by true x i h = absurd (cc)
open_by false x i h = refl

pub wanted_settled : (left : List ℕ) (intakes : List Left) (i : ℕ)
    → column_wanted left intakes ≡ Take i → IsSettled left intakes
wanted_settled [] intakes i h = tt
wanted_settled (x ∷ left) intakes i h = open_by (intake intakes x).closed x i h

over_by : (b : Bool) (closed : Bool) (y : List ℕ) → closed ≡ true → ((b && closed) ≡ true → y ≡ [])
    → cond b y [] ≡ []
over_by true closed y e h = h e
over_by false closed y e h = refl

over_coming : (n : ℕ) (intakes : List Left) (shut : ℕ → Bool) (ys : ℕ → List ℕ)
    → ((j : ℕ) → (ltb j n && (intake intakes j).closed) ≡ shut j) → IsEmptyOn shut ys
    → AreOver intakes (coming n ys)
over_coming n intakes shut ys is h j e = over_by (ltb j n) (intake intakes j).closed (ys j) e
    (λ k. h j (sym (is j) ∙ k))

-- after a step of some inputs, and the rows that could be written then
table_goes_on : (delimiters : List (Option ℕ)) (columns : List ℕ) (intakes s1 s2 : List Left)
    (place place' : Place) (i : ℕ) (made : List ℕ) (shut : ℕ → Bool) (came : (ℕ → List ℕ) → ℕ
    → List ℕ) (out out' : Queued) → column_wanted (drop place.column columns) intakes ≡ Take i
    → length s1 ≡ length intakes
    → ((j : ℕ) → (ltb j (length intakes) && (intake s1 j).closed) ≡ shut j)
    → ((ys : ℕ → List ℕ) → lines_with intakes (coming (length intakes) (came ys))
    ≡ lines_with s1 (coming (length intakes) ys))
    → WritesCells delimiters columns s1 s2 place place' [] made
    → IsSettled (drop place'.column columns) s2 → contents out' ≡ contents out ++ made
    → GoesOn (pasting delimiters columns intakes place)
    (pasting delimiters columns s2 place') shut came out out'
table_goes_on delimiters columns intakes s1 s2 place place' i made shut came out out' wants count is
    same w settled added =
    let n = length intakes in
    let left = drop place.column columns in
    let left' = drop place'.column columns in
    let all : length s2 ≡ n = w.same.count ∙ count in
    record {
      made = made;
      added = added;
      closed = λ j.
          ap (λ (m : ℕ). ltb j m && (intake s2 j).closed) all
          ∙ (ap (λ (b : Bool). ltb j n && b) (w.same.closed j) ∙ is j);
      splits = λ ys h.
          settled_still delimiters columns place left intakes
          (lines_with intakes (coming n (came ys))) (wanted_settled left intakes i wants)
          ∙ (ap (still_at delimiters columns place) (same ys)
          ∙ (w.splits (coming n ys) (over_coming n s1 shut ys is h)
          ∙ (ap (λ (m : ℕ). made ++ still_at delimiters columns place'
          (lines_with s2 (coming m ys))) (sym all)
          ∙ ap (λ (x : List ℕ). made ++ x)
          (sym (settled_still delimiters columns place' left' s2
          (lines_with s2 (coming (length s2) ys)) settled)))));
      counts = λ ys h. omega arith;
    }

came_by : (b : Bool) (n i j : ℕ) (piece : List ℕ) (intakes : List Left) (ys : ℕ → List ℕ)
    → eqb j i ≡ b → i < n → i < length intakes
    → lines ((intake intakes j).left ++ cond (ltb j n) (cond b (piece ++ ys j) (ys j)) [])
    ≡ lines
    ((intake (set intakes i (record (intake intakes i) { left = (intake intakes i).left ++ piece }))
    j).left ++ cond (ltb j n) (ys j) [])
came_by true n i j piece intakes ys e low within =
    let is : j ≡ i = eqb-true j i e in
    let s : Left = record (intake intakes i) { left = (intake intakes i).left ++ piece } in
    let t : ltb i n ≡ true = lt-ltb i n low in
    ap (λ (k : ℕ). lines ((intake intakes k).left ++ cond (ltb k n) (piece ++ ys k) [])) is
    ∙ (ap (λ (b : Bool). lines ((intake intakes i).left ++ cond b (piece ++ ys i) [])) t
    ∙ (ap lines (sym (append_assoc (intake intakes i).left piece (ys i)))
    ∙ (ap (λ (u : Left). lines (u.left ++ ys i)) (sym (get_or-set_same intakes i s over within))
    ∙ (ap (λ (b : Bool). lines ((intake (set intakes i s) i).left ++ cond b (ys i) [])) (sym t)
    ∙ ap (λ (k : ℕ). lines ((intake (set intakes i s) k).left ++ cond (ltb k n) (ys k) []))
    (sym is)))))
came_by false n i j piece intakes ys e low within =
    let s : Left = record (intake intakes i) { left = (intake intakes i).left ++ piece } in
    let apart : j ≢ i = λ k. let t : eqb j i ≡ true = eq-eqb j i k in cc in
    ap (λ (u : Left). lines (u.left ++ cond (ltb j n) (ys j) []))
    (sym (get_or-set_other intakes i j s over apart))

-- a piece of the input that is wanted
pub table_feeds : (delimiters : List (Option ℕ)) (columns : List ℕ) (intakes s2 : List Left)
    (s : Left) (place place' : Place) (i : ℕ) (piece made : List ℕ) (out out' : Queued)
    → column_wanted (drop place.column columns) intakes ≡ Take i
    → s ≡ record (intake intakes i) { left = (intake intakes i).left ++ piece }
    → WritesCells delimiters columns (set intakes i s) s2 place place' [] made
    → IsSettled (drop place'.column columns) s2 → contents out' ≡ contents out ++ made
    → Feeds i piece (pasting delimiters columns intakes place)
    (pasting delimiters columns s2 place') out out'
table_feeds delimiters columns intakes s2 s place place' i piece made out out' wants e w settled
    added =
    let within : i < length intakes = open_within intakes i
    (column_open (drop place.column columns) intakes i wants) in
    table_goes_on delimiters columns intakes (set intakes i s) s2 place place' i made
    (pasting delimiters columns intakes place).closed (before i piece) out out' wants
    (length-set intakes i s)
    (λ j. ap (λ (b : Bool). ltb j (length intakes) && b)
    (seen_same (λ (t : Left). t.closed) intakes i j s within (ap (λ (t : Left). t.closed) e)))
    (λ ys. fun_ext (λ j.
    came_by (eqb j i) (length intakes) i j piece intakes ys refl within within
    ∙ ap (λ (t : Left). lines ((intake (set intakes i t) j).left ++ coming (length intakes) ys j))
    (sym e)))
    w settled added

shut_by : (b : Bool) (i j : ℕ) (intakes : List Left) (s : Left) → eqb j i ≡ b → i < length intakes
    → s.closed ≡ true → (ltb j (length intakes) && (intake (set intakes i s) j).closed)
    ≡ (b || (ltb j (length intakes) && (intake intakes j).closed))
shut_by true i j intakes s e within h =
    let is : j ≡ i = eqb-true j i e in
    ap (λ (k : ℕ). ltb k (length intakes) && (intake (set intakes i s) k).closed) is
    ∙ (ap (λ (b : Bool). b && (intake (set intakes i s) i).closed)
    (lt-ltb i (length intakes) within)
    ∙ (ap (λ (t : Left). t.closed) (get_or-set_same intakes i s over within) ∙ h))
shut_by false i j intakes s e within h =
    let apart : j ≢ i = λ k. let t : eqb j i ≡ true = eq-eqb j i k in cc in
    ap (λ (t : Left). ltb j (length intakes) && t.closed)
    (get_or-set_other intakes i j s over apart)

-- the end of the input that is wanted
pub table_closes : (delimiters : List (Option ℕ)) (columns : List ℕ) (intakes s2 : List Left)
    (s : Left) (place place' : Place) (i : ℕ) (made : List ℕ) (out out' : Queued)
    → column_wanted (drop place.column columns) intakes ≡ Take i
    → s ≡ record (intake intakes i) { closed = true }
    → WritesCells delimiters columns (set intakes i s) s2 place place' [] made
    → IsSettled (drop place'.column columns) s2 → contents out' ≡ contents out ++ made
    → Closes i (pasting delimiters columns intakes place)
    (pasting delimiters columns s2 place') out out'
table_closes delimiters columns intakes s2 s place place' i made out out' wants e w settled added =
    let within : i < length intakes = open_within intakes i
    (column_open (drop place.column columns) intakes i wants) in
    table_goes_on delimiters columns intakes (set intakes i s) s2 place place' i made
    (with_closed i (pasting delimiters columns intakes place).closed) (λ ys. ys) out out' wants
    (length-set intakes i s)
    (λ j. shut_by (eqb j i) i j intakes s refl within (ap (λ (t : Left). t.closed) e))
    (λ ys. fun_ext (λ j. ap (λ (x : List ℕ). lines (x ++ coming (length intakes) ys j))
    (sym (seen_same (λ (t : Left). t.left) intakes i j s within
    (ap (λ (t : Left). t.left) e)))))
    w settled added

-- what a call wrote, whose arguments are these
pub written_as : (delimiters ds : List (Option ℕ)) (columns cs : List ℕ) (s s1 s2 : List Left)
    (place place' : Place) (m m' : List ℕ) → delimiters ≡ ds → columns ≡ cs → s ≡ s1 → m ≡ []
    → WritesCells delimiters columns s s2 place place' m m'
    → WritesCells ds cs s1 s2 place place' [] m'
written_as delimiters ds columns cs s s1 s2 place place' m m' d c e none w =
    subst (λ (x : List (Option ℕ)). WritesCells x cs s1 s2 place place' [] m') d
    (subst (λ (x : List ℕ). WritesCells delimiters x s1 s2 place place' [] m') c
    (subst (λ (x : List Left). WritesCells delimiters columns x s2 place place' [] m') e
    (subst (λ (x : List ℕ). WritesCells delimiters columns s s2 place place' x m') none w)))

pub settled_as : (columns cs : List ℕ) (intakes : List Left) (k : ℕ) → columns ≡ cs
    → IsSettled (drop k columns) intakes → IsSettled (drop k cs) intakes
settled_as columns cs intakes k e h = subst (λ (x : List ℕ). IsSettled (drop k x) intakes) e h
