-- A table is its first row, and the table of the lines after it.
use Rattle.std.proofs.Common.{◌≡◌, ℕ, zero, suc, ◌+◌, ◌-◌, ◌*◌, ◌≤◌, ◌/◌, ◌%◌, Bool, true, false}
use Rattle.std.proofs.Common.{cond, not, eqb, max, List, [], ◌∷◌, ◌++◌, Option, length, get_or}
use Rattle.std.proofs.Common.{take, drop, map, refl, ap, ◌∙◌, sym, subst, arith, append_assoc, inl}
use Rattle.std.proofs.Common.{inr}
use Rattle.std.specs.Prelude.{◌||◌, ◌⊎◌}
use Rattle.std.specs.Int.{div_ceil}
use Rattle.std.specs.List.{All, flat_map, fold, enumerate_from, range_with_len}
use Rattle.std.proofs.lemmas.Bool.{eq-eqb, eqb-true, cases_lt}
use Rattle.std.proofs.lemmas.Bool.Decides.{nat_tests}
use Rattle.std.proofs.lemmas.Grind.{div_ceil_times}
use Rattle.std.proofs.lemmas.List.{take_at, drop-drop, get_or-drop, length-drop, length-append}
use Rattle.std.proofs.lemmas.List.Elements.{All-head, All-tail, All-cons, All-nil}
use Rattle.std.proofs.lemmas.List.Sums.{sum_by-cons, sum_by-append}
use Rattle.std.proofs.Math.Nat.{zero-div, zero-mod, add-div_left, add-mod_left, div-eq_of_lt}
use Rattle.machine.specs.Lines.{content, newline}
use Rattle.machine.proofs.MakesLaws.{fun_ext}
use Rattle.commands.specs.Delimiters.{row, joined_from}
use Rattle.pair_filters.specs.Intakes.{first}
use Rattle.commands.specs.Paste.{Lines, places, cell, rows_of, rows, table_row, table}
use Rattle.pair_filters.specs.TableRows.{without, cells, behind_row, have_line, row_on}
use Rattle.pair_filters.specs.TableRows.{still_written}

pub places-cons : (x : ℕ) (columns : List ℕ) (i : ℕ)
    → places (x ∷ columns) i ≡ cond (eqb x i) 1 0 + places columns i
places-cons x columns i = sum_by-cons (λ y. cond (eqb y i) 1 0) x columns

pub places-append : (xs ys : List ℕ) (i : ℕ) → places (xs ++ ys) i ≡ places xs i + places ys i
places-append xs ys i = sum_by-append (λ y. cond (eqb y i) 1 0) xs ys

drop_by : (b : Bool) (n : ℕ) (ls : List (List ℕ))
    → drop n (cond b (drop 1 ls) ls) ≡ drop (cond b 1 0 + n) ls
drop_by true n ls = drop-drop n 1 ls
drop_by false n ls = let e : n ≡ 0 + n = omega arith in ap (λ (k : ℕ). drop k ls) e

-- each column of an input takes one line of it
pub behind_row_is : (columns : List ℕ) (lines : Lines) (i : ℕ)
    → behind_row columns lines i ≡ drop (places columns i) (lines i)
behind_row_is [] lines i = refl
behind_row_is (x ∷ columns) lines i =
    behind_row_is columns (without x lines) i
    ∙ (drop_by (eqb x i) (places columns i) (lines i)
    ∙ ap (λ (k : ℕ). drop k (lines i)) (sym (places-cons x columns i)))

behind_row-append : (xs ys : List ℕ) (lines : Lines)
    → behind_row (xs ++ ys) lines ≡ behind_row ys (behind_row xs lines)
behind_row-append [] ys lines = refl
behind_row-append (x ∷ xs) ys lines = behind_row-append xs ys (without x lines)

-- the cell of a column, after the columns before it
cell_here : (front columns : List ℕ) (x : ℕ) (lines : Lines)
    → get_or (lines x) (places (take (length front) (front ++ x ∷ columns)) x) []
    ≡ first (behind_row front lines x)
cell_here front columns x lines =
    let e : places front x ≡ places front x + 0 = omega arith in
    ap (λ (xs : List ℕ). get_or (lines x) (places xs x) [])
    (take_at front (x ∷ columns) (length front) refl)
    ∙ (ap (λ (k : ℕ). get_or (lines x) k []) e
    ∙ (sym (get_or-drop (places front x) (lines x) 0 [])
    ∙ ap first (sym (behind_row_is front lines x))))

cells_behind : (front columns : List ℕ) (lines : Lines)
    → map
    (λ (p : ℕ × ℕ). content (get_or (lines p.1) (places (take p.0 (front ++ columns)) p.1) []))
    (enumerate_from (length front) columns) ≡ cells columns (behind_row front lines)
cells_behind front [] lines = refl
cells_behind front (x ∷ columns) lines =
    let more : front ++ x ∷ columns ≡ (front ++ x ∷ []) ++ columns =
    sym (append_assoc front (x ∷ []) columns) in
    let long : length front + 1 ≡ length (front ++ x ∷ []) = sym (length-append front (x ∷ [])) in
    let later = λ (all : List ℕ) (k : ℕ). map
    (λ (p : ℕ × ℕ). content (get_or (lines p.1) (places (take p.0 all) p.1) []))
    (enumerate_from k columns) in
    ap (λ (y : List ℕ). content y ∷ later (front ++ x ∷ columns) (length front + 1))
    (cell_here front columns x lines)
    ∙ ap (λ (ys : List (List ℕ)). content (first (behind_row front lines x)) ∷ ys)
    (ap (λ (all : List ℕ). later all (length front + 1)) more
    ∙ (ap (later ((front ++ x ∷ []) ++ columns)) long
    ∙ (cells_behind (front ++ x ∷ []) columns lines
    ∙ ap (cells columns) (behind_row-append front (x ∷ []) lines))))

-- the cells of the first row
pub first_cells : (columns : List ℕ) (lines : Lines)
    → map (cell columns lines 0) (enumerate_from 0 columns) ≡ cells columns lines
first_cells columns lines =
    ap (λ (f : ℕ × ℕ → List ℕ). map f (enumerate_from 0 columns))
    (fun_ext (λ (p : ℕ × ℕ).
    let j = places (take p.0 columns) p.1 in
    let e : 0 * places columns p.1 + j ≡ j = omega arith in
    ap (λ (k : ℕ). content (get_or (lines p.1) k [])) e))
    ∙ cells_behind [] columns lines

-- a cell of a later row
cell_later : (columns : List ℕ) (lines : Lines) (r : ℕ) (p : ℕ × ℕ)
    → cell columns lines (r + 1) p ≡ cell columns (behind_row columns lines) r p
cell_later columns lines r p =
    let k = places columns p.1 in
    let j = places (take p.0 columns) p.1 in
    let e : (r + 1) * k + j ≡ k + (r * k + j) = omega arith in
    ap (λ (n : ℕ). content (get_or (lines p.1) n [])) e
    ∙ ap content (sym (get_or-drop k (lines p.1) (r * k + j) [])
    ∙ ap (λ (ls : List (List ℕ)). get_or ls (r * k + j) [])
    (sym (behind_row_is columns lines p.1)))

-- how many rows there are
ceil_none : (k : ℕ) → div_ceil 0 k ≡ 0
ceil_none k = let d = zero-div k in let m = zero-mod k in omega (arith, d, m)

ceil_some : (n k : ℕ) → 1 ≤ k → 1 ≤ n → 1 ≤ div_ceil n k
ceil_some n k some h =
    elim (cases_lt 0 (div_ceil n k)) [
      | inl low ↦ low
      | inr none ↦
          let e : div_ceil n k ≡ 0 = omega arith in
          let bound : n ≤ div_ceil n k * k = (div_ceil_times n k some).0 in
          let nothing : n ≤ 0 * k = subst (λ (q : ℕ). n ≤ q * k) e bound in
          absurd (omega (arith, nothing, h))
    ]

ceil_less : (n k : ℕ) → 1 ≤ k → div_ceil (n - k) k ≡ div_ceil n k - 1
ceil_less n k some =
    elim (cases_lt n k) [
      | inl low ↦
          let none : n - k ≡ 0 = omega arith in
          let d : n / k ≡ 0 = div-eq_of_lt low in
          ap (λ (m : ℕ). div_ceil m k) none ∙ (ceil_none k ∙ omega (arith, d))
      | inr high ↦
          let e : n ≡ k + (n - k) = omega arith in
          let d : n / k ≡ (n - k) / k + 1 = ap (λ (m : ℕ). m / k) e ∙ add-div_left (n - k) some in
          let m : n % k ≡ (n - k) % k = ap (λ (m : ℕ). m % k) e ∙ add-mod_left k (n - k) in
          omega (arith, d, m)
    ]

-- each column is one of the columns
all_places : (front columns : List ℕ) → All (λ i. 1 ≤ places (front ++ columns) i) columns
all_places front [] = All-nil (λ i. 1 ≤ places (front ++ []) i)
all_places front (x ∷ columns) =
    let more : (front ++ x ∷ []) ++ columns ≡ front ++ x ∷ columns =
    append_assoc front (x ∷ []) columns in
    let split = places-append front (x ∷ columns) x in
    let here : places (x ∷ columns) x ≡ 1 + places columns x = places-cons x columns x
    ∙ ap (λ (b : Bool). cond b 1 0 + places columns x) (eq-eqb x x refl) in
    All-cons (λ i. 1 ≤ places (front ++ x ∷ columns) i) x columns (omega (arith, split, here))
    (subst (λ (all : List ℕ). All (λ i. 1 ≤ places all i) columns) more
    (all_places (front ++ x ∷ []) columns))

most_less : (f g k : ℕ → ℕ) (columns : List ℕ) (a : ℕ) → ((i : ℕ) → 1 ≤ k i → g i ≡ f i - 1)
    → All (λ i. 1 ≤ k i) columns → fold (λ n i. max n (g i)) (a - 1) columns
    ≡ fold (λ n i. max n (f i)) a columns - 1
most_less f g k [] a less some = refl
most_less f g k (x ∷ columns) a less some =
    let e : g x ≡ f x - 1 = less x (All-head (λ i. 1 ≤ k i) x columns some) in
    let m : max (a - 1) (g x) ≡ max a (f x) - 1 = omega (arith, e) in
    ap (λ (b : ℕ). fold (λ n i. max n (g i)) b columns) m
    ∙ most_less f g k columns (max a (f x)) less (All-tail (λ i. 1 ≤ k i) x columns some)

rows_less : (columns : List ℕ) (lines : Lines)
    → rows columns (behind_row columns lines) ≡ rows columns lines - 1
rows_less columns lines =
    most_less (rows_of columns lines) (rows_of columns (behind_row columns lines))
    (places columns) columns 0
    (λ i some.
    let k = places columns i in
    ap (λ (ls : List (List ℕ)). div_ceil (length ls) k) (behind_row_is columns lines i)
    ∙ (ap (λ (n : ℕ). div_ceil n k) (length-drop k (lines i))
    ∙ ceil_less (length (lines i)) k some))
    (all_places [] columns)

most_reached : (f : ℕ → ℕ) (columns : List ℕ) (a : ℕ) → a ≤ fold (λ n i. max n (f i)) a columns
most_reached f [] a = omega arith
most_reached f (x ∷ columns) a = let h = most_reached f columns (max a (f x)) in omega (arith, h)

has_by : (b : Bool) (rest : Bool) → (not b || rest) ≡ true → (b ≡ false) ⊎ (rest ≡ true)
has_by true rest h = inr h
has_by false rest h = inl refl

none_by : (b : Bool) (rest : Bool) → (not b || rest) ≡ false → (b ≡ true) × (rest ≡ false)
none_by true rest h = (refl, h)
none_by false rest h = absurd (cc)

most_some : (lines : Lines) (f k : ℕ → ℕ) (columns : List ℕ) (a : ℕ)
    → ((i : ℕ) → 1 ≤ k i → 1 ≤ length (lines i) → 1 ≤ f i) → All (λ i. 1 ≤ k i) columns
    → have_line columns lines ≡ true → 1 ≤ fold (λ n i. max n (f i)) a columns
most_some lines f k [] a one some h = absurd (cc)
most_some lines f k (x ∷ columns) a one some h =
    elim (has_by (eqb (length (lines x)) 0) (have_line columns lines) h) [
      | inl here ↦
          let long : 1 ≤ length (lines x) = grind (arith, nat_tests) in
          let first' : 1 ≤ f x = one x (All-head (λ i. 1 ≤ k i) x columns some) long in
          let reach = most_reached f columns (max a (f x)) in omega (arith, first', reach)
      | inr later ↦ most_some lines f k columns (max a (f x)) one
          (All-tail (λ i. 1 ≤ k i) x columns some) later
    ]

most_none : (lines : Lines) (f : ℕ → ℕ) (columns : List ℕ) (a : ℕ)
    → ((i : ℕ) → length (lines i) ≡ 0 → f i ≡ 0) → have_line columns lines ≡ false
    → fold (λ n i. max n (f i)) a columns ≡ a
most_none lines f [] a zero' h = refl
most_none lines f (x ∷ columns) a zero' h =
    let parts = none_by (eqb (length (lines x)) 0) (have_line columns lines) h in
    let none : f x ≡ 0 = zero' x (eqb-true (length (lines x)) 0 (parts.0)) in
    let e : max a (f x) ≡ a = omega (arith, none) in
    ap (λ (b : ℕ). fold (λ n i. max n (f i)) b columns) e
    ∙ most_none lines f columns a zero' (parts.1)

rows_some : (columns : List ℕ) (lines : Lines) → have_line columns lines ≡ true
    → 1 ≤ rows columns lines
rows_some columns lines h =
    most_some lines (rows_of columns lines) (places columns) columns 0
    (λ i some long. ceil_some (length (lines i)) (places columns i) some long)
    (all_places [] columns) h

rows_none : (columns : List ℕ) (lines : Lines) → have_line columns lines ≡ false
    → rows columns lines ≡ 0
rows_none columns lines h =
    most_none lines (rows_of columns lines) columns 0
    (λ i none. ap (λ (n : ℕ). div_ceil n (places columns i)) none
    ∙ ceil_none (places columns i)) h

shift : (f : ℕ → List ℕ) (a n : ℕ) → flat_map f (range_with_len (a + 1) n)
    ≡ flat_map (λ (r : ℕ). f (r + 1)) (range_with_len a n)
shift f a zero = refl
shift f a (suc n) = ap (λ (x : List ℕ). f (a + 1) ++ x) (shift f (a + 1) n)

row_first : (delimiters : List (Option ℕ)) (columns : List ℕ) (lines : Lines)
    → table_row delimiters columns lines 0 ≡ row delimiters (cells columns lines)
row_first delimiters columns lines = ap (row delimiters) (first_cells columns lines)

row_later : (delimiters : List (Option ℕ)) (columns : List ℕ) (lines : Lines) (r : ℕ)
    → table_row delimiters columns lines (r + 1) ≡ table_row delimiters columns
    (behind_row columns lines) r
row_later delimiters columns lines r =
    ap (λ (f : ℕ × ℕ → List ℕ). row delimiters (map f (enumerate_from 0 columns)))
    (fun_ext (λ (p : ℕ × ℕ). cell_later columns lines r p))

-- if a column has a line there is a first row
pub table_some : (delimiters : List (Option ℕ)) (columns : List ℕ) (lines : Lines)
    → have_line columns lines ≡ true → table delimiters columns lines
    ≡ row_on delimiters columns 0 columns lines
table_some delimiters columns lines h =
    let later = behind_row columns lines in
    let some : 1 ≤ rows columns lines = rows_some columns lines h in
    let less : rows columns later ≡ rows columns lines - 1 = rows_less columns lines in
    let e : rows columns lines ≡ suc (rows columns later) = omega (arith, some, less) in
    let f = table_row delimiters columns lines in
    ap (λ (n : ℕ). flat_map f (range_with_len 0 n)) e
    ∙ (ap (λ (x : List ℕ). f 0 ++ x)
    (shift f 0 (rows columns later)
    ∙ ap (λ (g : ℕ → List ℕ). flat_map g (range_with_len 0 (rows columns later)))
    (fun_ext (λ (r : ℕ). row_later delimiters columns lines r)))
    ∙ (ap (λ (x : List ℕ). x ++ table delimiters columns later) (row_first delimiters columns lines)
    ∙ append_assoc (joined_from delimiters 0 (cells columns lines)) (newline ∷ [])
    (table delimiters columns later)))

-- and otherwise no row
pub table_none : (delimiters : List (Option ℕ)) (columns : List ℕ) (lines : Lines)
    → have_line columns lines ≡ false → table delimiters columns lines ≡ []
table_none delimiters columns lines h =
    ap (λ (n : ℕ). flat_map (table_row delimiters columns lines) (range_with_len 0 n))
    (rows_none columns lines h)

table_by : (b : Bool) (delimiters : List (Option ℕ)) (columns : List ℕ) (lines : Lines)
    → have_line columns lines ≡ b → table delimiters columns lines
    ≡ cond b (row_on delimiters columns 0 columns lines) []
table_by true delimiters columns lines h = table_some delimiters columns lines h
table_by false delimiters columns lines h = table_none delimiters columns lines h

-- at the beginning of a row before anything of it is written the whole table is still to be written
pub table_still : (delimiters : List (Option ℕ)) (columns : List ℕ) (lines : Lines)
    → table delimiters columns lines ≡ still_written delimiters columns 0 false columns lines
table_still delimiters [] lines = refl
table_still delimiters (x ∷ columns) lines =
    table_by (have_line (x ∷ columns) lines) delimiters (x ∷ columns) lines refl
