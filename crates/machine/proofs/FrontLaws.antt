-- The first lines of bytes.
use Rattle.std.proofs.Common.{◌≡◌, ℕ, zero, suc, ◌+◌, ◌-◌, ◌<◌, ◌≤◌, Bool, true, false, cond, eqb}
use Rattle.std.proofs.Common.{List, [], ◌∷◌, ◌++◌, length, take, drop, refl, ap, ◌∙◌, sym, arith}
use Rattle.std.proofs.Common.{append_assoc}
use Rattle.std.specs.List.{concat, count_by, onto_first}
use Rattle.std.proofs.lemmas.List.{take-append-drop, take_all}
use Rattle.std.proofs.lemmas.List.Sums.{sum_by-cons}
use Rattle.std.proofs.Math.Seq.{take-add}
use Rattle.machine.specs.Lines.{lines, led, newline, HasNoNewline}
use Rattle.machine.proofs.LinesLaws.{lines-open, lines_other}
use Rattle.machine.specs.FrontLines.{first_lines, FrontLines}
use Rattle.machine.specs.inner.Places.{FirstFrom}
use Rattle.machine.proofs.PlaceLaws.{first_line, part_and_byte}

pub head_nil : (n : ℕ) → first_lines n [] ≡ []
head_nil zero = refl
head_nil (suc n) = refl

onto_front : (n x : ℕ) (ls : List (List ℕ))
    → concat (take (suc n) (onto_first x ls)) ≡ x ∷ concat (take (suc n) ls)
onto_front n x [] = ap (λ ys. x ∷ ys) (head_nil n)
onto_front n x (l ∷ ls) = refl

first_line_taken : (n : ℕ) (l : List ℕ) (ls : List (List ℕ)) → 0 < n
    → concat (take n (l ∷ ls)) ≡ l ++ concat (take (n - 1) ls)
first_line_taken n l ls h =
    let e : n ≡ suc (n - 1) = omega arith in
    ap (λ (k : ℕ). concat (take k (l ∷ ls))) e

-- with fewer newlines than lines that are left, all bytes are among them
front_by : (b : Bool) (x n : ℕ) (xs zs : List ℕ) → eqb x newline ≡ b
    → cond b 1 0 + count_by (λ x. eqb x newline) xs < n
    → ((m : ℕ) → count_by (λ x. eqb x newline) xs < m
    → first_lines m (xs ++ zs) ≡ xs ++ first_lines (m - count_by (λ x. eqb x newline) xs) zs)
    → first_lines n (x ∷ (xs ++ zs))
    ≡ x ∷ (xs ++ first_lines (n - (cond b 1 0 + count_by (λ x. eqb x newline) xs)) zs)
front_by true x n xs zs e h later =
    let few = count_by (λ x. eqb x newline) xs in
    let m : (n - 1) - few ≡ n - (1 + few) = omega arith in
    ap (λ (b : Bool). concat
    (take n (cond b ((x ∷ []) ∷ lines (xs ++ zs)) (onto_first x (lines (xs ++ zs)))))) e
    ∙ (first_line_taken n (x ∷ []) (lines (xs ++ zs)) (omega arith)
    ∙ ap (λ ys. x ∷ ys) (later (n - 1) (omega arith) ∙ ap (λ (k : ℕ). xs ++ first_lines k zs) m))
front_by false x n xs zs e h later =
    let few = count_by (λ x. eqb x newline) xs in
    let p : n ≡ suc (n - 1) = omega arith in
    let m : n - few ≡ n - (0 + few) = omega arith in
    ap (λ ls. concat (take n ls)) (lines_other x (xs ++ zs) e)
    ∙ (ap (λ (k : ℕ). concat (take k (onto_first x (lines (xs ++ zs))))) p
    ∙ (onto_front (n - 1) x (lines (xs ++ zs))
    ∙ ap (λ ys. x ∷ ys) (ap (λ (k : ℕ). concat (take k (lines (xs ++ zs)))) (sym p)
    ∙ (later n (omega arith) ∙ ap (λ (k : ℕ). xs ++ first_lines k zs) m))))

count-cons : (x : ℕ) (xs : List ℕ) → count_by (λ x. eqb x newline) (x ∷ xs)
    ≡ cond (eqb x newline) 1 0 + count_by (λ x. eqb x newline) xs
count-cons x xs = sum_by-cons (λ y. cond (eqb y newline) 1 0) x xs

few_newlines : (xs zs : List ℕ) (n : ℕ) → count_by (λ x. eqb x newline) xs < n
    → first_lines n (xs ++ zs) ≡ xs ++ first_lines (n - count_by (λ x. eqb x newline) xs) zs
few_newlines [] zs n h = let e : n ≡ n - 0 = omega arith in ap (λ (k : ℕ). first_lines k zs) e
few_newlines (x ∷ xs) zs n h =
    let e = count-cons x xs in
    front_by (eqb x newline) x n xs zs refl (omega (arith, h, e))
    (λ m low. few_newlines xs zs m low)
    ∙ ap (λ (k : ℕ). x ∷ (xs ++ first_lines (n - k) zs)) (sym e)

pub front_all : (bytes : List ℕ) (n whole : ℕ) → whole ≡ count_by (λ x. eqb x newline) bytes
    → whole < n → FrontLines bytes n (length bytes) (n - whole)
front_all bytes n whole e h =
    record {
      within = omega arith;
      splits = λ zs.
          few_newlines bytes zs n (omega (arith, e, h))
          ∙ (ap (λ (k : ℕ). bytes ++ first_lines (n - k) zs) (sym e)
          ∙ ap (λ (x : List ℕ). x ++ first_lines (n - whole) zs)
          (sym (take_all (length bytes) bytes (omega arith))));
      all = λ _. refl;
    }

-- the bytes before `at` are of the first lines, and this many lines are left
pub record Fronted (bytes : List ℕ) (n at left : ℕ) : Type 0 where
  pub within : at ≤ length bytes
  pub splits : (zs : List ℕ) → first_lines n (bytes ++ zs)
      ≡ take at bytes ++ first_lines left (drop at bytes ++ zs)

pub fronted_none : (bytes : List ℕ) (n : ℕ) → Fronted bytes n 0 n
fronted_none bytes n = record { within = omega arith; splits = λ zs. refl }

take_on : (a b : ℕ) (xs : List ℕ) → a ≤ b → take a xs ++ take (b - a) (drop a xs) ≡ take b xs
take_on a b xs h =
    let e : a + (b - a) ≡ b = omega arith in
    sym (take-add a (b - a) xs) ∙ ap (λ (k : ℕ). take k xs) e

pub fronted_more : (bytes : List ℕ) (n at left end : ℕ) → Fronted bytes n at left
    → FirstFrom bytes newline at end → 0 < left → Fronted bytes n (end + 1) (left - 1)
fronted_more bytes n at left end f e some =
    let line = take (end - at) (drop at bytes) ++ newline ∷ [] in
    let joined : take at bytes ++ line ≡ take (end + 1) bytes =
    ap (λ (x : List ℕ). take at bytes ++ x) (sym (part_and_byte bytes newline at end e))
    ∙ take_on at (end + 1) bytes (omega (arith, e.after)) in
    record {
      within = omega (arith, e.within);
      splits = λ zs.
          let later = first_lines (left - 1) (drop (end + 1) bytes ++ zs) in
          f.splits zs
          ∙ (ap (λ (ls : List (List ℕ)). take at bytes ++ concat (take left ls))
          (first_line [] bytes zs at end e)
          ∙ (ap (λ (x : List ℕ). take at bytes ++ x)
          (first_line_taken left line (lines (drop (end + 1) bytes ++ zs)) some)
          ∙ (sym (append_assoc (take at bytes) line later)
          ∙ ap (λ (x : List ℕ). x ++ later) joined)));
    }

led_front : (n : ℕ) (xs : List ℕ) (ls : List (List ℕ))
    → concat (take (suc n) (led xs ls)) ≡ xs ++ concat (take (suc n) ls)
led_front n [] ls = refl
led_front n (x ∷ xs) [] = ap (λ (y : List ℕ). (x ∷ xs) ++ y) (head_nil n)
led_front n (x ∷ xs) (l ∷ ls) = append_assoc (x ∷ xs) l (concat (take n ls))

led_front_of : (n : ℕ) (xs : List ℕ) (ls : List (List ℕ)) → 0 < n
    → concat (take n (led xs ls)) ≡ xs ++ concat (take n ls)
led_front_of n xs ls h =
    let e : n ≡ suc (n - 1) = omega arith in
    ap (λ (k : ℕ). concat (take k (led xs ls))) e
    ∙ (led_front (n - 1) xs ls ∙ ap (λ (k : ℕ). xs ++ concat (take k ls)) (sym e))

-- no line ends in what is left
pub fronted_open : (bytes : List ℕ) (n at left : ℕ) → Fronted bytes n at left
    → HasNoNewline (drop at bytes) → 0 < left → FrontLines bytes n (length bytes) left
fronted_open bytes n at left f none some =
    record {
      within = omega arith;
      splits = λ zs.
          let later = first_lines left zs in
          f.splits zs
          ∙ (ap (λ (ls : List (List ℕ)). take at bytes ++ concat (take left ls))
          (lines-open (drop at bytes) zs none)
          ∙ (ap (λ (x : List ℕ). take at bytes ++ x)
          (led_front_of left (drop at bytes) (lines zs) some)
          ∙ (sym (append_assoc (take at bytes) (drop at bytes) later)
          ∙ (ap (λ (x : List ℕ). x ++ later) (take-append-drop at bytes)
          ∙ ap (λ (x : List ℕ). x ++ later)
          (sym (take_all (length bytes) bytes (omega arith)))))));
      all = λ _. refl;
    }

pub fronted_all : (bytes : List ℕ) (n at left : ℕ) → Fronted bytes n at left → left ≤ 0
    → FrontLines bytes n at left
fronted_all bytes n at left f none =
    let e : left ≡ 0 = omega arith in
    record {
      within = f.within;
      splits = λ zs. f.splits zs
          ∙ (ap (λ (k : ℕ). take at bytes ++ first_lines k (drop at bytes ++ zs)) e
          ∙ ap (λ (k : ℕ). take at bytes ++ first_lines k zs) (sym e));
      all = λ some. absurd (omega arith);
    }

-- ---- the first lines of a stream

first_ends : (n x : ℕ) (xs : List ℕ) → eqb x newline ≡ true
    → first_lines (suc n) (x ∷ xs) ≡ x ∷ first_lines n xs
first_ends n x xs e = ap
    (λ (b : Bool). concat (take (suc n) (cond b ((x ∷ []) ∷ lines xs) (onto_first x (lines xs))))) e

first_goes_on : (n x : ℕ) (xs : List ℕ) → eqb x newline ≡ false
    → first_lines (suc n) (x ∷ xs) ≡ x ∷ first_lines (suc n) xs
first_goes_on n x xs e =
    ap
    (λ (b : Bool). concat (take (suc n) (cond b ((x ∷ []) ∷ lines xs) (onto_first x (lines xs)))))
    e
    ∙ onto_front n x (lines xs)

again_by : (b : Bool) (n x : ℕ) (xs : List ℕ) → eqb x newline ≡ b
    → first_lines n (first_lines n xs) ≡ first_lines n xs
    → first_lines (suc n) (first_lines (suc n) xs) ≡ first_lines (suc n) xs
    → first_lines (suc n) (first_lines (suc n) (x ∷ xs)) ≡ first_lines (suc n) (x ∷ xs)
again_by true n x xs e ended on =
    ap (first_lines (suc n)) (first_ends n x xs e)
    ∙ (first_ends n x (first_lines n xs) e
    ∙ (ap (λ (ys : List ℕ). x ∷ ys) ended ∙ sym (first_ends n x xs e)))
again_by false n x xs e ended on =
    ap (first_lines (suc n)) (first_goes_on n x xs e)
    ∙ (first_goes_on n x (first_lines (suc n) xs) e
    ∙ (ap (λ (ys : List ℕ). x ∷ ys) on ∙ sym (first_goes_on n x xs e)))

-- the first lines of the first lines are these
pub first_again : (n : ℕ) (xs : List ℕ) → first_lines n (first_lines n xs) ≡ first_lines n xs
first_again zero xs = refl
first_again (suc n) [] = refl
first_again (suc n) (x ∷ xs) =
    again_by (eqb x newline) n x xs refl (first_again n xs) (first_again (suc n) xs)

fits_by : (b : Bool) (n x : ℕ) (xs : List ℕ) → eqb x newline ≡ b
    → length (first_lines n xs) ≤ length xs → length (first_lines (suc n) xs) ≤ length xs
    → length (first_lines (suc n) (x ∷ xs)) ≤ length (x ∷ xs)
fits_by true n x xs e ended on = omega (arith, ap length (first_ends n x xs e), ended)
fits_by false n x xs e ended on = omega (arith, ap length (first_goes_on n x xs e), on)

-- they are no longer
pub first_fits : (n : ℕ) (xs : List ℕ) → length (first_lines n xs) ≤ length xs
first_fits zero xs = omega arith
first_fits (suc n) [] = omega arith
first_fits (suc n) (x ∷ xs) =
    fits_by (eqb x newline) n x xs refl (first_fits n xs) (first_fits (suc n) xs)
