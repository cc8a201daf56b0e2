-- Lines that are taken of what came of an input.
use Rattle.std.proofs.Common.{◌≡◌, ℕ, ◌+◌, ◌-◌, ◌<◌, ◌≤◌, Bool, true, false, cond, eqb, leb, List}
use Rattle.std.proofs.Common.{[], ◌∷◌, ◌++◌, length, take, drop, refl, ap, ◌∙◌, sym, arith}
use Rattle.std.proofs.Common.{append_assoc}
use Rattle.std.specs.Prelude.{IsTrue}
use Rattle.std.specs.List.{onto_first}
use Rattle.std.proofs.lemmas.Bool.{leb-true, le-leb}
use Rattle.std.proofs.lemmas.List.{append-nil, drop_all, length-drop}
use Rattle.std.proofs.lemmas.List.Elements.{All-head, All-tail}
use Rattle.machine.specs.Lines.{lines, led, content, newline, HasNoNewline}
use Rattle.machine.proofs.LinesLaws.{lines-open, lines-whole, content-whole}
use Rattle.machine.specs.inner.Places.{FirstFrom}
use Rattle.pair_filters.specs.Intakes.{PutsLine, first}

-- the first line from `at` on ends with the newline at k
pub first_line : (bytes zs : List ℕ) (at k : ℕ) → FirstFrom bytes newline at k
    → lines (drop at bytes ++ zs) ≡ (take (k - at) (drop at bytes) ++ newline ∷ []) ∷ lines
    (drop (k + 1) bytes ++ zs)
first_line bytes zs at k f =
    let front = take (k - at) (drop at bytes) in
    let after = drop (k + 1) bytes in
    ap (λ (x : List ℕ). lines (x ++ zs)) (f.here ∙ sym (append_assoc front (newline ∷ []) after))
    ∙ (ap lines (append_assoc (front ++ newline ∷ []) after zs)
    ∙ lines-whole (front ++ newline ∷ []) (after ++ zs) (front, f.none_before, refl))

content-cons : (x : ℕ) (xs : List ℕ) → eqb x newline ≡ false → content (x ∷ xs) ≡ x ∷ content xs
content-cons x [] h = ap (λ (b : Bool). cond b [] (x ∷ [])) h
content-cons x (y ∷ ys) h = refl

-- the content of a line that begins with these bytes
pub content_plain : (xs ys : List ℕ) → HasNoNewline xs → content (xs ++ ys) ≡ xs ++ content ys
content_plain [] ys h = refl
content_plain (x ∷ xs) ys h =
    content-cons x (xs ++ ys) (All-head (λ x. eqb x newline ≡ false) x xs h)
    ∙ ap (λ (zs : List ℕ). x ∷ zs)
    (content_plain xs ys (All-tail (λ x. eqb x newline ≡ false) x xs h))

content_all : (xs : List ℕ) → HasNoNewline xs → content xs ≡ xs
content_all xs h = ap content (sym (append-nil xs)) ∙ (content_plain xs [] h ∙ append-nil xs)

pub led_first : (xs : List ℕ) (ls : List (List ℕ)) → HasNoNewline xs
    → content (first (led xs ls)) ≡ xs ++ content (first ls)
led_first [] ls h = refl
led_first (x ∷ xs) [] h = content_all (x ∷ xs) h ∙ sym (append-nil (x ∷ xs))
led_first (x ∷ xs) (l ∷ ls) h = content_plain (x ∷ xs) l h

pub led_later : (xs : List ℕ) (ls : List (List ℕ)) → drop 1 (led xs ls) ≡ drop 1 ls
led_later [] ls = refl
led_later (x ∷ xs) [] = refl
led_later (x ∷ xs) (l ∷ ls) = refl

onto_some : (x : ℕ) (ls : List (List ℕ)) → 1 ≤ length (onto_first x ls)
onto_some x [] = omega arith
onto_some x (l ∷ ls) = omega arith

some_by : (b : Bool) (x : ℕ) (ls : List (List ℕ))
    → 1 ≤ length (cond b ((x ∷ []) ∷ ls) (onto_first x ls))
some_by true x ls = omega arith
some_by false x ls = onto_some x ls

-- bytes have lines
pub lines_some : (xs zs : List ℕ) → (xs ≡ [] → ⊥) → 1 ≤ length (lines (xs ++ zs))
lines_some [] zs h = absurd (h refl)
lines_some (x ∷ xs) zs h = some_by (eqb x newline) x (lines (xs ++ zs))

pub nothing : {X : Type 0} (xs : List X) → length xs ≤ 0 → xs ≡ []
nothing [] h = refl
nothing (x ∷ xs) h = absurd (omega (arith, h))

pub something : {X : Type 0} (xs : List X) → (xs ≡ [] → ⊥) → 1 ≤ length xs
something [] h = absurd (h refl)
something (x ∷ xs) h = omega arith

-- a whole line was taken
pub line_put : (bytes : List ℕ) (closed : Bool) (at k : ℕ) (made made' : List ℕ)
    → FirstFrom bytes newline at k → made' ≡ made ++ take (k - at) (drop at bytes)
    → PutsLine (record { left = drop at bytes; closed = closed })
    (record { left = drop (k + 1) bytes; closed = closed }) true made made'
line_put bytes closed at k made made' f e =
    let less : length (drop (k + 1) bytes) < length (drop at bytes) =
    omega (arith, length-drop (k + 1) bytes, length-drop at bytes, f.after, f.within) in
    record {
      part = take (k - at) (drop at bytes);
      added = e;
      closed = refl;
      fewer = omega (arith, less);
      some = λ _. less;
      none = λ h. let long = ap length h in absurd (omega (arith, less, long));
      over = λ _ h. let long = ap length h in absurd (omega (arith, less, long));
      waits = λ h. absurd (cc);
      cell = λ _ zs _. ap (λ (ls : List (List ℕ)). content (first ls)) (first_line bytes zs at k f)
          ∙ content-whole (take (k - at) (drop at bytes));
      later = λ _ zs _. ap (drop 1) (first_line bytes zs at k f);
      cell_on = λ h. absurd (cc);
      later_on = λ h. absurd (cc);
      emptied = λ h. absurd (cc);
    }

-- no line ends in what is left
pub rest_put : (bytes : List ℕ) (closed : Bool) (at : ℕ) (made made' : List ℕ)
    → HasNoNewline (drop at bytes) → made' ≡ made ++ drop at bytes
    → PutsLine (record { left = drop at bytes; closed = closed })
    (record { left = []; closed = closed }) closed made made'
rest_put bytes closed at made made' plain e =
    let xs = drop at bytes in
    let is = λ (zs : List ℕ). lines-open xs zs plain in
    let over' = λ (zs : List ℕ) (nil : zs ≡ []). ap (λ (z : List ℕ). lines (xs ++ z)) nil ∙ is [] in
    record {
      part = xs;
      added = e;
      closed = refl;
      fewer = omega arith;
      some = λ h. something xs h;
      none = λ h. h;
      over = λ h _. h;
      waits = λ h. h;
      cell = λ h zs over. ap (λ (ls : List (List ℕ)). content (first ls)) (over' zs (over h))
          ∙ (led_first xs [] plain ∙ append-nil xs);
      later = λ h zs over. ap (drop 1) (over' zs (over h))
          ∙ (led_later xs [] ∙ ap lines (sym (over h)));
      cell_on = λ h zs. ap (λ (ls : List (List ℕ)). content (first ls)) (is zs)
          ∙ led_first xs (lines zs) plain;
      later_on = λ h zs. ap (drop 1) (is zs) ∙ led_later xs (lines zs);
      emptied = λ h. refl;
    }

-- whether nothing is left, by the place
pub nothing_left : (bytes : List ℕ) (at n : ℕ) (left : List ℕ) → drop at bytes ≡ left
    → n ≡ length bytes → (IsTrue (leb n at) → left ≡ []) × (left ≡ [] → IsTrue (leb n at))
nothing_left bytes at n left e all = (
  λ t. let high : n ≤ at = leb-true n at t in sym e ∙ drop_all at bytes (omega (arith, high, all)),
  λ none. let long = ap length (e ∙ none) in
      le-leb n at (omega (arith, long, all, length-drop at bytes)),
)
