-- The laws of lines.
use Rattle.std.proofs.Common.{◌≡◌, ℕ, ◌≤◌, Bool, true, false, cond, eqb, List, [], ◌∷◌, ◌++◌}
use Rattle.std.proofs.Common.{length, refl, ap, ◌∙◌, sym, arith, append_assoc, inl, inr}
use Rattle.std.specs.Prelude.{◌⊎◌}
use Rattle.std.specs.List.{All, concat, onto_first}
use Rattle.std.proofs.lemmas.List.{append-nil}
use Rattle.std.proofs.lemmas.Bool.{eqb-true}
use Rattle.std.proofs.lemmas.List.Elements.{All-head, All-tail, All-cons, All-nil}
use Rattle.machine.specs.Lines.{newline, lines, led, content, HasNoNewline, IsLine}
use Rattle.machine.specs.Lines.{IsIncompleteLine, AreLines, AreLinesOf}

pub lines_other : (x : ℕ) (xs : List ℕ) → eqb x newline ≡ false
    → lines (x ∷ xs) ≡ onto_first x (lines xs)
lines_other x xs h = ap (λ (b : Bool). cond b ((x ∷ []) ∷ lines xs) (onto_first x (lines xs))) h

onto_led : (x : ℕ) (xs : List ℕ) (ls : List (List ℕ)) → onto_first x (led xs ls) ≡ led (x ∷ xs) ls
onto_led x [] [] = refl
onto_led x [] (l ∷ ls) = refl
onto_led x (y ∷ ys) [] = refl
onto_led x (y ∷ ys) (l ∷ ls) = refl

pub led-cons : (o l : List ℕ) (ls : List (List ℕ)) → led o (l ∷ ls) ≡ (o ++ l) ∷ ls
led-cons [] l ls = refl
led-cons (x ∷ xs) l ls = refl

pub led-led : (o xs : List ℕ) (ls : List (List ℕ)) → led o (led xs ls) ≡ led (o ++ xs) ls
led-led [] xs ls = refl
led-led (a ∷ as') [] ls = ap (λ (x : List ℕ). led x ls) (sym (append-nil (a ∷ as')))
led-led (a ∷ as') (b ∷ bs) [] = refl
led-led (a ∷ as') (b ∷ bs) (l ∷ ls) = ap (λ (x : List ℕ). x ∷ ls)
    (sym (append_assoc (a ∷ as') (b ∷ bs) l))

-- bytes without a newline come before the first of the lines that follow
pub lines-open : (xs ys : List ℕ) → HasNoNewline xs → lines (xs ++ ys) ≡ led xs (lines ys)
lines-open [] ys h = refl
lines-open (x ∷ xs) ys h =
    lines_other x (xs ++ ys) (All-head (λ x. eqb x newline ≡ false) x xs h)
    ∙ (ap (onto_first x) (lines-open xs ys (All-tail (λ x. eqb x newline ≡ false) x xs h))
    ∙ onto_led x xs (lines ys))

-- a whole line comes before the lines that follow
pub lines-whole : (l ys : List ℕ) → IsLine l → lines (l ++ ys) ≡ l ∷ lines ys
lines-whole l ys w =
    ap (λ (x : List ℕ). lines (x ++ ys)) w.2
    ∙ (ap lines (append_assoc w.0 (newline ∷ []) ys)
    ∙ (lines-open w.0 (newline ∷ ys) w.1
    ∙ (led-cons w.0 (newline ∷ []) (lines ys) ∙ ap (λ (x : List ℕ). x ∷ lines ys) (sym w.2))))

led-nil : (o : List ℕ) → 1 ≤ length o → led o [] ≡ o ∷ []
led-nil [] h = absurd (omega (arith, h))
led-nil (x ∷ xs) h = refl

lines_one : (l : List ℕ) → IsLine l ⊎ IsIncompleteLine l → lines l ≡ l ∷ []
lines_one l h =
    ap lines (sym (append-nil l)) ∙ elim h [
      | inl w ↦ lines-whole l [] w
      | inr o ↦
          lines-open l [] o.1 ∙ led-nil l o.0
    ]

-- lines that are joined and cut again are as before
pub lines-concat : (ls : List (List ℕ)) → AreLines ls → lines (concat ls) ≡ ls
lines-concat [] h = refl
lines-concat (l ∷ []) h = ap lines (append-nil l) ∙ lines_one l h
lines-concat (l ∷ m ∷ ls) h = lines-whole l (concat (m ∷ ls)) h.0
    ∙ ap (λ (x : List (List ℕ)). l ∷ x) (lines-concat (m ∷ ls) h.1)

-- there is one such list
pub lines_are_one : (x : List ℕ) (ls : List (List ℕ)) → AreLinesOf x ls → ls ≡ lines x
lines_are_one x ls a = sym (lines-concat ls a.lines) ∙ ap lines a.joined

concat_onto : (x : ℕ) (ls : List (List ℕ)) → concat (onto_first x ls) ≡ x ∷ concat ls
concat_onto x [] = refl
concat_onto x (l ∷ ls) = refl

concat_by : (b : Bool) (x : ℕ) (xs : List ℕ) → concat (lines xs) ≡ xs
    → concat (cond b ((x ∷ []) ∷ lines xs) (onto_first x (lines xs))) ≡ x ∷ xs
concat_by true x xs h = ap (λ (ys : List ℕ). x ∷ ys) h
concat_by false x xs h = concat_onto x (lines xs) ∙ ap (λ (ys : List ℕ). x ∷ ys) h

pub concat-lines : (x : List ℕ) → concat (lines x) ≡ x
concat-lines [] = refl
concat-lines (x ∷ xs) = concat_by (eqb x newline) x xs (concat-lines xs)

whole_longer : (x : ℕ) (l : List ℕ) → eqb x newline ≡ false → IsLine l → IsLine (x ∷ l)
whole_longer x l h w = (
  x ∷ w.0,
  All-cons (λ x. eqb x newline ≡ false) x w.0 h w.1,
  ap (λ (y : List ℕ). x ∷ y) w.2,
)

are_onto : (x : ℕ) (ls : List (List ℕ)) → eqb x newline ≡ false → AreLines ls
    → AreLines (onto_first x ls)
are_onto x [] h a =
    inr (
      omega arith,
      All-cons (λ x. eqb x newline ≡ false) x [] h
          (All-nil (λ x. eqb x newline ≡ false)),
    )
are_onto x (l ∷ []) h a =
    elim a [
      | inl w ↦ inl (whole_longer x l h w)
      | inr o ↦
          inr (omega arith, All-cons (λ x. eqb x newline ≡ false) x l h o.1)
    ]
are_onto x (l ∷ m ∷ ls) h a = (whole_longer x l h a.0, a.1)

newline_whole : (x : ℕ) → x ≡ newline → IsLine (x ∷ [])
newline_whole x h = ([], All-nil (λ x. eqb x newline ≡ false), ap (λ (y : ℕ). y ∷ []) h)

are_after : (l : List ℕ) (ls : List (List ℕ)) → IsLine l → AreLines ls → AreLines (l ∷ ls)
are_after l [] w a = inl w
are_after l (m ∷ ls) w a = (w, a)

are_by : (b : Bool) (x : ℕ) (xs : List ℕ) → eqb x newline ≡ b → AreLines (lines xs)
    → AreLines (cond b ((x ∷ []) ∷ lines xs) (onto_first x (lines xs)))
are_by true x xs e h = are_after (x ∷ []) (lines xs) (newline_whole x (eqb-true x newline e)) h
are_by false x xs e h = are_onto x (lines xs) e h

are_lines : (x : List ℕ) → AreLines (lines x)
are_lines [] = tt
are_lines (x ∷ xs) = are_by (eqb x newline) x xs refl (are_lines xs)

-- `lines` gives them
pub lines_are_lines : (x : List ℕ) → AreLinesOf x (lines x)
lines_are_lines x = record { lines = are_lines x; joined = concat-lines x }

-- the content of a whole line, and of one without newline
pub content-whole : (xs : List ℕ) → content (xs ++ newline ∷ []) ≡ xs
content-whole [] = refl
content-whole (x ∷ []) = refl
content-whole (x ∷ y ∷ ys) = ap (λ (zs : List ℕ). x ∷ zs) (content-whole (y ∷ ys))

-- lines of two parts, if the last line of the first part is whole
pub lines-append : (ls : List (List ℕ)) (ys : List ℕ) → All IsLine ls
    → lines (concat ls ++ ys) ≡ ls ++ lines ys
lines-append [] ys h = refl
lines-append (l ∷ ls) ys h =
    ap lines (append_assoc l (concat ls) ys)
    ∙ (lines-whole l (concat ls ++ ys) (All-head IsLine l ls h)
    ∙ ap (λ (x : List (List ℕ)). l ∷ x) (lines-append ls ys (All-tail IsLine l ls h)))
