-- Lines of inputs that are cut at ends of lines, and filters that gather.
use Rattle.std.proofs.Common.{◌≡◌, ℕ, zero, suc, ◌≤◌, Bool, true, false, cond, eqb, List, [], ◌∷◌}
use Rattle.std.proofs.Common.{◌++◌, length, take, drop, refl, ap, ◌∙◌, sym}
use Rattle.std.proofs.Common.{subst, arith, append_assoc, inl, inr}
use Rattle.std.specs.List.{All, concat, onto_first}
use Rattle.std.proofs.lemmas.List.{append-nil}
use Rattle.std.proofs.lemmas.Bool.{eqb-true}
use Rattle.std.proofs.lemmas.List.Elements.{All-head, All-tail, All-cons, All-nil}
use Rattle.machine.proofs.LinesLaws.{concat-lines, lines-append, lines-concat, lines_are_lines}
use Rattle.machine.specs.Lines.{newline, lines, IsLine, AreLines}
use Rattle.part_laws.specs.Manners.{GathersParts}
use Rattle.part_laws.specs.Parts.{IsWholeLines}

-- a byte that is no newline
abbrev pub IsOther : ℕ → Type 0
IsOther x = eqb x newline ≡ false

-- the lines of whole lines and of lines after them
pub lines_both : (ls ms : List (List ℕ)) → All IsLine ls → AreLines ms
    → lines (concat ls ++ concat ms) ≡ ls ++ ms
lines_both ls ms h a = lines-append ls (concat ms) h
    ∙ ap (λ (x : List (List ℕ)). ls ++ x) (lines-concat ms a)

-- a line is longer by a byte that is no newline
line_longer : (x : ℕ) (l : List ℕ) → IsOther x → IsLine l → IsLine (x ∷ l)
line_longer x l h w = (x ∷ w.0, All-cons IsOther x w.0 h w.1, ap (λ (y : List ℕ). x ∷ y) w.2)

-- a newline is a line
newline_alone : (x : ℕ) → x ≡ newline → IsLine (x ∷ [])
newline_alone x h = ([], All-nil IsOther, ap (λ (y : ℕ). y ∷ []) h)

-- the lines of a stream are lines
pub are_lines : (x : List ℕ) → AreLines (lines x)
are_lines x = (lines_are_lines x).lines

-- the first of lines are lines
pub are_lines-take : (n : ℕ) (ls : List (List ℕ)) → AreLines ls → AreLines (take n ls)
are_lines-take zero ls a = tt
are_lines-take (suc n) [] a = tt
are_lines-take (suc zero) (l ∷ []) a = a
are_lines-take (suc (suc n)) (l ∷ []) a = a
are_lines-take (suc zero) (l ∷ m ∷ ls) a = inl a.0
are_lines-take (suc (suc n)) (l ∷ m ∷ ls) a = (a.0, are_lines-take (suc n) (m ∷ ls) a.1)

-- what is left of lines after the first ones are lines
pub are_lines-drop : (n : ℕ) (ls : List (List ℕ)) → AreLines ls → AreLines (drop n ls)
are_lines-drop zero ls a = a
are_lines-drop (suc n) [] a = tt
are_lines-drop (suc zero) (l ∷ []) a = tt
are_lines-drop (suc (suc n)) (l ∷ []) a = tt
are_lines-drop (suc n) (l ∷ m ∷ ls) a = are_lines-drop n (m ∷ ls) a.1

-- joined whole lines are whole lines
pub whole_joined : (x y : List ℕ) → IsWholeLines x → IsWholeLines y → IsWholeLines (x ++ y)
whole_joined x y v w =
    elim w [
      | inl none ↦ subst (λ (z : List ℕ). IsWholeLines (x ++ z)) (sym none)
          (subst IsWholeLines (sym (append-nil x)) v)
      | inr ends ↦ inr (
        x ++ ends.0,
        ap (λ (z : List ℕ). x ++ z) ends.1
            ∙ sym (append_assoc x ends.0 (newline ∷ [])),
      )
    ]

-- a line is whole lines
pub line_is_whole : (l : List ℕ) → IsLine l → IsWholeLines l
line_is_whole l w = inr (w.0, w.2)

-- lines that end with newlines are whole lines once joined
pub whole_concat : (ls : List (List ℕ)) → All IsLine ls → IsWholeLines (concat ls)
whole_concat [] h = inl refl
whole_concat (l ∷ ls) h = whole_joined l (concat ls) (line_is_whole l (All-head IsLine l ls h))
    (whole_concat ls (All-tail IsLine l ls h))

-- whole lines, one or more
record SomeLines (ls : List (List ℕ)) : Type 0 where
  all : All IsLine ls
  some : 1 ≤ length ls

some_onto : (x : ℕ) (ls : List (List ℕ)) → IsOther x → SomeLines ls → SomeLines (onto_first x ls)
some_onto x [] h a = absurd (omega (arith, a.some))
some_onto x (l ∷ ls) h a =
    record {
      all = All-cons IsLine (x ∷ l) ls (line_longer x l h (All-head IsLine l ls a.all))
          (All-tail IsLine l ls a.all);
      some = a.some;
    }

some_by : (b : Bool) (x : ℕ) (ls : List (List ℕ)) → eqb x newline ≡ b → SomeLines ls
    → SomeLines (cond b ((x ∷ []) ∷ ls) (onto_first x ls))
some_by true x ls e a =
    record {
      all = All-cons IsLine (x ∷ []) ls (newline_alone x (eqb-true x newline e)) a.all;
      some = omega arith;
    }
some_by false x ls e a = some_onto x ls e a

some_lines : (front : List ℕ) → SomeLines (lines (front ++ newline ∷ []))
some_lines [] =
    record {
      all = All-cons IsLine (newline ∷ []) [] (newline_alone newline refl)
          (All-nil IsLine);
      some = omega arith;
    }
some_lines (x ∷ front) = some_by (eqb x newline) x (lines (front ++ newline ∷ [])) refl
    (some_lines front)

-- each line of whole lines ends with a newline
pub whole_lines : (x : List ℕ) → IsWholeLines x → All IsLine (lines x)
whole_lines x w =
    elim w [
      | inl none ↦ subst (λ (z : List ℕ). All IsLine (lines z)) (sym none) (All-nil IsLine)
      | inr ends ↦ subst (λ (z : List ℕ). All IsLine (lines z)) (sym ends.1) (some_lines ends.0).all
    ]

-- the lines of an input that is cut at the end of a line are those of both parts
pub lines_apart : (x y : List ℕ) → IsWholeLines x → lines (x ++ y) ≡ lines x ++ lines y
lines_apart x y w = ap (λ (z : List ℕ). lines (z ++ y)) (sym (concat-lines x))
    ∙ lines-append (lines x) y (whole_lines x w)

-- a function gathers if one does that gives the same
pub gathers_by : (out made : List ℕ → List ℕ) → ((x : List ℕ) → out x ≡ made x)
    → GathersParts made → GathersParts out
gathers_by out made same g =
    record {
      nothing = same [] ∙ g.nothing;
      gathers = λ x y w.
          same (x ++ y)
          ∙ (g.gathers x y w
          ∙ (ap (λ (z : List ℕ). made (z ++ made y)) (sym (same x))
          ∙ (ap (λ (z : List ℕ). made (out x ++ z)) (sym (same y))
          ∙ sym (same (out x ++ out y)))));
      again = λ x w. same (out x) ∙ (ap made (same x) ∙ (g.again x w ∙ sym (same x)));
      keeps = λ x w. subst IsWholeLines (sym (same x)) (g.keeps x w);
    }

-- what a function of lists of lines does that gathers
pub record GathersLines (kept : List (List ℕ) → List (List ℕ)) : Type 0 where
  pub nothing : kept [] ≡ []
  pub gathers : (ls ms : List (List ℕ)) → kept (ls ++ ms) ≡ kept (kept ls ++ kept ms)
  pub again : (ls : List (List ℕ)) → kept (kept ls) ≡ kept ls
  pub whole : (ls : List (List ℕ)) → All IsLine ls → All IsLine (kept ls)
  pub are : (ls : List (List ℕ)) → AreLines ls → AreLines (kept ls)

-- the lines that it keeps of a stream, joined
abbrev pub joined_by : (List (List ℕ) → List (List ℕ)) → List ℕ → List ℕ
joined_by kept x = concat (kept (lines x))

-- a function of streams gathers if it does so by lines
pub lines_gather : (kept : List (List ℕ) → List (List ℕ)) → GathersLines kept
    → GathersParts (joined_by kept)
lines_gather kept g =
    record {
      nothing = ap concat g.nothing;
      gathers = λ x y w.
          let front : All IsLine (kept (lines x)) = g.whole (lines x) (whole_lines x w) in
          let end : AreLines (kept (lines y)) = g.are (lines y) (are_lines y) in
          ap (λ (ls : List (List ℕ)). concat (kept ls)) (lines_apart x y w)
          ∙ (ap concat (g.gathers (lines x) (lines y))
          ∙ ap (λ (ls : List (List ℕ)). concat (kept ls))
          (sym (lines_both (kept (lines x)) (kept (lines y)) front end)));
      again = λ x w.
          ap (λ (ls : List (List ℕ)). concat (kept ls))
          (lines-concat (kept (lines x)) (g.are (lines x) (are_lines x)))
          ∙ ap concat (g.again (lines x));
      keeps = λ x w. whole_concat (kept (lines x)) (g.whole (lines x) (whole_lines x w));
    }
