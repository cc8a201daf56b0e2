-- Long lines, which are put out by themselves.
use Rattle.std.proofs.Common.{◌≡◌, ℕ, ◌≤◌, Bool, true, false, cond, eqb, List, [], ◌∷◌, ◌++◌}
use Rattle.std.proofs.Common.{length, take, drop, refl, ap, ◌∙◌, sym, arith, append_assoc}
use Rattle.std.specs.List.{flat_map}
use Rattle.std.proofs.lemmas.List.{append-nil}
use Rattle.machine.specs.Lines.{lines, led, content, newline}
use Rattle.machine.specs.Pieces.{Queued, contents}
use Rattle.line_filters.specs.ByLine.{Makes}
use Rattle.line_filters.specs.inner.LongLines.{PutsFront}
use Rattle.line_filters.specs.inner.Walked.{Walked}

-- bytes that are handed on piece by piece
pub handed_on : (to to' piece rest whole : List ℕ) → to' ≡ to ++ piece
    → to ++ (piece ++ rest) ≡ whole → to' ++ rest ≡ whole
handed_on to to' piece rest whole e h = ap (λ (x : List ℕ). x ++ rest) e
    ∙ (append_assoc to piece rest ∙ h)

-- the front of a line was put out, and then its ends
pub line_out : (out out1 out2 front ends whole : List ℕ) → out1 ≡ out ++ front → out2 ≡ out1 ++ ends
    → whole ≡ front ++ ends → out2 ≡ out ++ whole
line_out out out1 out2 front ends whole e f w =
    f ∙ (ap (λ (x : List ℕ). x ++ ends) e
    ∙ (append_assoc out front ends ∙ ap (λ (x : List ℕ). out ++ x) (sym w)))

-- the content of a line is its front
content_one : (b : Bool) (x : ℕ) → take (length (cond {A = List ℕ} b [] (x ∷ []))) (x ∷ [])
    ≡ cond b [] (x ∷ [])
content_one true x = refl
content_one false x = refl

pub content_front : (line : List ℕ) → take (length (content line)) line ≡ content line
content_front [] = refl
content_front (x ∷ []) = content_one (eqb x newline) x
content_front (x ∷ y ∷ ys) = ap (λ (zs : List ℕ). x ∷ zs) (content_front (y ∷ ys))

-- no bytes were taken
pub front_none : (left : List ℕ → List ℕ) (bytes : List ℕ) (out : Queued)
    → PutsFront left left bytes 0 out out
front_none left bytes out = record {
  made = [];
  added = sym (append-nil (contents out));
  splits =
      λ zs. refl;
}

-- bytes were taken as bytes of lines are
pub front_walked : (of_line : List ℕ → List ℕ) (partial partial' bytes : List ℕ) (count : ℕ)
    (out out' : Queued) (made : List ℕ) → contents out' ≡ contents out ++ made
    → Walked of_line partial partial' bytes count [] made
    → PutsFront (λ xs. flat_map of_line (led partial (lines xs)))
    (λ xs. flat_map of_line (led partial' (lines xs))) bytes count out out'
front_walked of_line partial partial' bytes count out out' made added w =
    record { made = made; added = added; splits = w.splits }

-- the other bytes of a piece were taken after them
pub front_made : (left left' left'' : List ℕ → List ℕ) (piece made : List ℕ) (count : ℕ)
    (out out' : Queued) → (p : PutsFront left left' piece count out out')
    → Makes left' left'' (drop count piece) [] made → Makes left left'' piece [] (p.made ++ made)
front_made left left' left'' piece made count out out' p m =
    record {
      splits = λ zs. p.splits zs
          ∙ (ap (λ (x : List ℕ). p.made ++ x) (m.splits zs)
          ∙ sym (append_assoc p.made made (left'' zs)));
    }

pub front_added : (left left' : List ℕ → List ℕ) (piece made : List ℕ) (count : ℕ)
    (out out1 out2 : Queued) → (p : PutsFront left left' piece count out out1)
    → contents out2 ≡ contents out1 ++ made → contents out2 ≡ contents out ++ (p.made ++ made)
front_added left left' piece made count out out1 out2 p e =
    e ∙ (ap (λ (x : List ℕ). x ++ made) p.added ∙ append_assoc (contents out) p.made made)

-- what is made of a last line
last_led : (of_line : List ℕ → List ℕ) (p : List ℕ) → 1 ≤ length p
    → flat_map of_line (led p (lines [])) ≡ of_line p
last_led of_line [] some = absurd (omega (arith, some))
last_led of_line (x ∷ xs) some = append-nil (of_line (x ∷ xs))

-- it was put out
pub last_out : (of_line : List ℕ → List ℕ) (p p' out out' : List ℕ) → 1 ≤ length p → p' ≡ []
    → out' ≡ out ++ of_line p → out' ++ flat_map of_line (led p' (lines []))
    ≡ out ++ flat_map of_line (led p (lines []))
last_out of_line p p' out out' some none e =
    ap (λ (x : List ℕ). out' ++ flat_map of_line (led x (lines []))) none
    ∙ (append-nil out' ∙ (e ∙ ap (λ (x : List ℕ). out ++ x) (sym (last_led of_line p some))))
