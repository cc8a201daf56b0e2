-- One byte of the reader.
use Rattle.std.proofs.Common.{◌≡◌, ◌≤◌, ◌<◌, ◌+◌, ◌-◌, length, arith, ℕ, suc, Bool, true, false}
use Rattle.std.proofs.Common.{cond, List, [], ◌∷◌, drop, Option, Some, None, ◌⊎◌, inl, inr, eqb}
use Rattle.std.proofs.Common.{refl, sym, ap, ◌∙◌}
use Rattle.std.specs.Prelude.{slice_get}
use Rattle.std.proofs.lemmas.Bool.{eqb-true}
use Rattle.std.proofs.Math.Numerals.{add-one}
use Rattle.std.proofs.Math.Seq.{drop-cons}
use Rattle.std.proofs.lemmas.List.{drop-drop}
use Rattle.std.proofs.lemmas.Option.{slice_get_cases, slice_get_within, get_or_from_slice_get}
use Rattle.std.proofs.Math.ListN.{drop_of_length-le}
use Rattle.pipeline_text.specs.declared.moves.Place.{Place}
use Rattle.pipeline_text.specs.declared.moves.Move.{Move}
use Rattle.pipeline_text.specs.inner.Scans.{head, moves, made, ended, marked, marks_from}

pub cases : (b : Bool) → (b ≡ true) ⊎ (b ≡ false)
cases true = inl refl
cases false = inr refl

pub marked-cons : (place : Place) (b : ℕ) (x : List ℕ)
    → marked place (b ∷ x) ≡ cond (eqb b 0) None
    (made (moves place b (head x)) (λ (q : Place). marked q x) (λ (q : Place). marked q (drop 1 x)))
unfolding marked
marked-cons place b [] = refl
marked-cons place b (c ∷ x) = refl

pub marked-end : (place : Place) → marked place [] ≡ ended place
unfolding marked
marked-end place = refl

from_here : (text : List ℕ) (p b : ℕ) → slice_get text p ≡ Some b
    → drop p text ≡ b ∷ drop (p + 1) text
from_here text p b h =
    let within : p < length text = slice_get_within text p b h in
    rw add-one (drop-cons text p b within
    ∙ ap (λ (c : ℕ). c ∷ drop (suc p) text) (get_or_from_slice_get text p b b h))

head_is : (text : List ℕ) (p : ℕ) → head (drop p text) ≡ slice_get text p
head_is text p = elim (slice_get_cases text p).1 [
  | inl here ↦ ap head (from_here text p here.0 here.2) ∙ sym here.2
  | inr past ↦ ap head (drop_of_length-le text past.0) ∙ sym past.1
]

past_of : (text : List ℕ) (p : ℕ) → slice_get text p ≡ None → length text ≤ p
past_of text p none = elim (slice_get_cases text p).1 [
  | inl here ↦ absurd (let e = here.2 in cc)
  | inr past ↦ past.0
]

-- the marks from a byte on
pub moved : (place : Place) (text : List ℕ) (p b : ℕ) (m : Move) (next : Option ℕ)
    → Some b ≡ slice_get text p → (b ≡ 0 → ⊥) → next ≡ slice_get text (p + 1)
    → m ≡ moves place b next
    → marks_from place text p ≡ made m (λ (q : Place). marks_from q text (p + 1))
    (λ (q : Place). marks_from q text (p + 2))
moved place text p b m next here live after h =
    let alive : eqb b 0 ≡ false = elim (cases (eqb b 0)) [
      | inl e ↦ absurd (live (eqb-true b 0 e))
      | inr e ↦ e
    ] in
    let second : next ≡ head (drop (p + 1) text) = after ∙ sym (head_is text (p + 1)) in
    let two : drop 1 (drop (p + 1) text) ≡ drop (p + 2) text = drop-drop 1 (p + 1) text
    ∙ ap (λ (n : ℕ). drop n text) (let e : (p + 1) + 1 ≡ p + 2 = omega arith in e) in
    ap (marked place) (from_here text p b (sym here)) ∙ marked-cons place b (drop (p + 1) text)
    ∙ rw (alive, two)
    (ap (λ (m : Move). made m (λ (q : Place). marks_from q text (p + 1))
    (λ (q : Place). marks_from q text (p + 2))) (ap (moves place b) (sym second) ∙ sym h))

pub at_nul : (place : Place) (text : List ℕ) (p b : ℕ) → Some b ≡ slice_get text p → b ≡ 0
    → marks_from place text p ≡ None
at_nul place text p b here e =
    ap (marked place) (from_here text p 0 (sym here ∙ ap (λ (b : ℕ). Some b) e))
    ∙ marked-cons place 0 (drop (p + 1) text)

pub at_end : (place : Place) (text : List ℕ) (p : ℕ) → None ≡ slice_get text p
    → marks_from place text p ≡ ended place
at_end place text p none = ap (marked place) (drop_of_length-le text (past_of text p (sym none)))
    ∙ marked-end place

-- what is left once the reader has gone on
pub went : (place place' : Place) (text text' : List ℕ) (p p' : ℕ) → place' ≡ place → text' ≡ text
    → p ≡ p' → marks_from place' text' p ≡ marks_from place text p'
went place place' text text' p p' h k e = cc

pub fewer : (text text' : List ℕ) (p p' more limit : ℕ) → text' ≡ text → p' ≡ p + more
    → length text - p ≤ limit → length text' - p' ≤ limit
fewer text text' p p' more limit k e h = omega (arith, ap length k)
