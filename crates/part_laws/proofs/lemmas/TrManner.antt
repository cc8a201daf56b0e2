-- The manner of tr: byte by byte, line by line, or with a run of what newlines become squeezed once
-- more.
use Rattle.std.proofs.Common.{◌≡◌, ℕ, Bool, true, false, cond, not, eqb, List, [], ◌∷◌, ◌++◌}
use Rattle.std.proofs.Common.{Option, Some, None, refl, ap, ◌∙◌, sym, subst, inl, inr}
use Rattle.std.proofs.lemmas.Bool.{and_parts, eqb-true, not-true}
use Rattle.machine.specs.Lines.{newline}
use Rattle.commands.specs.declared.spec.FilterSpec.TheVariants as spec
use Rattle.tr_words.specs.declared.tr_words.TrSpec.{TrSpec}
use Rattle.tr_words.specs.Tr.{in_set, last_of, squeezed, translated}
use Rattle.part_laws.specs.Parts.{IsWholeLines}
use Rattle.part_laws.specs.Manners.{GoesIn, GoesOn, KeepsLines, made_of}
use Rattle.part_laws.specs.Utilities.{are_bytes, deletes_newline, keeps_newlines, newline_becomes}
use Rattle.part_laws.specs.Utilities.{squeezing_manner, tr_manner}
use Rattle.part_laws.specs.declared.manner.Manner.{Manner}
use Rattle.part_laws.specs.declared.manner.Manner.TheVariants.{ByLines, Squeezes, Whole}
use Rattle.part_laws.specs.declared.manner.WholeCause.TheVariants as cause
use Rattle.part_laws.proofs.lemmas.ByteLaws.{tr_by_bytes}
use Rattle.part_laws.proofs.lemmas.OnceMore.{squeezes_parts}
use Rattle.part_laws.proofs.lemmas.SqueezeLaws.{KeepsApart, other_stays, squeezed-append}
use Rattle.part_laws.proofs.lemmas.SqueezeLaws.{tr_by_lines, tr_plain, translated_lines}

-- the manner by three tests
abbrev manner_by : TrSpec → (deletes squeezes bytes : Bool) → Manner
manner_by s d i b = cond d (Whole cause.Squeezes)
    (cond i (cond b (Squeezes (newline_becomes s)) (Whole cause.Squeezes)) ByLines)

module _ (s : TrSpec) (set : List Bool) (e : s.squeezed ≡ Some set) where
  apart : deletes_newline s ≡ false → in_set (Some set) (newline_becomes s) ≡ false → KeepsApart s
  apart d i = record {
    stays_in = d;
    is_other = ap (λ (o : Option (List Bool)). in_set o (newline_becomes s)) e ∙ i;
  }

  goes_by_tests : (d i b : Bool) → deletes_newline s ≡ d
      → in_set (Some set) (newline_becomes s) ≡ i → are_bytes s.table ≡ b
      → GoesIn (manner_by s d i b) (spec.Tr s)
  goes_by_tests true i b d-is i-is b-is = tt
  goes_by_tests false true true d-is i-is b-is = squeezes_parts s set e d-is i-is b-is
  goes_by_tests false true false d-is i-is b-is = tt
  goes_by_tests false false b d-is i-is b-is = tr_by_lines s (apart d-is i-is)

  other_by_tests : (d i b : Bool) → deletes_newline s ≡ d
      → in_set (Some set) (newline_becomes s) ≡ i → GoesOn (manner_by s d i b)
      → in_set s.squeezed (newline_becomes s) ≡ false
  other_by_tests true i b d-is i-is g = absurd g
  other_by_tests false true true d-is i-is g = absurd g
  other_by_tests false true false d-is i-is g = absurd g
  other_by_tests false false b d-is i-is g = (apart d-is i-is).is_other

goes_by_set : (s : TrSpec) (set : Option (List Bool)) → s.squeezed ≡ set
    → GoesIn (squeezing_manner s set) (spec.Tr s)
goes_by_set s None e = tr_by_bytes s e
goes_by_set s (Some set) e =
    goes_by_tests s set e (deletes_newline s) (in_set (Some set) (newline_becomes s))
    (are_bytes s.table) refl refl refl

-- tr goes in its manner
pub tr_in_its_manner : (s : TrSpec) → GoesIn (tr_manner s) (spec.Tr s)
tr_in_its_manner s = goes_by_set s s.squeezed refl

-- ---- whole lines

other_by_set : (s : TrSpec) (set : Option (List Bool)) → s.squeezed ≡ set
    → GoesOn (squeezing_manner s set) → in_set s.squeezed (newline_becomes s) ≡ false
other_by_set s None e g = ap (λ (o : Option (List Bool)). in_set o (newline_becomes s)) e
other_by_set s (Some set) e g =
    other_by_tests s set e (deletes_newline s) (in_set (Some set) (newline_becomes s))
    (are_bytes s.table) refl refl g

-- what is made of a line
pub line_made : (s : TrSpec) → KeepsApart s → newline_becomes s ≡ newline → (front : List ℕ)
    → made_of (spec.Tr s) (front ++ newline ∷ [])
    ≡ squeezed s.squeezed None (translated s front) ++ newline ∷ []
line_made s k same front =
    let before = translated s front in
    tr_plain s (front ++ newline ∷ [])
    ∙ (ap (squeezed s.squeezed None) (translated_lines s front k.stays_in)
    ∙ (squeezed-append s.squeezed None before (newline_becomes s ∷ [])
    ∙ (ap (λ (z : List ℕ). squeezed s.squeezed None before ++ z)
    (other_stays s.squeezed (last_of None before) (newline_becomes s) k.is_other)
    ∙ ap (λ (c : ℕ). squeezed s.squeezed None before ++ c ∷ []) same)))

whole_lines_stay : (s : TrSpec) → KeepsApart s → newline_becomes s ≡ newline → (front : List ℕ)
    → IsWholeLines (made_of (spec.Tr s) (front ++ newline ∷ []))
whole_lines_stay s k same front =
    inr (squeezed s.squeezed None (translated s front), line_made s k same front)

-- tr that keeps newlines apart makes whole lines of whole lines
pub apart_keeps_lines : (s : TrSpec) → KeepsApart s → newline_becomes s ≡ newline
    → KeepsLines (spec.Tr s)
apart_keeps_lines s k same x w =
    elim w [
      | inl none ↦ inl (ap (made_of (spec.Tr s)) none)
      | inr v ↦ subst (λ (z : List ℕ). IsWholeLines (made_of (spec.Tr s) z)) (sym v.1)
          (whole_lines_stay s k same v.0)
    ]

-- so does tr that goes on and keeps newlines
pub tr_keeps_lines : (s : TrSpec) → GoesOn (tr_manner s) → keeps_newlines (spec.Tr s) ≡ true
    → KeepsLines (spec.Tr s)
tr_keeps_lines s g keeps =
    let both = and_parts (not (deletes_newline s)) (eqb (newline_becomes s) newline) keeps in
    apart_keeps_lines s
    (record {
      stays_in = not-true (deletes_newline s) both.0;
      is_other = other_by_set s s.squeezed refl g;
    })
    (eqb-true (newline_becomes s) newline both.1)
