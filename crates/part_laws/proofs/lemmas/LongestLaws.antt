-- As many filters of a pipeline run on each part as may.
use Rattle.std.proofs.Common.{◌≡◌, ℕ, Bool, true, false, cond, eqb, not, ◌&&◌, List, [], ◌∷◌, length}
use Rattle.std.proofs.Common.{Option, Some, None, refl, ap, ◌∙◌, sym, subst, inl, inr}
use Rattle.std.specs.Prelude.{◌⊎◌, nat_le}
use Rattle.std.proofs.lemmas.Bool.{and_cases, and_parts, eqb-true, false≢true}
use Rattle.machine.specs.Lines.{newline}
use Rattle.commands.specs.Filters.{is_nothing}
use Rattle.commands.specs.declared.spec.FilterSpec.{FilterSpec}
use Rattle.commands.specs.declared.spec.FilterSpec.TheVariants as spec
use Rattle.commands.specs.declared.tail_words.Counted.{Counted}
use Rattle.commands.specs.declared.tail_words.Counted.TheVariants.{Bytes, Lines}
use Rattle.commands.specs.declared.tail_words.Origin.{Origin}
use Rattle.commands.specs.declared.tail_words.Origin.TheVariants.{Beginning, End}
use Rattle.commands.specs.declared.uniq_words.RunsShown.{RunsShown}
use Rattle.commands.specs.declared.uniq_words.RunsShown.TheVariants as shown
use Rattle.tr_words.specs.Classes.{all_bytes}
use Rattle.tr_words.specs.Tr.{in_set}
use Rattle.tr_words.specs.declared.tr_words.TrSpec.{TrSpec}
use Rattle.part_laws.specs.Additions.{addition}
use Rattle.part_laws.specs.Divisions.{Halves, halves, halves_from, halves_of_bytes}
use Rattle.part_laws.specs.Divisions.{IsLongest, some_lose_newlines}
use Rattle.part_laws.specs.Manners.{GoesOn}
use Rattle.part_laws.specs.Utilities.{are_bytes, deletes_newline, keeps_newlines, manner_of}
use Rattle.part_laws.specs.Utilities.{newline_becomes, squeezing_manner, tail_manner, uniq_manner}
use Rattle.part_laws.specs.declared.manner.Addition.TheVariants.{KeepNewlines, MarkWords, Squeeze}
use Rattle.part_laws.specs.declared.manner.Manner.{Manner}
use Rattle.part_laws.specs.declared.manner.Manner.TheVariants.{ByBytes, ByLines, Counts, Gathers}
use Rattle.part_laws.specs.declared.manner.Manner.TheVariants.{Skips, Squeezes, Whole}
use Rattle.part_laws.specs.declared.manner.WholeCause.TheVariants as cause

-- ---- a filter that squeezes and keeps newlines squeezes newlines

abbrev byte_of : Manner → ℕ
byte_of (Squeezes c) = c
byte_of _ = 0

-- whether a manner is to squeeze
abbrev squeezing : Manner → Bool
squeezing (Squeezes c) = true
squeezing _ = false

head_by : (b : Bool) → squeezing (cond b (Whole cause.Headers) Gathers) ≡ false
head_by true = refl
head_by false = refl

tail_by : (origin : Origin) (counted : Counted) → squeezing (tail_manner origin counted) ≡ false
tail_by Beginning Lines = refl
tail_by Beginning Bytes = refl
tail_by End counted = refl

uniq_by : (runs : RunsShown) → squeezing (uniq_manner runs) ≡ false
uniq_by shown.Every = refl
uniq_by shown.Counted = refl
uniq_by shown.Repeated = refl
uniq_by shown.Single = refl

wc_by : (named bytes words : Bool) → squeezing (cond (not named) (Whole cause.NamesInput)
    (cond bytes (Whole cause.Counts) (cond words (Counts MarkWords) (Counts KeepNewlines)))) ≡ false
wc_by false bytes words = refl
wc_by true true words = refl
wc_by true false true = refl
wc_by true false false = refl

tr_by : (c d : ℕ) (deletes squeezes bytes : Bool) → cond deletes (Whole cause.Squeezes)
    (cond squeezes (cond bytes (Squeezes d) (Whole cause.Squeezes)) ByLines)
    ≡ Squeezes c → c ≡ d
tr_by c d true squeezes bytes e = absurd (false≢true (ap squeezing e))
tr_by c d false true true e = sym (ap byte_of e)
tr_by c d false true false e = absurd (false≢true (ap squeezing e))
tr_by c d false false bytes e = absurd (false≢true (ap squeezing e))

tr_squeezes : (s : TrSpec) (c : ℕ) (set : Option (List Bool)) → squeezing_manner s set ≡ Squeezes c
    → c ≡ newline_becomes s
tr_squeezes s c None e = absurd (false≢true (ap squeezing e))
tr_squeezes s c (Some set) e =
    tr_by c (newline_becomes s) (deletes_newline s) (in_set (Some set) (newline_becomes s))
    (are_bytes s.table) e

squeezes_newlines : (f : FilterSpec) (c : ℕ) → manner_of f ≡ Squeezes c → keeps_newlines f ≡ true
    → c ≡ newline
squeezes_newlines (spec.Cat s) c e k = absurd (false≢true (ap squeezing e))
squeezes_newlines (spec.Cut s) c e k = absurd (false≢true (ap squeezing e))
squeezes_newlines (spec.Fold s) c e k = absurd (false≢true (ap squeezing e))
squeezes_newlines (spec.Head s) c e k =
    absurd (false≢true (sym (head_by (nat_le 2 (length s.inputs))) ∙ ap squeezing e))
squeezes_newlines (spec.Paste s) c e k = absurd (false≢true (ap squeezing e))
squeezes_newlines (spec.Tail s) c e k =
    absurd (false≢true (sym (tail_by s.origin s.counted) ∙ ap squeezing e))
squeezes_newlines (spec.Tee s) c e k = absurd (false≢true (ap squeezing e))
squeezes_newlines (spec.Tr s) c e k =
    tr_squeezes s c s.squeezed e
    ∙ eqb-true (newline_becomes s) newline
    (and_parts (not (deletes_newline s)) (eqb (newline_becomes s) newline) k).1
squeezes_newlines (spec.Uniq s) c e k =
    absurd (false≢true (sym (uniq_by s.shown) ∙ ap squeezing e))
squeezes_newlines (spec.Wc s) c e k =
    absurd (false≢true (sym (wc_by (is_nothing s.operands) s.bytes s.words) ∙ ap squeezing e))

-- the addition that squeezes newlines does not go on
stops : GoesOn (manner_of (addition (Squeeze newline))) → ⊥
unfolding all_bytes
stops g = g

-- ---- the first of the joined filters

-- it does not go on; or the parts do not end at ends of lines, or no longer
abbrev CannotRun : Bool → (each joined : List FilterSpec) → Type 0
CannotRun at_lines each [] = Unit {0}
CannotRun at_lines each (f ∷ fs) = (GoesOn (manner_of f) → ⊥)
    ⊎ ((at_lines ≡ false) ⊎ (some_lose_newlines each ≡ true))

does_not : (f : FilterSpec) (m : Manner) → manner_of f ≡ m → (GoesOn m → ⊥)
    → GoesOn (manner_of f) → ⊥
does_not f m e never on = never (subst GoesOn e on)

lost_by : (k : Bool) (each : List FilterSpec) → (k ≡ false) ⊎ (some_lose_newlines each ≡ true)
    → cond k (some_lose_newlines each) true ≡ true
lost_by true each (inl e) = absurd (false≢true (sym e))
lost_by true each (inr e) = e
lost_by false each e = refl

-- one filter more before it
one_more : (at_lines : Bool) (f : FilterSpec) (each joined : List FilterSpec)
    → CannotRun (at_lines && keeps_newlines f) each joined → CannotRun at_lines (f ∷ each) joined
one_more at_lines f each [] h = tt
one_more at_lines f each (g ∷ gs) (inl never) = inl never
one_more at_lines f each (g ∷ gs) (inr (inr lost)) =
    inr (inr (lost_by (keeps_newlines f) each (inr lost)))
one_more at_lines f each (g ∷ gs) (inr (inl e)) =
    elim (and_cases at_lines (keeps_newlines f) e) [
      | inl not_at ↦ inr (inl not_at)
      | inr lost ↦ inr (inr (lost_by (keeps_newlines f) each (inl lost)))
    ]

squeezed_by : (k : Bool) (f : FilterSpec) (c : ℕ) (fs : List FilterSpec) → manner_of f ≡ Squeezes c
    → keeps_newlines f ≡ k → CannotRun true (f ∷ []) (addition (Squeeze c) ∷ fs)
squeezed_by true f c fs e k =
    let same = squeezes_newlines f c e k in
    inl (λ on. stops (subst (λ (b : ℕ). GoesOn (manner_of (addition (Squeeze b)))) same on))
squeezed_by false f c fs e k = inr (inr (lost_by (keeps_newlines f) [] (inl k)))

at_lines_first : (f : FilterSpec) (fs : List FilterSpec) (m : Manner) (rest : Halves)
    → manner_of f ≡ m → CannotRun (true && keeps_newlines f) rest.each rest.joined
    → CannotRun true (halves_from m f fs rest).each (halves_from m f fs rest).joined
at_lines_first f fs ByBytes rest e later = one_more true f rest.each rest.joined later
at_lines_first f fs ByLines rest e later = one_more true f rest.each rest.joined later
at_lines_first f fs Gathers rest e later = inl (does_not f Gathers e (λ g. g))
at_lines_first f fs (Counts a) rest e later = inl (does_not f (Counts a) e (λ g. g))
at_lines_first f fs (Squeezes c) rest e later = squeezed_by (keeps_newlines f) f c fs e refl
at_lines_first f fs Skips rest e later = inl (does_not f Skips e (λ g. g))
at_lines_first f fs (Whole why) rest e later = inl (does_not f (Whole why) e (λ g. g))

anywhere_first : (f : FilterSpec) (fs : List FilterSpec) (m : Manner) (rest : Halves)
    → CannotRun (false && keeps_newlines f) rest.each rest.joined
    → CannotRun false (halves_of_bytes m f fs rest).each (halves_of_bytes m f fs rest).joined
anywhere_first f fs ByBytes rest later = one_more false f rest.each rest.joined later
anywhere_first f fs ByLines rest later = inr (inl refl)
anywhere_first f fs Gathers rest later = inr (inl refl)
anywhere_first f fs (Counts a) rest later = inr (inl refl)
anywhere_first f fs (Squeezes c) rest later = inr (inl refl)
anywhere_first f fs Skips rest later = inr (inl refl)
anywhere_first f fs (Whole why) rest later = inr (inl refl)

cannot_run : (at_lines : Bool) (fs : List FilterSpec)
    → CannotRun at_lines (halves at_lines fs).each (halves at_lines fs).joined
cannot_run at_lines [] = tt
cannot_run true (f ∷ fs) =
    at_lines_first f fs (manner_of f) (halves (true && keeps_newlines f) fs) refl
    (cannot_run (true && keeps_newlines f) fs)
cannot_run false (f ∷ fs) =
    anywhere_first f fs (manner_of f) (halves (false && keeps_newlines f) fs)
    (cannot_run (false && keeps_newlines f) fs)

longest_by : (each joined : List FilterSpec) → CannotRun true each joined → IsLongest each joined
longest_by each [] h = tt
longest_by each (f ∷ fs) (inl never) = inl never
longest_by each (f ∷ fs) (inr (inl e)) = absurd (false≢true (sym e))
longest_by each (f ∷ fs) (inr (inr lost)) = inr lost

pub is_longest : (fs : List FilterSpec) → IsLongest (halves true fs).each (halves true fs).joined
is_longest fs = longest_by (halves true fs).each (halves true fs).joined (cannot_run true fs)
