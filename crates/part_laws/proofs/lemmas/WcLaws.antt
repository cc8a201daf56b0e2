-- wc counts the same newlines and words in what is picked out of an input.
use Rattle.std.proofs.Common.{◌≡◌, ℕ, ◌+◌, Bool, true, false, cond, not, List, [], ◌∷◌, ◌++◌}
use Rattle.std.proofs.Common.{Some, refl, ap, ap₂, ◌∙◌, sym, slice_get, length}
use Rattle.std.specs.List.{flat_map}
use Rattle.std.specs.Prelude.{nat_le, codes}
use Rattle.std.proofs.lemmas.Bool.{false≢true}
use Rattle.commands.specs.Filters.{is_nothing}
use Rattle.commands.specs.Wc.{asked, counts_of, numbers, sums, written_line}
use Rattle.commands.specs.declared.spec.FilterSpec.TheVariants as spec
use Rattle.commands.specs.declared.wc_words.WcSpec.{WcSpec}
use Rattle.tr_words.specs.Classes.{all_bytes}
use Rattle.part_laws.specs.Additions.{addition}
use Rattle.part_laws.specs.Manners.{GoesIn, made_of, MakesLineOfLine}
use Rattle.part_laws.specs.Utilities.{wc_manner}
use Rattle.part_laws.specs.declared.manner.Addition.TheVariants.{KeepNewlines, MarkWords}
use Rattle.part_laws.specs.declared.manner.Manner.{Manner}
use Rattle.part_laws.specs.declared.manner.Manner.TheVariants as manner
use Rattle.part_laws.specs.declared.manner.WholeCause.TheVariants as cause
use Rattle.part_laws.proofs.lemmas.CountLaws.{newlines_alone, newlines_in, newlines_of_marks}
use Rattle.part_laws.proofs.lemmas.CountLaws.{words_of_marks}
use Rattle.part_laws.proofs.lemmas.LinesOfLines.{lines_of_lines}

-- both additions make a line of each line
marks_make_lines : MakesLineOfLine (addition MarkWords)
unfolding all_bytes
marks_make_lines = lines_of_lines (addition MarkWords) refl

newlines_make_lines : MakesLineOfLine (addition KeepNewlines)
unfolding all_bytes
newlines_make_lines = lines_of_lines (addition KeepNewlines) refl

-- the lines of wc, by its operands and its numbers
abbrev out_by : (operands : List (List ℕ)) → (counts totals : List ℕ) → List ℕ
out_by o ns ts = flat_map written_line
    (((slice_get o 0, ns) ∷ []) ++ cond (nat_le 2 (length o)) ((Some (codes "total"), ts) ∷ []) [])

abbrev totals : WcSpec → List ℕ → List ℕ
totals s x = numbers s (sums (Some x ∷ []))

-- without operands, the same is written of inputs with the same numbers
same_by : (s : WcSpec) (x y : List ℕ) (o : List (List ℕ)) → s.operands ≡ o → is_nothing o ≡ true
    → numbers s (counts_of x) ≡ numbers s (counts_of y)
    → made_of (spec.Wc s) x ≡ made_of (spec.Wc s) y
same_by s x y (name ∷ o) e none same = absurd (false≢true none)
same_by s x y [] e none same =
    ap (λ (o : List (List ℕ)). out_by o (numbers s (counts_of x)) (totals s x)) e
    ∙ (ap (λ (ns : List ℕ). out_by [] ns (totals s x)) same
    ∙ ap (λ (o : List (List ℕ)). out_by o (numbers s (counts_of y)) (totals s y)) (sym e))

-- the numbers of newlines and words, if no bytes are counted
module _ (s : WcSpec) (x y : List ℕ) (no_bytes : s.bytes ≡ false)
    (newlines : newlines_in x ≡ newlines_in y) where
  line_numbers : asked s.lines (counts_of x).lines ≡ asked s.lines (counts_of y).lines
  line_numbers = ap (λ (n : ℕ). asked s.lines (0 + n)) newlines

  byte_numbers : asked s.bytes (counts_of x).bytes ≡ asked s.bytes (counts_of y).bytes
  byte_numbers = ap (λ (t : Bool). asked t (counts_of x).bytes) no_bytes
      ∙ sym (ap (λ (t : Bool). asked t (counts_of y).bytes) no_bytes)

  same_numbers : asked s.words (counts_of x).words ≡ asked s.words (counts_of y).words
      → numbers s (counts_of x) ≡ numbers s (counts_of y)
  same_numbers words = ap₂ (λ (a b : List ℕ). a ++ b) line_numbers
      (ap₂ (λ (a b : List ℕ). a ++ b) words byte_numbers)

abbrev manner_by : (named bytes words : Bool) → Manner
manner_by named bytes words = cond (not named) (manner.Whole cause.NamesInput)
    (cond bytes (manner.Whole cause.Counts)
    (cond words (manner.Counts MarkWords) (manner.Counts KeepNewlines)))

wc_by : (s : WcSpec) (named bytes words : Bool) → is_nothing s.operands ≡ named
    → s.bytes ≡ bytes → s.words ≡ words → GoesIn (manner_by named bytes words) (spec.Wc s)
wc_by s false bytes words n b w = tt
wc_by s true true words n b w = tt
wc_by s true false true n b w = record {
  same = λ x.
      let made = made_of (addition MarkWords) x in
      same_by s x made s.operands refl n
      (same_numbers s x made b (sym (newlines_of_marks x))
      (ap (λ (n : ℕ). asked s.words (0 + n)) (sym (words_of_marks x))));
  lines = marks_make_lines;
}
wc_by s true false false n b w = record {
  same = λ x.
      let made = made_of (addition KeepNewlines) x in
      same_by s x made s.operands refl n
      (same_numbers s x made b (sym (newlines_alone x))
      (ap (λ (t : Bool). asked t (counts_of x).words) w
      ∙ sym (ap (λ (t : Bool). asked t (counts_of made).words) w)));
  lines = newlines_make_lines;
}

-- wc goes in its manner
pub wc_goes : (s : WcSpec) → GoesIn (wc_manner s) (spec.Wc s)
wc_goes s = wc_by s (is_nothing s.operands) s.bytes s.words refl refl refl
