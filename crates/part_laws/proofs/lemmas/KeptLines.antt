-- Filters that go on and keep newlines make whole lines of whole lines.
use Rattle.std.proofs.Common.{ℕ, Bool, true, false, cond, not, length, List, [], ◌++◌, sym, subst}
use Rattle.std.specs.Prelude.{nat_le}
use Rattle.std.proofs.lemmas.List.{append-nil}
use Rattle.commands.specs.declared.spec.FilterSpec.TheVariants as spec
use Rattle.commands.specs.Filters.{is_nothing}
use Rattle.commands.specs.declared.tail_words.Counted.{Counted}
use Rattle.commands.specs.declared.tail_words.Counted.TheVariants.{Bytes, Lines}
use Rattle.commands.specs.declared.tail_words.Origin.{Origin}
use Rattle.commands.specs.declared.tail_words.Origin.TheVariants.{Beginning, End}
use Rattle.commands.specs.declared.uniq_words.RunsShown.{RunsShown}
use Rattle.commands.specs.declared.uniq_words.RunsShown.TheVariants as shown
use Rattle.part_laws.specs.Laws.{NewlinesKeepLines}
use Rattle.part_laws.specs.Parts.{IsWholeLines}
use Rattle.part_laws.specs.Manners.{GoesOn}
use Rattle.part_laws.specs.Utilities.{tail_manner, uniq_manner}
use Rattle.part_laws.specs.declared.manner.Addition.TheVariants.{KeepNewlines, MarkWords}
use Rattle.part_laws.specs.declared.manner.Manner.TheVariants.{Counts, Gathers, Whole}
use Rattle.part_laws.specs.declared.manner.WholeCause.TheVariants as cause
use Rattle.part_laws.proofs.lemmas.LineLaws.{cut_keeps_lines, fold_keeps_lines}
use Rattle.part_laws.proofs.lemmas.TrManner.{tr_keeps_lines}

same_whole : (x : List ℕ) → IsWholeLines x → IsWholeLines (x ++ [])
same_whole x w = subst IsWholeLines (sym (append-nil x)) w

-- head, tail and uniq do not go on
head_gathers : (b : Bool) → GoesOn (cond b (Whole cause.Headers) Gathers) → ⊥
head_gathers true g = g
head_gathers false g = g

tail_gathers : (origin : Origin) (counted : Counted) → GoesOn (tail_manner origin counted) → ⊥
tail_gathers Beginning Lines g = g
tail_gathers Beginning Bytes g = g
tail_gathers End counted g = g

wc_counts : (named bytes words : Bool) → GoesOn (cond (not named) (Whole cause.NamesInput)
    (cond bytes (Whole cause.Counts) (cond words (Counts MarkWords) (Counts KeepNewlines)))) → ⊥
wc_counts false bytes words g = g
wc_counts true true words g = g
wc_counts true false true g = g
wc_counts true false false g = g

uniq_gathers : (shown : RunsShown) → GoesOn (uniq_manner shown) → ⊥
uniq_gathers shown.Every g = g
uniq_gathers shown.Counted g = g
uniq_gathers shown.Repeated g = g
uniq_gathers shown.Single g = g

-- a filter that goes on and keeps newlines makes whole lines of whole lines
pub newlines_keep_lines : NewlinesKeepLines
newlines_keep_lines (spec.Cat s) g k x w = same_whole x w
newlines_keep_lines (spec.Cut s) g k x w = cut_keeps_lines s x w
newlines_keep_lines (spec.Fold s) g k x w = fold_keeps_lines s x w
newlines_keep_lines (spec.Head s) g k x w = absurd (head_gathers (nat_le 2 (length s.inputs)) g)
newlines_keep_lines (spec.Paste s) g k x w = absurd g
newlines_keep_lines (spec.Tail s) g k x w = absurd (tail_gathers s.origin s.counted g)
newlines_keep_lines (spec.Tee s) g k x w = same_whole x w
newlines_keep_lines (spec.Tr s) g k x w = tr_keeps_lines s g k x w
newlines_keep_lines (spec.Uniq s) g k x w = absurd (uniq_gathers s.shown g)
newlines_keep_lines (spec.Wc s) g k x w =
    absurd (wc_counts (is_nothing s.operands) s.bytes s.words g)
