-- Bytes of a line that fold cuts nowhere.
use Rattle.std.proofs.Common.{◌≡◌, ℕ, List, [], ◌∷◌, ◌∙◌, sym, eqb, false}
use Rattle.std.proofs.lemmas.List.Elements.{All-head, All-tail}
use Rattle.machine.specs.Lines.{newline, HasNoNewline}
use Rattle.commands.specs.declared.fold_words.FoldForm.{FoldForm}
use Rattle.commands.specs.Fold.{folded}
use Rattle.byte_filters.specs.FoldCuts.{IsUncut}
use Rattle.byte_filters.proofs.lemmas.FoldLaws.{folded-plain}
use Rattle.byte_filters.proofs.lemmas.ScanLaws.{Plain}

none_plain : (xs : List ℕ) → HasNoNewline xs → Plain xs
none_plain [] h = tt
none_plain (x ∷ xs) h = (
  All-head (λ y. eqb y newline ≡ false) x xs h,
  none_plain xs (All-tail (λ y. eqb y newline ≡ false) x xs h),
)

-- bytes without newline that are folded to themselves
pub uncut_plain : (spec : FoldForm) (xs : List ℕ) → HasNoNewline xs → folded spec xs ≡ xs
    → IsUncut spec xs
uncut_plain spec xs none e = sym (folded-plain spec xs (none_plain xs none)) ∙ e
