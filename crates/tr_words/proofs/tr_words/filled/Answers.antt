use Rattle.std.proofs.Common.{◌≡◌, ◌-◌, List, ℕ, Option, Some, length, subst, ap, sym, ◌∙◌}
use Rattle.command_words.specs.inner.Refusals.{MeetsWords}
use Rattle.command_words.specs.Texts.{◌>>=◌}
use Rattle.tr_words.specs.Expansions.{expanded}
use Rattle.tr_words.specs.declared.expansion.Expansion.{Expansion}
use Rattle.tr_words.proofs.tr_words.filled.Goals as goal

pub returns : goal.returns
returns c =
    let es = c.args.elements.now in
    let short = c.in_ok-short.short in
    let e : expanded 0 es ≡ Some short = c.in_ok-short.ensures in
    let n : c.saturating_sub-needed.result ≡ c.args.length - length short.bytes =
    c.saturating_sub-needed.ensures
    ∙ ap (λ (xs : List ℕ). c.args.length - length xs) c.as_slice.ensures in
    subst (λ (o : Option Expansion). MeetsWords c.expanded-2.result
    (o >>= λ (s : Expansion). expanded (c.args.length - length s.bytes) es)) (sym e)
    (subst (λ (k : ℕ). MeetsWords c.expanded-2.result (expanded k es)) n c.expanded-2.ensures)
