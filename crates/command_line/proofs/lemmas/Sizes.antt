-- What comes after the name of an option in a word.
use Rattle.std.proofs.Common.{◌≡◌, Option, Some, None, Bor, IsCharBoundary, MatchOption, ap, false}
use Rattle.std.proofs.Common.{option_map, refl, subst, sym, true}
use Rattle.std.proofs.lemmas.Str.Pattern.{starts_text}
use Rattle.std.specs.Str.Pattern.{FindsTextPrefix, StripsPrefix}
use Rattle.clap.specs.Words.{Text}
use Rattle.command_line.specs.Sizes.{after}

-- what is left of a word without the text that it begins with
pub after_by : (start word : Text) (rest : Option (Bor Text))
    → MatchOption rest (FindsTextPrefix start word None)
    (λ x. StripsPrefix (FindsTextPrefix start) word x.now)
    → option_map (λ x. x.now) rest ≡ after start word
after_by start word None lacks = rw (sym (starts_text false start word lacks)) refl
after_by start word (Some rest) (n, (is, splits, edge), dropped, long) =
    rw (
      sym (starts_text true start word (
        n,
        (is, splits, edge),
        subst (λ k. IsCharBoundary word k) (sym is) edge,
      )),
      sym is,
    ) (ap Some dropped)
