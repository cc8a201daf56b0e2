-- What the definitions say of every text, in the words of the standard.
use Rattle.std.specs.Prelude.{◌≡◌, ℕ, List, [], ◌∷◌, ◌++◌, Bool, false, Some, ◌==◌, ◌||◌}
use Rattle.command_words.specs.Bytes.{single_quote}
use Rattle.pipeline_text.specs.declared.token.Look.TheVariants.{PartlyQuoted}
use Rattle.pipeline_text.specs.declared.token.Token.TheVariants.{Word}
use Rattle.command_words.specs.Texts.{◌>>=◌}
use Rattle.pipeline_text.specs.Quotes.{has_nul, marks}
use Rattle.pipeline_text.specs.Tokens.{tokens}

-- whether a single quote is in a text
abbrev pub has_single_quote : List ℕ → Bool
has_single_quote [] = false
has_single_quote (b ∷ x) = (b == single_quote) || has_single_quote x

-- Enclosing characters in single quotes preserves the literal value of each of them (XCU 2.2.2):
-- whatever is between two of them is one word, unchanged.
abbrev pub KeepsSingleQuoted : Type 0
KeepsSingleQuoted = (x : List ℕ) → has_nul x ≡ false → has_single_quote x ≡ false
    → (marks (single_quote ∷ x ++ single_quote ∷ []) >>= tokens) ≡ Some (Word x PartlyQuoted ∷ [])
