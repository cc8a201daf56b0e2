-- What a lexer has left. No public contract cites this file.
--
-- What is left of a text is none, or what the definitions make of it; a reader takes its first
-- member off.
use Rattle.std.specs.Prelude.{◌≡◌, ◌≤◌, ◌<◌, ◌+◌, ℕ, List, [], Option, Some, None, Result, Ok, Err}
use Rattle.pipeline_text.specs.declared.fault.TextFault.{TextFault}
use Rattle.pipeline_text.specs.declared.mark.Mark.{Mark}
use Rattle.pipeline_text.specs.declared.lexer.Lexer.{Lexer}
use Rattle.pipeline_text.specs.declared.shape.Shape.{Shape}
use Rattle.pipeline_text.specs.declared.token.Operator.{Operator}
use Rattle.pipeline_text.specs.declared.token.Token.{Token}
use Rattle.command_words.specs.Texts.{◌>>=◌}
use Rattle.pipeline_text.specs.Quotes.{marks}
use Rattle.pipeline_text.specs.Tokens.{tokens, operator_at, with_token}
use Rattle.pipeline_text.specs.Refusals.{IsRefusal}
use Rattle.pipeline_text.specs.inner.Scans.{left, size}
use Rattle.pipeline_text.specs.inner.Left.{marks_left, bytes_left}
use Rattle.pipeline_text.specs.inner.Peeks.{word_goes}

-- the text that is read
abbrev pub text_of : Lexer → List ℕ
text_of l = l.scanner.text.now

-- the marks from the next one on
abbrev pub marks_in : Lexer → Option (List Mark)
marks_in l = left l.ahead (marks_left l.scanner)

abbrev pub tokens_left : Lexer → Option (List Token)
tokens_left l = marks_in l >>= tokens

-- how much there is to read
abbrev pub extent : Lexer → ℕ
extent l = size l.ahead + bytes_left l.scanner

-- the same text, and no more of it to read
pub record GoesOn (old new : Lexer) : Type 0 where
  pub text : text_of new ≡ text_of old
  pub shorter : extent new ≤ extent old

-- Some part was read of what was left: it is what was read, before what is left now. Or the text is
-- refused.
abbrev pub Reads : {X A B : Type 0} → List ℕ → Result X TextFault → Option A
    → (X → Option B → Option A) → Option B → Type 0
Reads text (Ok x) old with new = old ≡ with x new
Reads text (Err fault) old with new = IsRefusal text fault old

-- Tokens were read of a lexer: what `whole` makes of those that were left is what was read, before
-- those that are left now. Or the text is refused.
abbrev pub ReadsTokens : {X A : Type 0} → Lexer → Lexer → Result X TextFault
    → (Option (List Token) → Option A) → (X → Option (List Token) → Option A) → Type 0
ReadsTokens old new result whole with =
    Reads (text_of old) result (whole (tokens_left old)) with (tokens_left new)

-- a token, or the end
abbrev pub token_before : Option Token → Option (List Token) → Option (List Token)
token_before (Some t) ts = with_token t ts
token_before None ts = Some []

abbrev pub part_before : {A : Type 0} → A → Option (List Mark) → Option (A × List Mark)
part_before a ms = ms >>= λ (ms : List Mark). Some (a, ms)

abbrev pub operator_left : ℕ → Lexer → Option (Operator × List Mark)
operator_left b l = marks_in l >>= operator_at b

abbrev pub word_left : List ℕ → Shape → Lexer → Option (Token × List Mark)
word_left bytes shape l = marks_in l >>= word_goes bytes shape

-- if a token was read, there is less to read
abbrev pub Shrinks : Result (Option Token) TextFault → ℕ → ℕ → Type 0
Shrinks (Ok (Some t)) old new = new < old
Shrinks (Ok None) old new = Unit {0}
Shrinks (Err fault) old new = Unit {0}

-- after the last token there are none
abbrev pub StaysAtEnd : Result (Option Token) TextFault → Option (List Token) → Type 0
StaysAtEnd (Ok None) ts = ts ≡ Some []
StaysAtEnd _ ts = Unit {0}

-- the tokens of a text
abbrev pub tokens_of : List ℕ → Option (List Token)
tokens_of text = marks text >>= tokens
