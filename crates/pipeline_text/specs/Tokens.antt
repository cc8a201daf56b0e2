-- The tokens of a text whose quoting is known: the longest gap or token in front, then the tokens
-- of what follows (POSIX.1-2017 XCU 2.3 Token Recognition, 2.6.7 Quote Removal, 2.7 Redirection;
-- XBD 3.113 Control Operator).
use Rattle.std.specs.Prelude.{ℕ, zero, suc, Bool, true, false, not, List, [], ◌∷◌, ◌++◌, length}
use Rattle.std.specs.Prelude.{drop, Option, Some, None, ◌==◌, ◌&&◌, ◌||◌, if◌then◌else◌}
use Rattle.command_words.specs.Bytes.{newline, ampersand, semicolon, less, greater, equals, bar}
use Rattle.command_words.specs.Bytes.{is_blank_byte, is_digit_byte}
use Rattle.pipeline_text.specs.ShellBytes.{ends_word, begins_name, continues_name}
use Rattle.pipeline_text.specs.declared.mark.Mark.{Mark}
use Rattle.pipeline_text.specs.declared.mark.Mark.TheVariants.{Plain, Quoted, Quote}
use Rattle.pipeline_text.specs.declared.token.Look.{Look}
use Rattle.pipeline_text.specs.declared.token.Look.TheVariants.{Unquoted, Assignment, PartlyQuoted}
use Rattle.pipeline_text.specs.declared.token.Control.TheVariants.{Pipe, Background, Semicolon}
use Rattle.pipeline_text.specs.declared.token.Control.TheVariants.{Newline}
use Rattle.pipeline_text.specs.declared.token.Redirection.TheVariants.{Input, Output, Append}
use Rattle.pipeline_text.specs.declared.token.Operator.{Operator}
use Rattle.pipeline_text.specs.declared.token.Operator.TheVariants as operators
use Rattle.pipeline_text.specs.declared.token.Token.{Token}
use Rattle.pipeline_text.specs.declared.token.Token.TheVariants as token
use Rattle.command_words.specs.Texts.{◌>>=◌}

-- an unquoted blank
abbrev pub is_blank : Mark → Bool
is_blank (Plain b) = is_blank_byte b
is_blank (Quoted b) = false
is_blank Quote = false

-- whether a word goes on with this mark
abbrev pub goes_on : Mark → Bool
goes_on (Plain b) = not (ends_word b)
goes_on (Quoted b) = true
goes_on Quote = true

abbrev pub is_plain : Mark → Bool
is_plain (Plain b) = true
is_plain (Quoted b) = false
is_plain Quote = false

-- an unquoted digit
abbrev pub is_digit : Mark → Bool
is_digit (Plain b) = is_digit_byte b
is_digit (Quoted b) = false
is_digit Quote = false

-- what a mark leaves once the quotes are removed
abbrev pub byte_of : Mark → List ℕ
byte_of (Plain b) = b ∷ []
byte_of (Quoted b) = b ∷ []
byte_of Quote = []

-- the value of a word: its bytes, without its quotes
abbrev pub value : List Mark → List ℕ
value [] = []
value (m ∷ x) = byte_of m ++ value x

-- whether each mark passes a test
abbrev pub all_marks : (Mark → Bool) → List Mark → Bool
all_marks test [] = true
all_marks test (m ∷ x) = test m && all_marks test x

-- the longest word in front
abbrev pub word : List Mark → List Mark
word [] = []
word (m ∷ x) = if goes_on m then m ∷ word x else []

-- what follows the longest word in front
abbrev pub after_word : List Mark → List Mark
after_word [] = []
after_word (m ∷ x) = if goes_on m then after_word x else m ∷ x

-- the rest of a name, and `=`, all unquoted
abbrev pub goes_to_equals : List Mark → Bool
goes_to_equals (Plain b ∷ x) = (b == equals) || (continues_name b && goes_to_equals x)
goes_to_equals _ = false

-- whether a word begins with an unquoted name and `=` (XCU 2.10.2, rule 7)
abbrev pub is_assignment : List Mark → Bool
is_assignment (Plain b ∷ x) = begins_name b && goes_to_equals x
is_assignment _ = false

-- what a word looks like, as far as this is known of it
abbrev pub look_of : Bool → Bool → Look
look_of assigns plain = if assigns then Assignment else (if plain then Unquoted else PartlyQuoted)

-- the unquoted byte in front
abbrev pub plain_head : List Mark → Option ℕ
plain_head (Plain b ∷ x) = Some b
plain_head _ = None

-- whether there is a byte, and it is b
abbrev pub is_some_of : ℕ → Option ℕ → Bool
is_some_of b (Some c) = c == b
is_some_of b None = false

-- whether a redirection begins with the next byte
abbrev pub redirects : Option ℕ → Bool
redirects next = is_some_of less next || is_some_of greater next

-- Digits alone, directly before a redirection, are a descriptor's number (XCU 2.10.1).
abbrev pub word_token : List ℕ → Look → Bool → Option ℕ → Token
word_token bytes look digits next = if digits && redirects next then token.Number bytes
    else token.Word bytes look

-- an operator of one byte, if the next byte does not make it one that is refused
abbrev pub unless : Bool → Operator → Option (Operator × Bool)
unless refused operator = if refused then None else Some (operator, false)

-- The longest operator that begins with an unquoted byte, and whether it takes the next byte too.
-- There is none if that is `||`, `&&`, `;;`, `(`, `)`, `<<`, `<<-`, `<&`, `>&` or `<>`.
abbrev pub operator : ℕ → Option ℕ → Option (Operator × Bool)
operator b next =
    if b == newline then Some (operators.Control Newline, false)
    else (if b == bar then unless (is_some_of bar next) (operators.Control Pipe)
    else (if b == ampersand then unless (is_some_of ampersand next) (operators.Control Background)
    else (if b == semicolon then unless (is_some_of semicolon next) (operators.Control Semicolon)
    else (if b == less
    then unless (is_some_of less next || is_some_of ampersand next
    || is_some_of greater next) (operators.Redirection Input)
    else (if b == greater then (
    if is_some_of greater next then Some (operators.Redirection Append, true)
    else (if is_some_of bar next then Some (operators.Redirection Output, true)
    else unless (is_some_of ampersand next) (operators.Redirection Output)))
    else None)))))

-- the operator at the beginning, if b is its first byte and x follows that; and what follows the
-- operator
abbrev pub operator_at : ℕ → List Mark → Option (Operator × List Mark)
operator_at b x = operator b (plain_head x)
    >>= λ (o : Operator × Bool). Some (o.0, if o.1 then drop 1 x else x)

-- the word in front, and what follows it
abbrev pub word_at : List Mark → Option (Token × List Mark)
word_at x = Some (
  word_token (value (word x)) (look_of (is_assignment (word x)) (all_marks is_plain (word x)))
      (all_marks is_digit (word x)) (plain_head (after_word x)),
  after_word x,
)

abbrev pub operator_token : Option (Operator × List Mark) → Option (Token × List Mark)
operator_token o = o >>= λ (o : Operator × List Mark). Some (token.Operator o.0, o.1)

-- the longest token in front, which begins with a mark that is no blank; and what follows it
abbrev pub token_at : Mark → List Mark → Option (Token × List Mark)
token_at (Plain b) x = if ends_word b then operator_token (operator_at b x)
    else word_at (Plain b ∷ x)
token_at (Quoted b) x = word_at (Quoted b ∷ x)
token_at Quote x = word_at (Quote ∷ x)

-- this token, before those of what follows
abbrev pub with_token : Token → Option (List Token) → Option (List Token)
with_token t ts = ts >>= λ (ts : List Token). Some (t ∷ ts)

-- The first token, then the tokens of what follows it, with blanks in between. A token has at least
-- one mark, so n marks have at most n tokens.
unfoldable pub tokens_in : ℕ → List Mark → Option (List Token)
tokens_in n [] = Some []
tokens_in zero (m ∷ x) = None
tokens_in (suc n) (m ∷ x) = if is_blank m then tokens_in n x else token_at m x
    >>= λ (t : Token × List Mark). with_token t.0 (tokens_in n t.1)

-- the tokens of a text's marks
unfoldable pub tokens : List Mark → Option (List Token)
tokens x = tokens_in (length x) x
