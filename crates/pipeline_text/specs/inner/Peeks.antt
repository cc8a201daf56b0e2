-- What a reader knows from the next mark, and of a word that it has begun. No public contract cites
-- this file.
use Rattle.std.specs.Prelude.{ℕ, Bool, true, false, List, ◌++◌, Option, Some, None, ◌==◌, ◌&&◌}
use Rattle.std.specs.Prelude.{if◌then◌else◌}
use Rattle.command_words.specs.Bytes.{equals}
use Rattle.pipeline_text.specs.ShellBytes.{begins_name, continues_name}
use Rattle.pipeline_text.specs.declared.mark.Mark.{Mark}
use Rattle.pipeline_text.specs.declared.mark.Mark.TheVariants.{Plain, Quoted, Quote}
use Rattle.pipeline_text.specs.declared.moves.Ahead.{Ahead}
use Rattle.pipeline_text.specs.declared.moves.Ahead.TheVariants as ahead
use Rattle.pipeline_text.specs.declared.shape.Naming.{Naming}
use Rattle.pipeline_text.specs.declared.shape.Naming.TheVariants.{Begins, Continues, Assigns, Fails}
use Rattle.pipeline_text.specs.declared.shape.Shape.{Shape}
use Rattle.pipeline_text.specs.declared.token.Look.{Look}
use Rattle.pipeline_text.specs.declared.token.Token.{Token}
use Rattle.pipeline_text.specs.Tokens.{is_blank, goes_on, is_plain, is_digit, is_assignment}
use Rattle.pipeline_text.specs.Tokens.{goes_to_equals, look_of, all_marks, word_token, value, word}
use Rattle.pipeline_text.specs.Tokens.{after_word, plain_head}

abbrev pub plain_ahead : Ahead → Option ℕ
plain_ahead (ahead.Mark (Plain b)) = Some b
plain_ahead _ = None

-- the next mark, if a word goes on with it
abbrev pub word_mark : Ahead → Option Mark
word_mark (ahead.Mark m) = if goes_on m then Some m else None
word_mark _ = None

abbrev pub blank_is_next : Ahead → Bool
blank_is_next (ahead.Mark m) = is_blank m
blank_is_next _ = false

abbrev pub is_fault : Ahead → Bool
is_fault (ahead.Fault f) = true
is_fault _ = false

-- the byte of a mark, and 0 at a quote
abbrev pub byte_in : Mark → ℕ
byte_in (Plain b) = b
byte_in (Quoted b) = b
byte_in Quote = 0

-- whether a word assigns, after some marks of it were read; these are the rest
abbrev pub assigns : Naming → List Mark → Bool
assigns Begins x = is_assignment x
assigns Continues x = goes_to_equals x
assigns Assigns x = true
assigns Fails x = false

abbrev pub named_plain : Naming → ℕ → Naming
named_plain Begins b = if begins_name b then Continues else Fails
named_plain Continues b = if b == equals then Assigns
    else (if continues_name b then Continues else Fails)
named_plain Assigns b = Assigns
named_plain Fails b = Fails

-- the same with one more mark read
abbrev pub named : Naming → Mark → Naming
named n (Plain b) = named_plain n b
named Assigns _ = Assigns
named _ _ = Fails

-- what is known of a word with one more mark
abbrev pub shaped : Shape → Mark → Shape
shaped s m =
    record {
      plain = s.plain && is_plain m;
      digits = s.digits && is_digit m;
      naming = named s.naming m;
    }

-- what is known of a word before its first mark
abbrev pub no_shape : Shape
no_shape = record { plain = true; digits = true; naming = Begins }

abbrev pub look_with : Shape → List Mark → Look
look_with s x = look_of (assigns s.naming x) (s.plain && all_marks is_plain x)

-- a word after some marks of it were read, before the rest; and what follows it
abbrev pub word_goes : List ℕ → Shape → List Mark → Option (Token × List Mark)
word_goes bytes s x = Some (
  word_token (bytes
      ++ value (word x)) (look_with s (word x)) (s.digits
      && all_marks is_digit (word x)) (plain_head (after_word x)),
  after_word x,
)
