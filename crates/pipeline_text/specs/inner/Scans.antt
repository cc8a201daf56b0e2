-- The marks of a text as a reader finds them that goes from byte to byte. No public contract cites
-- this file: that these are the marks of a text's parts is proved.
use Rattle.std.specs.Prelude.{◌≡◌, ◌≤◌, ℕ, Bool, true, false, List, [], ◌∷◌, drop, length, Option}
use Rattle.std.specs.Prelude.{Some, None, option_and_then, ◌==◌, ◌&&◌, ◌||◌, if◌then◌else◌}
use Rattle.std.specs.Prelude.{slice_get}
use Rattle.command_words.specs.Bytes.{nul, newline, single_quote, double_quote, backslash, tilde}
use Rattle.command_words.specs.Bytes.{number_sign}
use Rattle.pipeline_text.specs.ShellBytes.{ends_word, expands, is_special_in_double}
use Rattle.pipeline_text.specs.declared.fault.TextFaultKind.TheVariants as kind
use Rattle.pipeline_text.specs.declared.fault.TextFault.{TextFault}
use Rattle.pipeline_text.specs.declared.mark.Mark.{Mark}
use Rattle.pipeline_text.specs.declared.mark.Mark.TheVariants.{Plain, Quoted, Quote}
use Rattle.pipeline_text.specs.declared.moves.Place.{Place}
use Rattle.pipeline_text.specs.declared.moves.Place.TheVariants.{Between, Within, Single, Double}
use Rattle.pipeline_text.specs.declared.moves.Place.TheVariants.{Comment}
use Rattle.pipeline_text.specs.declared.moves.Move.{Move}
use Rattle.pipeline_text.specs.declared.moves.Move.TheVariants.{Gives, Escapes, Skips, Joins}
use Rattle.pipeline_text.specs.declared.moves.Move.TheVariants.{Expands, Breaks}
use Rattle.pipeline_text.specs.declared.moves.Ahead.{Ahead}
use Rattle.pipeline_text.specs.declared.moves.Ahead.TheVariants as ahead

abbrev pub head : List ℕ → Option ℕ
head [] = None
head (x ∷ xs) = Some x

abbrev pub with_mark : Mark → Option (List Mark) → Option (List Mark)
with_mark m ms = option_and_then (λ (ms : List Mark). Some (m ∷ ms)) ms

-- After a backslash. A NUL byte there is met next.
abbrev pub backslashed : Place → Option ℕ → Move
backslashed place None = Breaks
backslashed place (Some c) = if c == nul then Skips place
    else (if c == newline then Joins place else Escapes (Quoted c) Within)

abbrev pub begins : Place → Bool
begins Between = true
begins _ = false

abbrev pub unquoted : Place → ℕ → Option ℕ → Move
unquoted place b next =
    if b == backslash then backslashed place next
    else (if b == single_quote then Gives Quote Single
    else (if b == double_quote then Gives Quote Double
    else (if expands b || (begins place && (b == tilde)) then Expands
    else (if begins place && (b == number_sign) then Skips Comment
    else (if ends_word b then Gives (Plain b) Between
    else Gives (Plain b) Within)))))

abbrev pub double_backslashed : Option ℕ → Move
double_backslashed None = Breaks
double_backslashed (Some c) = if c == newline then Joins Double
    else (if is_special_in_double c then Escapes (Quoted c) Double
    else Gives (Quoted backslash) Double)

abbrev pub in_double : ℕ → Option ℕ → Move
in_double b next =
    if b == double_quote then Gives Quote Within
    else (if expands b then Expands
    else (if b == backslash then double_backslashed next
    else Gives (Quoted b) Double))

abbrev pub in_single : ℕ → Move
in_single b = if b == single_quote then Gives Quote Within else Gives (Quoted b) Single

abbrev pub in_comment : ℕ → Move
in_comment b = if b == newline then Gives (Plain b) Between else Skips Comment

-- what a byte that is not NUL does, at this place and before this byte
abbrev pub moves : Place → ℕ → Option ℕ → Move
moves Between b next = unquoted Between b next
moves Within b next = unquoted Within b next
moves Single b next = in_single b
moves Double b next = in_double b next
moves Comment b next = in_comment b

abbrev pub is_open : Place → Bool
is_open Single = true
is_open Double = true
is_open _ = false

-- what a move makes of the marks of what follows it, one byte and two bytes further
abbrev pub made : Move → (Place → Option (List Mark)) → (Place → Option (List Mark))
    → Option (List Mark)
made (Gives m place) one two = with_mark m (one place)
made (Escapes m place) one two = with_mark m (two place)
made (Skips place) one two = one place
made (Joins place) one two = two place
made Expands one two = None
made Breaks one two = None

abbrev pub ended : Place → Option (List Mark)
ended place = if is_open place then None else Some []

-- the marks of a text that begins in this place
unfoldable pub marked : Place → List ℕ → Option (List Mark)
marked place [] = ended place
marked place (b ∷ []) = if b == nul then None else made (moves place b None) ended ended
marked place (b ∷ c ∷ x) = if b == nul then None
    else made (moves place b (Some c)) (λ (q : Place). marked q (c ∷ x)) (λ (q : Place). marked q x)

-- the marks of a text from a position on, which is reached in this place
abbrev pub marks_from : Place → List ℕ → ℕ → Option (List Mark)
marks_from place text position = marked place (drop position text)

-- the next mark, before those of what follows it
abbrev pub left : Ahead → Option (List Mark) → Option (List Mark)
left (ahead.Mark m) ms = with_mark m ms
left ahead.End ms = Some []
left (ahead.Fault f) ms = None

-- a fault of a text, and the place that it names
pub record IsFlaw (text : List ℕ) (fault : TextFault) : Type 0 where
  pub within : fault.offset ≤ length text
  pub at_nul : fault.kind ≡ kind.NulByte → slice_get text fault.offset ≡ Some nul
  pub not_long : fault.kind ≡ kind.TooLong → ⊥

-- what is ahead is a mark, the end, or a fault that the text has
abbrev pub IsAhead : List ℕ → Ahead → Type 0
IsAhead text a = (fault : TextFault) → a ≡ ahead.Fault fault → IsFlaw text fault

-- a mark took at least one byte
abbrev pub size : Ahead → ℕ
size (ahead.Mark m) = 1
size ahead.End = 0
size (ahead.Fault f) = 0
