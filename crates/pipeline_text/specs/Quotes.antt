-- Quoting, joined lines and comments: what each byte of a text is, once its quotes are taken as
-- what they mean (POSIX.1-2017 XCU 2.2 Quoting, and of 2.3 Token Recognition the comments).
--
-- A text is cut into parts: a quoted string, a backslash with the byte after it, a comment, or one
-- plain byte. Each part leaves marks. No word is expanded, so a text that asks for an expansion has
-- no marks.
use Rattle.std.specs.Prelude.{ℕ, zero, suc, Bool, true, false, not, List, [], ◌∷◌, ◌++◌, length}
use Rattle.std.specs.Prelude.{map, Option, Some, None, ◌==◌, ◌&&◌, ◌||◌, if◌then◌else◌}
use Rattle.command_words.specs.Bytes.{nul, newline, single_quote, double_quote, backslash, tilde}
use Rattle.command_words.specs.Bytes.{number_sign}
use Rattle.pipeline_text.specs.ShellBytes.{ends_word, expands, is_special_in_double}
use Rattle.pipeline_text.specs.declared.mark.Mark.{Mark}
use Rattle.pipeline_text.specs.declared.mark.Mark.TheVariants.{Plain, Quoted, Quote}

-- a part of a text: its marks, whether a word goes on after it, and what follows it
pub record Part : Type 0 where
  pub marks : List Mark
  pub within : Bool
  pub rest : List ℕ

-- one more byte in front of what quotes enclose
abbrev pub enclosed : ℕ → Option (List ℕ × List ℕ) → Option (List ℕ × List ℕ)
enclosed b None = None
enclosed b (Some p) = Some (b ∷ p.0, p.1)

-- what comes before the first c, and what comes after it
abbrev pub until : ℕ → List ℕ → Option (List ℕ × List ℕ)
until c [] = None
until c (b ∷ x) = if b == c then Some ([], x) else enclosed b (until c x)

-- what double quotes enclose up to the closing one, and what follows that (XCU 2.2.3)
abbrev pub until_double : List ℕ → Option (List ℕ × List ℕ)
until_double [] = None
until_double (b ∷ []) = if b == double_quote then Some ([], []) else None
until_double (b ∷ c ∷ x) =
    if b == double_quote then Some ([], c ∷ x)
    else (if expands b then None
    else (if b == backslash then (
    if c == newline then until_double x
    else (if is_special_in_double c then enclosed c (until_double x)
    else enclosed b (until_double (c ∷ x))))
    else enclosed b (until_double (c ∷ x))))

-- from the next newline on
abbrev pub line_end : List ℕ → List ℕ
line_end [] = []
line_end (b ∷ x) = if b == newline then b ∷ x else line_end x

-- the part that a backslash begins, if x follows it: a newline is taken away with it, another byte
-- is quoted (XCU 2.2.1)
abbrev pub backslashed_part : Bool → List ℕ → Option Part
backslashed_part within [] = None
backslashed_part within (c ∷ x) =
    if c == newline then Some (record { marks = []; within = within; rest = x })
    else Some (record { marks = Quoted c ∷ []; within = true; rest = x })

-- the part that is what quotes enclose, and the quotes
abbrev pub quoted_part : Option (List ℕ × List ℕ) → Option Part
quoted_part None = None
quoted_part (Some p) = Some (record {
  marks = Quote ∷ (map Quoted p.0 ++ Quote ∷ []);
  within = true;
  rest = p.1;
})

-- The part that begins with b, if x follows b and `within` says whether a word goes on. If none
-- does, `~` would be expanded and `#` begins a comment, up to the newline.
abbrev pub part : Bool → ℕ → List ℕ → Option Part
part within b x =
    if b == backslash then backslashed_part within x
    else (if b == single_quote then quoted_part (until single_quote x)
    else (if b == double_quote then quoted_part (until_double x)
    else (if expands b || (not within && (b == tilde)) then None
    else (if not within && (b == number_sign) then Some (record {
      marks = [];
      within = false;
      rest = line_end x;
    })
    else Some (record { marks = Plain b ∷ []; within = not (ends_word b); rest = x })))))

-- these marks, before those of what follows
abbrev pub with_marks : List Mark → Option (List Mark) → Option (List Mark)
with_marks front None = None
with_marks front (Some ms) = Some (front ++ ms)

-- the marks of a part, and then those that `next` makes of what follows it
abbrev pub part_then : Option Part → (Bool → List ℕ → Option (List Mark)) → Option (List Mark)
part_then None next = None
part_then (Some p) next = with_marks p.marks (next p.within p.rest)

-- The marks of the first part, then those of what follows it. A part has at least one byte, so a
-- text of n bytes has at most n parts.
unfoldable pub marks_of_parts : ℕ → Bool → List ℕ → Option (List Mark)
marks_of_parts n within [] = Some []
marks_of_parts zero within (b ∷ x) = None
marks_of_parts (suc n) within (b ∷ x) = part_then (part within b x) (marks_of_parts n)

-- whether a NUL byte is in a text
abbrev pub has_nul : List ℕ → Bool
has_nul [] = false
has_nul (b ∷ x) = (b == nul) || has_nul x

-- the marks of a text: none if it has a NUL byte
abbrev pub marks : List ℕ → Option (List Mark)
marks text = if has_nul text then None else marks_of_parts (length text) false text
