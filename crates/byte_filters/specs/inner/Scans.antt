-- How the end of a segment is found: from the beginning of a stream, or byte by byte. No public
-- contract cites this file.
use Rattle.std.specs.Prelude.{◌≡◌, ℕ, zero, suc, ◌+◌, ◌≤◌, List, [], ◌∷◌, ◌++◌, Bool, true, false, ◌==◌, ◌&&◌}
use Rattle.std.specs.Prelude.{◌||◌, not, Option, Some, None, drop, length, nat_lt, take}
use Rattle.std.specs.Prelude.{if◌then◌else◌}
use Rattle.std.specs.List.{prefix_len}
use Rattle.machine.specs.Lines.{newline}
use Rattle.command_words.specs.Bytes.{is_blank_byte}
use Rattle.commands.specs.declared.fold_words.FoldForm.{FoldForm}
use Rattle.byte_filters.specs.declared.segment.Scan.{Scan}
use Rattle.byte_filters.specs.declared.segment.SegmentStep.{SegmentStep}
use Rattle.byte_filters.specs.declared.segment.SegmentStep.TheVariants.{Goes, Ends}
use Rattle.byte_filters.specs.declared.segment.SegmentEnd.{SegmentEnd}
use Rattle.byte_filters.specs.declared.segment.SegmentEnd.TheVariants.{Cut, Line, Open}
use Rattle.commands.specs.Fold.{column_after, fits, folded, is_back}

-- a byte that moves the column by one, and is no newline
abbrev pub is_plain : ℕ → Bool
is_plain x = nat_lt 13 x

-- a byte that ends its line, or can move the column in its own way
abbrev pub is_mover : ℕ → Bool
is_mover x = x == newline || (x == 9 || is_back x)

-- The place after the last blank among the first n bytes, or `found` if there is none; `place`
-- bytes come before them.
abbrev pub past_blank : ℕ → ℕ → ℕ → List ℕ → ℕ
past_blank found place zero xs = found
past_blank found place (suc n) [] = found
past_blank found place (suc n) (x ∷ xs) =
    past_blank (if is_blank_byte x then place + 1 else found) (place + 1) n xs

-- a byte that does not move the column in its own way: it is no backspace, tab or carriage return,
-- or bytes are counted
abbrev pub is_even : FoldForm → ℕ → Bool
is_even spec x = spec.bytes || not (x == 8 || x == 9 || x == 13)

-- a byte that does not end its line
abbrev pub is_inside : ℕ → Bool
is_inside x = not (x == newline)

-- the first n bytes of a stream are none that ends its line, or moves the column in its own way
pub record IsEvenUpTo (spec : FoldForm) (bytes : List ℕ) (n : ℕ) : Type 0 where
  pub inside : n ≤ prefix_len is_inside bytes
  pub even : n ≤ prefix_len (is_even spec) bytes

-- the column after a byte, if it fits
abbrev pub column_within : FoldForm → ℕ → ℕ → Option ℕ
column_within spec column x = if fits spec (column_after spec column x)
    then Some (column_after spec column x) else None

-- what is known of a segment once this byte is its last: the column after it, if all fit
abbrev pub scan_of : Option ℕ → ℕ → ℕ → ℕ → Scan
scan_of None last at found = record { column = 0; over = true; last = last; at = at; found = found }
scan_of (Some column) last at found =
    record {
      column = column;
      over = false;
      last = last;
      at = at;
      found = found;
    }

-- a segment that begins with this byte
abbrev pub begun : FoldForm → ℕ → Scan
begun spec x = scan_of (column_within spec 0 x) x 0 0

-- the place after the last blank at which a line may be cut, once the next byte is known
abbrev pub found_before : FoldForm → Scan → ℕ → ℕ
found_before spec s x = if spec.spaces && (is_blank_byte s.last && (spec.bytes || not (is_back x)))
    then s.at + 1 else s.found

-- a byte that does not fit
abbrev pub unfit : FoldForm → Scan → ℕ → SegmentStep
unfit spec s x =
    if not spec.bytes && (is_back s.last || is_back x)
    then Goes (scan_of None x (s.at + 1) (found_before spec s x)) else Ends (s.at + 1)

-- the next byte if all before it fit, by the column after it, if it fits too
abbrev pub step_by : FoldForm → Scan → ℕ → Option ℕ → SegmentStep
step_by spec s x (Some column) = Goes (scan_of (Some column) x (s.at + 1) (found_before spec s x))
step_by spec s x None = if nat_lt 0 (found_before spec s x) then Ends (found_before spec s x)
    else unfit spec s x

-- the next byte: the segment goes on, or ends after this many bytes
abbrev pub next_step : FoldForm → Scan → ℕ → SegmentStep
next_step spec s x = if s.over then unfit spec s x
    else step_by spec s x (column_within spec s.column x)

-- what a step brings: what the scan of what follows brings, or the end of the segment
abbrev pub scan_step : (Scan → SegmentEnd) → SegmentStep → SegmentEnd
scan_step next (Goes s) = next s
scan_step next (Ends n) = Cut n

-- what these bytes bring: the segment ends, its line ends, or neither
abbrev pub scanned : FoldForm → Scan → List ℕ → SegmentEnd
scanned spec s [] = Open s
scanned spec s (x ∷ xs) = if x == newline then Line (s.at + 1)
    else scan_step (λ (t : Scan). scanned spec t xs) (next_step spec s x)

-- A part at the beginning of a stream. Whatever follows, all of it gives these bytes, a newline if
-- the line is cut after them, and what the bytes after them give.
pub record IsPart (spec : FoldForm) (bytes : List ℕ) (count : ℕ) (cut : Bool) : Type 0 where
  pub some : 1 ≤ count
  pub within : count ≤ length bytes
  pub goes_on : (ys : List ℕ)
      → folded spec (bytes ++ ys)
      ≡ (take count bytes ++ (if cut then newline ∷ [] else []))
      ++ folded spec (drop count bytes ++ ys)

-- These bytes were folded but for what is left of them: whatever follows, what was written and
-- what they give is what is written now and what those that are left give.
pub record Folds (spec : FoldForm) (bytes rest made made' : List ℕ) : Type 0 where
  pub goes_on : (y : List ℕ) → made ++ folded spec (bytes ++ y) ≡ made' ++ folded spec (rest ++ y)
