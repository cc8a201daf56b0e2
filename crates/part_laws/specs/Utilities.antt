-- The manner in which each filter goes, by its utility (POSIX.1-2017 XCU, DESCRIPTION and OPTIONS
-- of each page).
use Rattle.std.specs.Prelude.{ℕ, Bool, true, false, not, ◌&&◌, ◌==◌, List, [], ◌∷◌, Option}
use Rattle.std.specs.Prelude.{Some, None, count_by, length, nat_le, nat_lt, slice_index}
use Rattle.std.specs.Prelude.{if◌then◌else◌}
use Rattle.machine.specs.Lines.{newline}
use Rattle.commands.specs.Filters.{is_nothing}
use Rattle.commands.specs.declared.spec.FilterSpec.{FilterSpec}
use Rattle.commands.specs.declared.spec.FilterSpec.TheVariants as spec
use Rattle.commands.specs.declared.cut_words.Parts.{Parts}
use Rattle.commands.specs.declared.cut_words.Parts.TheVariants as parts
use Rattle.commands.specs.declared.tail_words.Counted.{Counted}
use Rattle.commands.specs.declared.tail_words.Counted.TheVariants.{Bytes, Lines}
use Rattle.commands.specs.declared.tail_words.Origin.{Origin}
use Rattle.commands.specs.declared.tail_words.Origin.TheVariants.{Beginning, End}
use Rattle.commands.specs.declared.uniq_words.RunsShown.{RunsShown}
use Rattle.commands.specs.declared.uniq_words.RunsShown.TheVariants as shown
use Rattle.commands.specs.declared.wc_words.WcSpec.{WcSpec}
use Rattle.tr_words.specs.Tr.{in_set}
use Rattle.tr_words.specs.declared.tr_words.TrSpec.{TrSpec}
use Rattle.part_laws.specs.declared.manner.Addition.TheVariants.{KeepNewlines, MarkWords}
use Rattle.part_laws.specs.declared.manner.Manner.{Manner}
use Rattle.part_laws.specs.declared.manner.Manner.TheVariants.{ByBytes, ByLines, Counts, Gathers}
use Rattle.part_laws.specs.declared.manner.Manner.TheVariants.{Skips, Squeezes, Whole}
use Rattle.part_laws.specs.declared.manner.WholeCause.TheVariants as cause

-- what tr makes of a newline, and whether it deletes newlines
abbrev pub newline_becomes : TrSpec → ℕ
newline_becomes s = slice_index s.table newline

abbrev pub deletes_newline : TrSpec → Bool
deletes_newline s = in_set s.deleted newline

-- whether these numbers are bytes, as all are in the table of a tr that runs
abbrev pub are_bytes : List ℕ → Bool
are_bytes [] = true
are_bytes (b ∷ bs) = nat_lt b 256 && are_bytes bs

-- runs of this byte are squeezed once more, if this table makes bytes
abbrev pub once_more : (table : List ℕ) → (byte : ℕ) → Manner
once_more table byte = if are_bytes table then Squeezes byte else Whole cause.Squeezes

-- tr goes byte by byte if it squeezes nothing. If it squeezes bytes, it goes line by line, unless
-- it deletes newlines or squeezes what they become. A run of that may go from one part to the next,
-- and is squeezed once more. If newlines are deleted, any run may do so.
abbrev pub squeezing_manner : TrSpec → Option (List Bool) → Manner
squeezing_manner s None = ByBytes
squeezing_manner s (Some set) =
    if deletes_newline s then Whole cause.Squeezes
    else (if in_set (Some set) (newline_becomes s) then once_more s.table (newline_becomes s)
    else ByLines)

abbrev pub tr_manner : TrSpec → Manner
tr_manner s = squeezing_manner s s.squeezed

-- The last lines or bytes are among those of the parts. First lines that are left out are left out
-- of the joined outputs; where bytes begin to count is in the first part.
abbrev pub tail_manner : Origin → Counted → Manner
tail_manner End counted = Gathers
tail_manner Beginning Lines = Skips
tail_manner Beginning Bytes = Whole cause.FromStart

-- a run of equal lines may go from one part to the next, and its length is in neither
abbrev pub uniq_manner : RunsShown → Manner
uniq_manner shown.Every = Gathers
uniq_manner shown.Counted = Whole cause.RunLengths
uniq_manner shown.Repeated = Whole cause.RunLengths
uniq_manner shown.Single = Whole cause.RunLengths

-- Newlines and words are counted in what is left of them. The bytes are not, and a name is not that
-- of the input of a part.
abbrev pub wc_manner : WcSpec → Manner
wc_manner s =
    if not (is_nothing s.operands) then Whole cause.NamesInput
    else (if s.bytes then Whole cause.Counts
    else (if s.words then Counts MarkWords else Counts KeepNewlines))

-- the manner of a filter
abbrev pub manner_of : FilterSpec → Manner
manner_of (spec.Cat s) = ByBytes
manner_of (spec.Cut s) = ByLines
manner_of (spec.Fold s) = ByLines
manner_of (spec.Head s) = if nat_le 2 (length s.inputs) then Whole cause.Headers else Gathers
manner_of (spec.Paste s) = Whole cause.JoinsLines
manner_of (spec.Tail s) = tail_manner s.origin s.counted
manner_of (spec.Tee s) = ByBytes
manner_of (spec.Tr s) = tr_manner s
manner_of (spec.Uniq s) = uniq_manner s.shown
manner_of (spec.Wc s) = wc_manner s

-- whether the newlines of its input stay: only tr deletes or replaces any
abbrev pub keeps_newlines : FilterSpec → Bool
keeps_newlines (spec.Tr s) = not (deletes_newline s) && (newline_becomes s == newline)
keeps_newlines _ = true

-- whether one byte alone becomes a newline
abbrev pub one_becomes_newline : TrSpec → Bool
one_becomes_newline s = count_by (λ b. b == newline) s.table == 1

-- tr makes a line of each line if newlines stay, no other byte becomes one, and none is squeezed
abbrev pub tr_makes_line_of_line : TrSpec → Bool
tr_makes_line_of_line s = not (deletes_newline s)
    && (newline_becomes s == newline)
    && one_becomes_newline s
    && not (in_set s.squeezed newline)

-- cut does so unless it leaves out lines
abbrev pub cut_makes_line_of_line : Parts → Bool
cut_makes_line_of_line parts.Bytes = true
cut_makes_line_of_line (parts.Fields delimiter only) = not only

-- whether a filter makes a line of each line
abbrev pub makes_line_of_line : FilterSpec → Bool
makes_line_of_line (spec.Cat s) = true
makes_line_of_line (spec.Cut s) = cut_makes_line_of_line s.parts
makes_line_of_line (spec.Tee s) = true
makes_line_of_line (spec.Tr s) = tr_makes_line_of_line s
makes_line_of_line _ = false

-- whether every run is shown
abbrev pub shows_every : RunsShown → Bool
shows_every shown.Every = true
shows_every _ = false

-- whether two filters, the second of which reads the output of the first, gather together: the first
-- lines of runs, and the first ones of these
abbrev pub gather_together : FilterSpec → FilterSpec → Bool
gather_together (spec.Uniq s) (spec.Head t) = shows_every s.shown && not (nat_le 2 (length t.inputs))
gather_together _ _ = false
