-- What the program opens, reads and writes of files before a script runs.
--
-- The commands of a shell come from an operand of -c or from a file (POSIX.1-2017 XCU sh, OPERANDS
-- and -c).
use Rattle.std.specs.Prelude.{◌≡◌, ℕ, ◌⊎◌, true, List, ◌∷◌, [], ◌++◌, length, Option}
use Rattle.std.specs.Prelude.{Some, None}
use Rattle.std.specs.Borrow.{Bor}
use Rattle.collector.specs.Files.{FilesShown, OtherLogs, ReadLog, SameLogs, SameContents, Refuses}
use Rattle.collector.specs.Files.{one_more, reads_of, writes_of}
use Rattle.run_types.specs.declared.names.InName.TheVariants as in_names
use Rattle.collector.specs.declared.names.Opening.TheVariants as opening
use Rattle.command_line.specs.Words.{bytes_of_text}
use Rattle.command_line.specs.declared.request.ScriptFrom.{ScriptFrom}
use Rattle.command_line.specs.declared.request.ScriptFrom.TheVariants as from
use Rattle.pipeline_text.specs.declared.fault.TextFault.{TextFault}
use Rattle.pipeline_text.specs.declared.fault.TextFaultKind.TheVariants as kind
use Rattle.program.specs.declared.ending.Refusal.{Refusal}
use Rattle.program.specs.declared.ending.Refusal.TheVariants as refusal

-- no byte was written to any output
abbrev pub WritesNothing : FilesShown → FilesShown → Type 0
WritesNothing old new = (file : ℕ) → writes_of new file ≡ writes_of old file

-- Nothing was opened, or one input of this name. No output was opened or written to. Each
-- destination holds what it held, and the standard input has to give what it had.
pub record OpensAtMost (name : List ℕ) (old new : FilesShown) : Type 0 where
  pub openings : (new.openings ≡ old.openings)
      ⊎ ((answer : Option ℕ)
      × (new.openings ≡ old.openings ++ opening.Input (in_names.File name) answer ∷ []))
  pub outputs : SameLogs old.outputs new.outputs
  pub contents : SameContents old new
  pub standard_input : new.standard_input ≡ old.standard_input

-- the greatest length of a script's text, and one byte more
abbrev pub too_long : ℕ
too_long = 65537

-- A file was read up to its end, or up to this many bytes: these are what its reads returned.
pub record IsReadUpTo (most : ℕ) (given : List ℕ) (log : ReadLog) : Type 0 where
  pub bytes : log.bytes ≡ given
  pub whole : (log.at_end ≡ true) ⊎ (length given ≡ most)

-- a file was read for the text of a script, up to its end or up to the first byte too many
abbrev pub IsTextOf : List ℕ → ReadLog → Type 0
IsTextOf = IsReadUpTo too_long

-- a file could not be opened, or a read of it failed
abbrev pub IsUnread : List ℕ → FilesShown → FilesShown → Type 0
IsUnread name old new = Refuses (opening.Input (in_names.File name) None) old new
    ⊎ (new.failures ≡ one_more old.failures)

-- One file of this name was opened, and its reads gave this text. No other log changed, and no read
-- failed. Each destination holds what it held, and the standard input has to give what it had.
pub record ReadsScript (name text : List ℕ) (old new : FilesShown) : Type 0 where
  pub file : ℕ
  pub openings : new.openings
      ≡ old.openings ++ opening.Input (in_names.File name) (Some file) ∷ []
  pub inputs : OtherLogs file old.inputs new.inputs
  pub outputs : SameLogs old.outputs new.outputs
  pub contents : SameContents old new
  pub standard_input : new.standard_input ≡ old.standard_input
  pub failures : new.failures ≡ old.failures
  pub told : IsTextOf text (reads_of new file)

-- A script is given by this text: by the bytes of its letters, for which no file was touched, or by
-- the file of its name.
abbrev pub IsGiven : ScriptFrom → List ℕ → FilesShown → FilesShown → Type 0
IsGiven (from.Text letters) text old new = (text ≡ bytes_of_text letters.now)
    × (new ≡ old)
IsGiven (from.File name) text old new =
    ReadsScript (bytes_of_text name.now) text old new

-- memory was refused
abbrev pub IsForMemory : Refusal → Type 0
IsForMemory why = (fault : TextFault) × (fault.kind ≡ kind.NoMemory) × (why ≡ refusal.Text fault)

-- why a file of this name gave no text: memory was refused, or it could not be opened or read
abbrev pub IsFileUnread : Bor (List ℕ) → FilesShown → FilesShown → Refusal → Type 0
IsFileUnread name old new why = IsForMemory why
    ⊎ ((why ≡ refusal.NotRead name) × IsUnread (bytes_of_text name.now) old new)

-- Why the text of a script is not there: memory was refused, or the file of its name gave none.
abbrev pub IsNotGiven : ScriptFrom → FilesShown → FilesShown → Refusal → Type 0
IsNotGiven (from.Text letters) old new why = IsForMemory why × (new ≡ old)
IsNotGiven (from.File name) old new why = OpensAtMost (bytes_of_text name.now) old new
    × IsFileUnread name old new why
