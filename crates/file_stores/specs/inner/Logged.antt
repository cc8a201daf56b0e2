-- Open inputs of any reader, each with a record of what its reads returned. Clauses use std's words:
-- the bytes that a reader has left, if they are known.
use Rattle.std.specs.Prelude.{◌≡◌, ◌≢◌, ℕ, List, length, Option, Some, None, Bool, true, false}
use Rattle.std.specs.Option.{option_map}
use Rattle.collector.specs.Files.{ReadLog}
use Rattle.collector.specs.declared.needed.LeftOut.{LeftOut}
use Rattle.waiting_inputs.specs.Inputs.{Lefts, left_at, ReadsNext, AddsInput}
use Rattle.file_stores.specs.declared.logged.input.InFrom.{InFrom}
use Rattle.file_stores.specs.declared.logged.input.InFrom.TheVariants.{Direct, Thread}
use Rattle.file_stores.specs.declared.logged.input.Delay.{Delay}
use Rattle.file_stores.specs.declared.logged.input.Delay.TheVariants.{Never, Possible, Accepted}

-- an open input: what it is read from, what its reads returned, and whether it was asked to leave
-- out a front
pub record InputShown (F : Type 0) : Type 0 where
  pub from : InFrom F
  pub log : ReadLog
  pub left : LeftOut

-- the number of the thread that reads an input, if one does
abbrev pub thread_of : {F : Type 0} → InFrom F → Option ℕ
thread_of (Direct file delay) = None
thread_of (Thread number) = Some number

-- whether a read by the caller may wait, if the caller reads the input
abbrev pub delay_of : {F : Type 0} → InFrom F → Option Delay
delay_of (Direct file delay) = Some delay
delay_of (Thread number) = None

-- whether a read by the caller is to be put off: it may wait, and the caller has not waited for
-- this input alone
abbrev pub is_put_off : Delay → Bool
is_put_off Never = false
is_put_off Possible = true
is_put_off Accepted = false

-- the caller is to read the input next, though the read may wait
abbrev pub accepted : Delay → Delay
accepted Never = Never
accepted Possible = Accepted
accepted Accepted = Accepted

-- the input was read, and the read after that may wait again
abbrev pub once_read : Delay → Delay
once_read Never = Never
once_read Possible = Possible
once_read Accepted = Possible

-- a read may wait from here on, and is put off unless the caller was to make it next
abbrev pub put_off : Delay → Delay
put_off Never = Possible
put_off Possible = Possible
put_off Accepted = Accepted

-- an input whose reads by the caller may wait from here on
abbrev pub put_off_from : {F : Type 0} → InFrom F → InFrom F
put_off_from (Direct file delay) = Direct file (put_off delay)
put_off_from (Thread number) = Thread number

-- an input that the caller is to read next, if no thread reads it
abbrev pub read_next_here : {F : Type 0} → InFrom F → InFrom F
read_next_here (Direct file delay) = Direct file (accepted delay)
read_next_here (Thread number) = Thread number

-- The bytes that an input has left: those of its file, or of the input that its thread reads.
abbrev pub left_of : {F : Type 0} → (F → Option (List ℕ)) → Lefts → InFrom F → Option (List ℕ)
left_of remaining lefts (Direct file delay) = remaining file
left_of remaining lefts (Thread number) = left_at lefts number

-- A file was given to a thread. If it got none, the caller reads it next, and nothing else changed.
abbrev pub TakesFile : {F : Type 0} → (F → Option (List ℕ)) → F → InFrom F → Lefts → Lefts → Type 0
TakesFile remaining file (Direct back delay) old new =
    (back ≡ file) × (delay ≡ Accepted) × (new ≡ old)
TakesFile remaining file (Thread number) old new = AddsInput number (remaining file) old new

-- An input that may wait was given to a thread. One that never waits stays with the caller, and one
-- that a thread has stays with that.
abbrev pub GoesToThread : {F : Type 0} → (F → Option (List ℕ)) → InFrom F → InFrom F → Lefts
    → Lefts → Type 0
GoesToThread remaining (Direct file Never) from' old new =
    (from' ≡ Direct file Never) × (new ≡ old)
GoesToThread remaining (Direct file Possible) from' old new =
    TakesFile remaining file from' old new
GoesToThread remaining (Direct file Accepted) from' old new =
    TakesFile remaining file from' old new
GoesToThread remaining (Thread number) from' old new = (from' ≡ Thread number) × (new ≡ old)

-- An input was given to a thread, if it may wait. What it has left stays the same, and no other input
-- that a thread reads lost a byte.
pub record MovesFile {F : Type 0} (remaining : F → Option (List ℕ)) (from from' : InFrom F)
    (old new : Lefts) : Type 0 where
  pub to : GoesToThread remaining from from' old new
  pub left : left_of remaining new from' ≡ left_of remaining old from
  pub others : (other : ℕ) → thread_of from' ≢ Some other → left_at new other ≡ left_at old other

-- An input was read once. It is read from the same place after that, and a later read may wait as
-- before. No other input that a thread reads lost a byte.
pub record ReadsOnce {F : Type 0} (remaining : F → Option (List ℕ)) (result : Option ℕ)
    (into : List ℕ) (from from' : InFrom F) (old new : Lefts) : Type 0 where
  pub next : ReadsNext result into (left_of remaining old from) (left_of remaining new from')
  pub same : thread_of from' ≡ thread_of from
  pub delay : delay_of from' ≡ option_map once_read (delay_of from)
  pub others : (other : ℕ) → thread_of from ≢ Some other → left_at new other ≡ left_at old other
  pub count : length new ≡ length old
