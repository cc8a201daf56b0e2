-- The open inputs and outputs of files in memory.
--
-- A read returns the bytes from the end of the last one on, as many as there are and there is room
-- for, and none at the end (POSIX.1-2017 XSH read).
use Rattle.std.specs.Prelude.{ℕ, ◌+◌, ◌-◌, ◌==◌, ◌||◌, ◌&&◌, ◌≡◌, ◌≤◌, true, nat_lt, min, Bool}
use Rattle.std.specs.Prelude.{List, [], length, take, slice_get, option_and_then, Option}
use Rattle.collector.specs.Files.{ReadLog, WriteLog}
use Rattle.collector.specs.declared.needed.LeftOut.{LeftOut}

-- an input that was opened: what its file held then, without a front that was left out; how much of
-- that its reads have given; whether one gave the end; and whether a front was left out
pub record OpenedInput : Type 0 where
  pub content : List ℕ
  pub at : ℕ
  pub at_end : Bool
  pub left : LeftOut

-- an output that was opened: the name of its file, or none for the standard output, and what its
-- writes took
pub record OpenedOutput : Type 0 where
  pub target : Option (List ℕ)
  pub taken : List ℕ

-- what the reads of an open input gave: the first bytes of what it held when it was opened
abbrev pub read_log : OpenedInput → ReadLog
read_log i = record { bytes = take i.at i.content; at_end = i.at_end }

-- these bytes were written, and nothing is out
abbrev pub written_log : List ℕ → WriteLog
written_log bytes = record { bytes = bytes; out = [] }

-- how many bytes a read with this much room returns, if no read returns more than this
abbrev pub read_count : OpenedInput → ℕ → ℕ → ℕ
read_count i room most = min (min room most) (length i.content - i.at)

-- the input after a read that returned this many bytes
abbrev pub read_on : OpenedInput → ℕ → ℕ → OpenedInput
read_on i room count =
    record i {
      at = i.at + count;
      at_end = i.at_end || (nat_lt 0 room && count == 0);
    }

-- no more was read than there is, and the end comes after all of it
pub record IsWithin (i : OpenedInput) : Type 0 where
  pub at : i.at ≤ length i.content
  pub spent : i.at_end ≡ true → i.at ≡ length i.content

-- the name of the file that the output of this number writes to, if it is open and has one
abbrev pub target_at : List OpenedOutput → ℕ → Option (List ℕ)
target_at outputs file = option_and_then (λ o. o.target) (slice_get outputs file)
