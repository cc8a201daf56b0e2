-- What an output writes to.
--
-- A redirection of output and an operand of tee or uniq name a file. The file is emptied when it is
-- opened, unless the output appends to it (POSIX.1-2017 XCU 2.7.2, 2.7.3; tee, -a).
use Rattle.std.specs.Prelude.{ℕ, Bool, true, List}
use Rattle.run_types.specs.declared.names.OutName.{OutName}
use Rattle.run_types.specs.declared.names.OutName.TheVariants as out_names

-- the standard output of the run, or the file of this name
pub data Destination : Type 0 where
  StandardOutput : Destination
  FileOf : (name : List ℕ) → Destination

-- what an output of this name writes to
abbrev pub destination_of : OutName → Destination
destination_of out_names.Standard = StandardOutput
destination_of (out_names.File name append) = FileOf name

-- whether an output of this name keeps what its destination holds when it is opened
abbrev pub is_kept : OutName → Bool
is_kept out_names.Standard = true
is_kept (out_names.File name append) = append
