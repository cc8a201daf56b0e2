-- What a reader of the host has left, if that is known of the files that it reads.
use Rattle.std.specs.Prelude.{ℕ, List, [], Option, Some, None, Result, Ok, Err}
use Rattle.std.specs.declared.io.Error.{Error}
use Rattle.std.specs.declared.io.ErrorKind.{ErrorKind}
use Rattle.file_stores.specs.declared.readable.ReadFrom.{ReadFrom}
use Rattle.file_stores.specs.declared.readable.ReadFrom.TheVariants.{File, Standard, Fifo, Opener}
use Rattle.file_stores.specs.inner.Limits.{limited, unlimited}

-- what is known of the file of a FIFO: nothing until it is open
abbrev pub once_open : {F X : Type 0} → (F → Option X) → Result F ErrorKind → Option X
once_open of_file (Ok file) = of_file file
once_open of_file (Err kind) = None

-- What is left as things are: of a file and of the standard input their first lines, if a limit is
-- set, and of a FIFO what its file has left. An output that is only opened gives no byte.
abbrev pub left_now : {F S : Type 0} → (F → Option (List ℕ)) → (S → Option (List ℕ))
    → ReadFrom F S → Option (List ℕ)
left_now of_file of_standard (File first) = limited first.lines (of_file first.file)
left_now of_file of_standard (Standard input) = limited input.lines (of_standard input.reader)
left_now of_file of_standard (Fifo late) = once_open of_file late.file
left_now of_file of_standard (Opener opener) = Some []

-- What is left from the beginning on. To open a FIFO changes nothing of it, so it is never known
-- what that has left.
abbrev pub left_in : {F S : Type 0} → (F → Option (List ℕ)) → (S → Option (List ℕ))
    → ReadFrom F S → Option (List ℕ)
left_in of_file of_standard (File first) = limited first.lines (of_file first.file)
left_in of_file of_standard (Standard input) = limited input.lines (of_standard input.reader)
left_in of_file of_standard (Fifo late) = None
left_in of_file of_standard (Opener opener) = Some []

-- The errors of the reads that failed: of a file, also of that of a FIFO, and of the standard input.
-- If that has a limit, it is not known which reads it makes.
abbrev pub failed_in : {F S : Type 0} → (F → Option (List Error)) → (S → Option (List Error))
    → ReadFrom F S → Option (List Error)
failed_in of_file of_standard (File first) = of_file first.file
failed_in of_file of_standard (Standard input) = unlimited input.lines (of_standard input.reader)
failed_in of_file of_standard (Fifo late) = once_open of_file late.file
failed_in of_file of_standard (Opener opener) = None
