-- What an output of the host holds, if that is known of the files that are written.
use Rattle.std.specs.Prelude.{ℕ, List, Option, Some, None}
use Rattle.std.specs.Option.{option_and_then}
use Rattle.std.specs.declared.io.Error.{Error}
use Rattle.file_stores.specs.declared.writable.Awaited.{Awaited}
use Rattle.file_stores.specs.declared.writable.Awaited.TheVariants.{Opening, Open, Failed, Closed}
use Rattle.file_stores.specs.declared.writable.WriteTo.{WriteTo}
use Rattle.file_stores.specs.declared.writable.WriteTo.TheVariants.{File, Standard, Fifo}

-- the file of a FIFO that is open
abbrev pub open_file : {F : Type 0} → Awaited F → Option F
open_file (Opening from) = None
open_file (Open file) = Some file
open_file (Failed kind) = None
open_file Closed = None

-- what an open file holds, also that of a FIFO, or the standard output
abbrev pub held_now : {F S : Type 0} → (F → Option (List ℕ)) → (S → Option (List ℕ))
    → WriteTo F S → Option (List ℕ)
held_now contents of_standard (File file) = contents file
held_now contents of_standard (Standard to) = of_standard to
held_now contents of_standard (Fifo awaited) =
    option_and_then contents (open_file awaited.state)

-- What an output holds up to its end. A FIFO is closed then, so it is never known what that holds.
abbrev pub held_in : {F S : Type 0} → (F → Option (List ℕ)) → (S → Option (List ℕ))
    → WriteTo F S → Option (List ℕ)
held_in contents of_standard (File file) = contents file
held_in contents of_standard (Standard to) = of_standard to
held_in contents of_standard (Fifo awaited) = None

-- the errors of the writes that failed to a file, also to that of a FIFO, or to the standard output
abbrev pub failed_in : {F S : Type 0} → (F → Option (List Error)) → (S → Option (List Error))
    → WriteTo F S → Option (List Error)
failed_in of_file of_standard (File file) = of_file file
failed_in of_file of_standard (Standard to) = of_standard to
failed_in of_file of_standard (Fifo awaited) = option_and_then of_file (open_file awaited.state)
