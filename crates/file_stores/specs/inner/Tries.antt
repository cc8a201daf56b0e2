-- Reads and writes that failed, and those of them that may be made again.
--
-- A call that a signal interrupted, and one that would have blocked, took and gave no byte
-- (POSIX.1-2017 XSH read and write, EINTR and EAGAIN). So it may be made again.
use Rattle.std.specs.Prelude.{◌≡◌, ℕ, ◌⊎◌, List, [], ◌∷◌, ◌++◌, All, Option, Some, None, Result, Ok}
use Rattle.std.specs.Prelude.{Err}
use Rattle.std.specs.IoError.{error_kind}
use Rattle.std.specs.declared.io.Error.{Error}
use Rattle.std.specs.declared.io.ErrorKind.TheVariants.{Interrupted, WouldBlock}

-- a call that failed so may be made again
abbrev pub MayBeMadeAgain : Error → Type 0
MayBeMadeAgain error = (error_kind error ≡ Interrupted) ⊎ (error_kind error ≡ WouldBlock)

-- One call was made. If it failed, its error follows those of the calls before it.
abbrev pub IsTried : Option (List Error) → Option (List Error) → Result ℕ Error → Type 0
IsTried None new result = Unit {0}
IsTried (Some old) new (Ok count) = new ≡ Some old
IsTried (Some old) new (Err error) = new ≡ Some (old ++ error ∷ [])

-- Any number of calls was made. Each of them failed, and may be made again.
abbrev pub FailsForNow : Option (List Error) → Option (List Error) → Type 0
FailsForNow None new = Unit {0}
FailsForNow (Some old) new =
    (errors : List Error) × All MayBeMadeAgain errors × (new ≡ Some (old ++ errors))

-- Calls were made one after another, and this is the result of the last one. Each before that
-- failed, and may be made again.
abbrev pub IsTriedAgain : Option (List Error) → Option (List Error) → Result ℕ Error → Type 0
IsTriedAgain old new result =
    (last : Option (List Error)) × FailsForNow old last × IsTried last new result
