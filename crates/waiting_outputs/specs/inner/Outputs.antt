-- Outputs whose bytes are written here, or handed over to be written by another thread (POSIX.1-2017
-- XSH write).
use Rattle.std.specs.Prelude.{◌≡◌, ℕ, ◌⊎◌, Bool, false, List, [], ◌++◌, Option, None, Result}
use Rattle.std.specs.Prelude.{OnOk, OnErr, IsOk}
use Rattle.std.specs.Io.KnownBytes.{Appends}
use mathlib.Core.List.{IsPrefix}

-- an output: what its file holds after the last answer, if that is known; the bytes that its writes
-- took; those that were handed over and have no answer yet; and whether there are such
pub record OutputShown : Type 0 where
  pub holds : Option (List ℕ)
  pub taken : List ℕ
  pub out : List ℕ
  pub is_out : Bool

-- These bytes count as written, and the file holds them after what it held.
pub record Writes (bytes : List ℕ) (old new : OutputShown) : Type 0 where
  pub taken : new.taken ≡ old.taken ++ bytes
  pub held : Appends old.holds new.holds bytes

-- The first of the bytes that were out count as written, and the file holds them after what it held.
-- Or the thread that had the file has ended, and none of them counts.
abbrev pub WritesSome : OutputShown → OutputShown → Type 0
WritesSome old new = ((front : List ℕ) × IsPrefix front old.out × Writes front old new)
    ⊎ ((new.taken ≡ old.taken) × (new.holds ≡ None))

-- It was waited for what was out. Now all of that is written, or a write of it failed, and nothing is
-- out any more. If nothing was out, nothing changed.
pub record SettlesOutput {B E : Type 0} (result : Result B E) (old new : OutputShown) : Type 0 where
  pub all : OnOk result (Writes old.out old new)
  pub some : OnErr result (WritesSome old new)
  pub home : (new.out ≡ []) × (new.is_out ≡ false)
  pub idle : old.out ≡ [] → IsOk result × (new ≡ old)
