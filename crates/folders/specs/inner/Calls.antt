-- The calls of a folder that failed, and why.
use Rattle.std.specs.Prelude.{ℕ, ◌+◌, ◌-◌, ◌^◌, min, List, [], ◌∷◌, ◌++◌, Result, Ok, Err}
use Rattle.folders.specs.declared.fault.CallFault.{CallFault}
use Rattle.folders.specs.declared.fault.CallFault.TheVariants.{Refused, NoMemory}

-- a call, with the names that it was given
pub data Call : Type 0 where
  Creates : (name : List ℕ) → Call
  Appends : (name : List ℕ) → Call
  Stores : (name : List ℕ) → Call
  MovesFile : (from : List ℕ) → (to : List ℕ) → Call
  Removes : (name : List ℕ) → Call
  StoresNames : Call

-- The calls that the system refused, in their order, and how often memory was refused, up to the
-- greatest number.
pub record Failures : Type 0 where
  pub refused : List Call
  pub no_memory : ℕ

-- The failures after this call failed. The number of the error is not noted.
abbrev pub after_fault : Call → CallFault → Failures → Failures
after_fault call (Refused number) f = record f { refused = f.refused ++ call ∷ [] }
after_fault call NoMemory f = record f { no_memory = min (f.no_memory + 1) (2 ^ 64 - 1) }

-- the failures after this call
abbrev pub after_call : {T : Type 0} → Call → Result T CallFault → Failures → Failures
after_call call (Ok _) f = f
after_call call (Err why) f = after_fault call why f
