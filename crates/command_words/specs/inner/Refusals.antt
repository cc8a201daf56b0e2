-- How an answer about a command's words relates to the value that a definition has, or has not.
use Rattle.std.specs.Prelude.{◌≡◌, Option, Some, None, Result, Ok, Err}
use Rattle.command_words.specs.declared.fault.ArgFault.{ArgFault}
use Rattle.command_words.specs.declared.fault.ArgFault.TheVariants as fault

-- words are refused for another cause than memory only if there is no value
abbrev pub IsArgRefusal : {A : Type 0} → ArgFault → Option A → Type 0
IsArgRefusal fault.NoMemory value = Unit {0}
IsArgRefusal _ value = value ≡ None

-- the result is the value, or a refusal of words
abbrev pub MeetsWords : {A : Type 0} → Result A ArgFault → Option A → Type 0
MeetsWords (Ok x) value = value ≡ Some x
MeetsWords (Err fault) value = IsArgRefusal fault value
