-- What the reader of options has to keep on its way. No public contract cites this file.
use Rattle.std.specs.Prelude.{◌≡◌, ℕ, List, Option, Some, Result, Ok, Err}
use Rattle.std.specs.Borrow.{Bor}
use Rattle.command_words.specs.declared.fault.ArgFault.{ArgFault}
use Rattle.command_words.specs.declared.options.Options.{Options}
use Rattle.command_words.specs.Options.{Given}
use Rattle.command_words.specs.inner.Refusals.{IsArgRefusal}

-- the options of a group, added to a list
abbrev pub MeetsGroup : List Given → Result (Option ℕ) ArgFault → Option (List Given × Option ℕ)
    → Type 0
MeetsGroup given (Ok wanting) value = value ≡ Some (given, wanting)
MeetsGroup given (Err fault) value = IsArgRefusal fault value

-- the options in front, added to a list, and the operands
abbrev pub MeetsFront : List Given → Result (Bor (List (List ℕ))) ArgFault → Option Options → Type 0
MeetsFront given (Ok rest) value = value ≡ Some (record { given = given; operands = rest.now })
MeetsFront given (Err fault) value = IsArgRefusal fault value
