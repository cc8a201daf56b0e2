-- How a result relates to the value that a definition has, or has not.
use Rattle.std.specs.Prelude.{◌≡◌, ◌≤◌, ◌<◌, ℕ, List, length, Option, Some, None, Result, Ok, Err}
use Rattle.std.specs.Prelude.{slice_get}
use Rattle.command_words.specs.Bytes.{nul}
use Rattle.pipeline_text.specs.Grammar.{text_max}
use Rattle.pipeline_text.specs.declared.fault.TextFaultKind.{TextFaultKind}
use Rattle.pipeline_text.specs.declared.fault.TextFaultKind.TheVariants as kind
use Rattle.pipeline_text.specs.declared.fault.TextFault.{TextFault}

-- A text is refused for another cause than memory only if there is no value; as one with a NUL byte
-- only at a NUL byte, and as too long only if it is.
abbrev pub IsCause : {A : Type 0} → TextFaultKind → List ℕ → ℕ → Option A → Type 0
IsCause kind.NoMemory text offset value = Unit {0}
IsCause kind.NulByte text offset value = (slice_get text offset ≡ Some nul) × (value ≡ None)
IsCause kind.TooLong text offset value = (text_max < length text) × (value ≡ None)
IsCause _ text offset value = value ≡ None

-- such a refusal, at a place in the text or at its end
abbrev pub IsRefusal : {A : Type 0} → List ℕ → TextFault → Option A → Type 0
IsRefusal text fault value = (fault.offset ≤ length text)
    × IsCause fault.kind text fault.offset value

-- the result is the value, or a refusal
abbrev pub Meets : {A : Type 0} → List ℕ → Result A TextFault → Option A → Type 0
Meets text (Ok x) value = value ≡ Some x
Meets text (Err fault) value = IsRefusal text fault value

-- the text is refused as too long
abbrev pub IsTooLong : {A : Type 0} → Result A TextFault → Type 0
IsTooLong (Ok x) = ⊥
IsTooLong (Err fault) = fault.kind ≡ kind.TooLong

-- a text that is too long is refused at the offset at which the greatest length ends
abbrev pub IsLimitOffset : {A : Type 0} → Result A TextFault → Type 0
IsLimitOffset (Ok x) = Unit {0}
IsLimitOffset (Err fault) = fault.kind ≡ kind.TooLong → fault.offset ≡ text_max
