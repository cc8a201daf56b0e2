-- What tail needs of an input: an end with its last lines, or bytes (POSIX.1-2017 XCU tail,
-- OPTIONS).
use Rattle.std.specs.Prelude.{◌≡◌, ◌≤◌, ◌⊎◌, ℕ, List, [], ◌∷◌, ◌++◌, Some, length}
use Rattle.machine.specs.Lines.{lines, newline}
use Rattle.commands.specs.Tail.{tail_whole}
use Rattle.commands.specs.declared.tail_words.Counted.{Counted}
use Rattle.commands.specs.declared.tail_words.Counted.TheVariants.{Lines, Bytes}
use Rattle.commands.specs.declared.tail_words.Origin.TheVariants.{End}

-- the last byte is a newline: what follows begins with a line (POSIX.1-2017 XBD 3.206 Line)
abbrev pub EndsWithLine : List ℕ → Type 0
EndsWithLine front = (before : List ℕ) × (front ≡ before ++ newline ∷ [])

-- An end of an input is enough for its last n lines: it is all, or it has n lines and begins with
-- one. For its last n bytes: it is all, or it has n bytes.
abbrev pub IsEnough : Counted → ℕ → (front end : List ℕ) → Type 0
IsEnough Lines n front end = (front ≡ []) ⊎ (EndsWithLine front × (n ≤ length (lines end)))
IsEnough Bytes n front end = (front ≡ []) ⊎ (n ≤ length end)

-- tail makes of such an end what it makes of the whole input
abbrev pub TailsNeedOnlyAnEnd : Type 0
TailsNeedOnlyAnEnd = (counted : Counted) (n : ℕ) (front end : List ℕ)
    → IsEnough counted n front end
    → tail_whole counted End n (Some (front ++ end) ∷ [])
    ≡ tail_whole counted End n (Some end ∷ [])
