-- What cut -b writes, byte by byte.
use Rattle.std.specs.Prelude.{ℕ, suc, Bool, List, [], ◌∷◌, ◌==◌, if◌then◌else◌}
use Rattle.machine.specs.Lines.{newline}

-- What is written of the bytes of lines, if `passed` bytes of the first line came before. How many
-- bytes of the last line were passed decides what is written after it.
abbrev pub bytes_then : (ℕ → List ℕ) → (ℕ → Bool) → ℕ → List ℕ → List ℕ
bytes_then end selects passed [] = end passed
bytes_then end selects passed (x ∷ xs) =
    if x == newline
    then x ∷ bytes_then end selects 0 xs
    else if selects (suc passed)
    then x ∷ bytes_then end selects (suc passed) xs
    else bytes_then end selects (suc passed) xs

-- what is written of the bytes of lines, and nothing after them
abbrev pub bytes_of_lines : (ℕ → Bool) → ℕ → List ℕ → List ℕ
bytes_of_lines selects passed xs = bytes_then (λ n. []) selects passed xs

-- the same of all bytes that are left of an input: its last line gets a newline if it has none
abbrev pub bytes_left : (ℕ → Bool) → ℕ → List ℕ → List ℕ
bytes_left selects passed xs =
    bytes_then (λ n. if n == 0 then [] else newline ∷ []) selects passed xs
