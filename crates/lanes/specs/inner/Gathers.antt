-- Bytes that are left when some are taken out.
use Rattle.std.specs.Prelude.{ℕ, ◌+◌, ◌==◌, ◌&&◌, Bool, List, [], ◌∷◌, if◌then◌else◌}
use Rattle.std.specs.Int.{bit_at}

-- the bytes whose bits are 0; the first byte has bit k
abbrev pub unmarked : ℕ → ℕ → List ℕ → List ℕ
unmarked m k [] = []
unmarked m k (x ∷ xs) = if bit_at m k == 0 then x ∷ unmarked m (k + 1) xs else unmarked m (k + 1) xs

-- the bytes but for those that pass the test and are the same as the one before; `gone` tells
-- whether the first is left out
abbrev pub singled : (ℕ → Bool) → Bool → List ℕ → List ℕ
singled p gone [] = []
singled p gone (x ∷ []) = if gone then [] else x ∷ []
singled p gone (x ∷ y ∷ ys) = if gone then singled p (p x && x == y) (y ∷ ys)
    else x ∷ singled p (p x && x == y) (y ∷ ys)
