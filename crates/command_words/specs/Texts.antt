-- What is made of a value that may be none, and when two texts are the same.
use Rattle.std.specs.Prelude.{ℕ, Bool, true, false, List, [], ◌∷◌, Option, option_and_then, ◌==◌}
use Rattle.std.specs.Prelude.{◌&&◌}

infixl 10 ◌>>=◌
-- a value, and then what is made of it
abbrev pub ◌>>=◌ : {A B : Type 0} → Option A → (A → Option B) → Option B
o >>= f = option_and_then f o

-- whether two texts are the same
abbrev pub same_bytes : List ℕ → List ℕ → Bool
same_bytes [] [] = true
same_bytes (a ∷ x) (b ∷ y) = (a == b) && same_bytes x y
same_bytes [] (b ∷ y) = false
same_bytes (a ∷ x) [] = false
