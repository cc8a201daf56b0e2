-- Bytes that are the same as the one before them.
use Rattle.std.specs.Prelude.{◌≡◌, ℕ, ◌==◌, ◌&&◌, Bool, false, List, [], ◌∷◌}

-- no byte that passes the test is the same as the next one
abbrev pub HasNoDouble : (ℕ → Bool) → List ℕ → Type 0
HasNoDouble p [] = Unit {0}
HasNoDouble p (x ∷ []) = Unit {0}
HasNoDouble p (x ∷ y ∷ ys) = ((p x && x == y) ≡ false) × HasNoDouble p (y ∷ ys)
