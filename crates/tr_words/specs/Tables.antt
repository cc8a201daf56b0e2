-- Sets and tables of bytes, and how tr pairs its strings (POSIX.1-2017 XCU tr, DESCRIPTION and
-- EXTENDED DESCRIPTION).
use Rattle.std.specs.Prelude.{ℕ, List, [], ◌∷◌, Bool, not, ◌==◌, map, if◌then◌else◌}
use Rattle.std.specs.List.{filter, list_any}
use Rattle.tr_words.specs.Classes.{all_bytes}

-- whether a byte is among these
abbrev pub is_among : ℕ → List ℕ → Bool
is_among x bytes = list_any (λ y. y == x) bytes

-- for each byte whether it is among these
abbrev pub set_of : List ℕ → List Bool
set_of bytes = map (λ x. is_among x bytes) all_bytes

-- the bytes that are not among these, rising
abbrev pub complement : List ℕ → List ℕ
complement bytes = filter (λ x. not (is_among x bytes)) all_bytes

-- what is left of the second string after its first byte, which serves for all that follow if it is
-- the last
abbrev pub continued : ℕ → List ℕ → List ℕ
continued y [] = y ∷ []
continued y (z ∷ ys) = z ∷ ys

-- the bytes of the first string, each with its byte of the second, which is cut, or continued with
-- its last byte
abbrev pub pairs_of : List ℕ → List ℕ → List (ℕ × ℕ)
pairs_of [] ys = []
pairs_of (x ∷ xs) [] = []
pairs_of (x ∷ xs) (y ∷ ys) = (x, y) ∷ pairs_of xs (continued y ys)

-- what the last of these pairs that begin with x has for it, or otherwise the default
abbrev pub last_for : ℕ → ℕ → List (ℕ × ℕ) → ℕ
last_for default x [] = default
last_for default x (p ∷ pairs) = last_for (if p.0 == x then p.1 else default) x pairs

-- for each byte what the last pair with it has, or otherwise that byte
abbrev pub table_of : List (ℕ × ℕ) → List ℕ
table_of pairs = map (λ x. last_for x x pairs) all_bytes
