-- A line of fields with a space between each two.
use Rattle.std.proofs.Common.{◌≡◌, ℕ, List, [], ◌∷◌, ◌++◌, drop, refl, ap}
use Rattle.std.specs.List.{flat_map, join_with_byte}
use Rattle.std.proofs.lemmas.List.{append-nil}
use Rattle.command_words.specs.Bytes.{space}
use Rattle.byte_filters.specs.WcSteps.{spaced}

spaced_first : (field : List ℕ) (fields : List (List ℕ))
    → flat_map spaced (field ∷ fields) ≡ space ∷ join_with_byte space (field ∷ fields)
spaced_first field [] = ap (λ (x : List ℕ). space ∷ x) (append-nil field)
spaced_first field (next ∷ fields) = ap (λ (x : List ℕ). space ∷ (field ++ x))
    (spaced_first next fields)

-- the fields with a space between each two
pub joined_is : (fields : List (List ℕ)) → drop 1 (flat_map spaced fields)
    ≡ join_with_byte space fields
joined_is [] = refl
joined_is (field ∷ fields) = ap (drop 1) (spaced_first field fields)
