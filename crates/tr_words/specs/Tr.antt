-- What tr makes of its whole input: bytes are deleted, the others are replaced, and runs are
-- squeezed (POSIX.1-2017 XCU tr, DESCRIPTION).
use Rattle.std.specs.Prelude.{ℕ, List, [], ◌∷◌, Bool, false, not, ◌&&◌, ◌==◌, Option, Some, None}
use Rattle.std.specs.Prelude.{map, filter, slice_index, slice_index_or}
use Rattle.std.specs.List.{zip}
use Rattle.machine.specs.Whole.{joined, WholeAnswer}
use Rattle.tr_words.specs.declared.tr_words.TrSpec.{TrSpec}

-- whether a byte is in a set of bytes; no set is the empty one
abbrev pub in_set : Option (List Bool) → ℕ → Bool
in_set None x = false
in_set (Some set) x = slice_index_or set x false

-- the bytes that are not deleted, each replaced by what the table has for it
abbrev pub translated : TrSpec → List ℕ → List ℕ
translated spec xs =
    map (λ x. slice_index spec.table x) (filter (λ x. not (in_set spec.deleted x)) xs)

-- each byte with the one before it; `last` comes before them all
abbrev pub with_last : Option ℕ → List ℕ → List (Option ℕ × ℕ)
with_last last xs = zip (last ∷ map Some xs) xs

-- whether the byte before this one is the same
abbrev pub is_same : Option ℕ → ℕ → Bool
is_same None x = false
is_same (Some y) x = y == x

-- whether a byte stays: it is not in the set, or the byte before it is another one
abbrev pub stays : Option (List Bool) → Option ℕ × ℕ → Bool
stays set p = not (in_set set p.1 && is_same p.0 p.1)

-- the bytes that stay, if `last` comes before them
abbrev pub squeezed : Option (List Bool) → Option ℕ → List ℕ → List ℕ
squeezed set last xs = map (λ (p : Option ℕ × ℕ). p.1) (filter (stays set) (with_last last xs))

-- the last of them, or `last` if there is none
abbrev pub last_of : Option ℕ → List ℕ → Option ℕ
last_of last [] = last
last_of last (x ∷ xs) = last_of (Some x) xs

-- the whole answer of tr
abbrev pub tr_whole : TrSpec → WholeAnswer
tr_whole spec ins =
    record {
      out = squeezed spec.squeezed None (translated spec (joined ins));
      count = 0;
    }
