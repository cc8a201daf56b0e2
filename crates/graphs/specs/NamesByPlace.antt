-- Names, and their places in a list. A name that mkfifo makes is a string of bytes (POSIX.1-2017
-- XCU mkfifo, OPERANDS). Two names are one if they have the same bytes.
use Rattle.std.specs.Prelude.{◌≡◌, ℕ, List, Option, bytes_eq, map, position}
use Rattle.std.specs.BTreeMap as tree
use Rattle.std.specs.BTreeMap.{BTreeMap}
use Rattle.std.specs.Cmp.Lexicographic.{slice_cmp}
use Rattle.std.specs.Ordering.{nat_cmp}
use denote.Ref.{Bor}

-- the bytes of each name
abbrev pub texts : List (Bor (List ℕ)) → List (List ℕ)
texts names = map (λ n. n.now) names

-- the place of the first of these names that is this one, if there is one
abbrev pub place_of : List (List ℕ) → List ℕ → Option ℕ
place_of names name = position (λ n. bytes_eq n name) names

-- the number that a map has for a name, if it has one
abbrev pub number_of : BTreeMap (Bor (List ℕ)) ℕ → List ℕ → Option ℕ
number_of numbers name = tree.get_by (λ k. slice_cmp nat_cmp name k.now) numbers

-- the map has, for each name, the place of the first that is it
abbrev pub KnowsPlaces : List (List ℕ) → BTreeMap (Bor (List ℕ)) ℕ → Type 0
KnowsPlaces names places = (name : List ℕ) → number_of places name ≡ place_of names name
