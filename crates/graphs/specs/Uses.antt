-- How often names are used: how often one is made (POSIX.1-2017 XCU mkfifo, OPERANDS), and how
-- often read and written.
use Rattle.std.specs.Prelude.{◌≡◌, ℕ, ◌+◌, ◌<◌, List, bytes_eq, count_by, unwrap_or}
use Rattle.std.specs.List.{All, Contains}
use Rattle.std.specs.BTreeMap.{BTreeMap}
use denote.Ref.{Bor}
use Rattle.graphs.specs.NamesByPlace.{number_of}
use Rattle.graphs.specs.declared.uses.Uses.{Uses}

-- how often a name is among these
abbrev pub times : List ℕ → List (List ℕ) → ℕ
times name names = count_by (bytes_eq name) names

-- how often a name is in each of three lists
abbrev pub uses_of : List (List ℕ) → List (List ℕ) → List (List ℕ) → List ℕ → Uses
uses_of made read written name =
    record {
      made = times name made;
      read = times name read;
      written = times name written;
    }

-- Each of these is how often some name is used, and there is one for each name that is.
pub record AreUses (made read written : List (List ℕ)) (uses : List Uses) : Type 0 where
  pub each : All (λ u. (name : List ℕ) × (u ≡ uses_of made read written name)) uses
  pub all : (name : List ℕ) → 0 < times name made + times name read + times name written
      → Contains uses (uses_of made read written name)

-- the number that a map has for a name, or 0
abbrev pub counted : BTreeMap (Bor (List ℕ)) ℕ → List ℕ → ℕ
counted counts name = unwrap_or (number_of counts name) 0

-- the map has, for each name, how often it is among these
abbrev pub IsTally : List (List ℕ) → BTreeMap (Bor (List ℕ)) ℕ → Type 0
IsTally names counts = (name : List ℕ) → counted counts name ≡ times name names
