-- Numbered things that pipes join, and the orders in which the writer of each pipe comes before its
-- reader.
--
-- A pipe joins the standard output of a command to the standard input of the next (POSIX.1-2017 XCU
-- 2.9.2). `pipes` has the writer and the reader of each pipe; there may be several from one thing
-- to another.
use Rattle.std.specs.Prelude.{◌≡◌, ℕ, ◌<◌, ◌↔◌, List, length, take, slice_index_or}
use Rattle.std.specs.List.{Contains}

-- a pipe that s writes is read by t
abbrev pub Joins : List (ℕ × ℕ) → ℕ → ℕ → Type 0
Joins pipes s t = (i : ℕ) × (i < length pipes) × ((slice_index_or pipes i (0, 0)).0 ≡ s)
    × ((slice_index_or pipes i (0, 0)).1 ≡ t)

-- t is one of n things and has no place yet, and all that write a pipe to it have one
pub record IsReady (n : ℕ) (pipes : List (ℕ × ℕ)) (in_place : List ℕ) (t : ℕ) : Type 0 where
  pub within : t < n
  pub out : Contains in_place t → ⊥
  pub fed : (s : ℕ) → Joins pipes s t → Contains in_place s

-- it is the lowest that is ready
pub record IsLowestReady (n : ℕ) (pipes : List (ℕ × ℕ)) (in_place : List ℕ) (s : ℕ) : Type 0 where
  pub ready : IsReady n pipes in_place s
  pub lowest : (t : ℕ) → t < s → IsReady n pipes in_place t → ⊥

-- The planned order: all are in it, and each is the lowest that is ready once those before it are
-- placed.
pub record IsPlannedOrder (n : ℕ) (pipes : List (ℕ × ℕ)) (order : List ℕ) : Type 0 where
  pub each : (p : ℕ) → p < length order
      → IsLowestReady n pipes (take p order) (slice_index_or order p 0)
  pub all : (t : ℕ) → t < n → Contains order t

-- these places put the writer of each pipe before its reader
abbrev pub AreInOrder : List (ℕ × ℕ) → (ℕ → ℕ) → Type 0
AreInOrder pipes place = (s t : ℕ) → Joins pipes s t → place s < place t

-- no places do
abbrev pub HasNoOrder : List (ℕ × ℕ) → Type 0
HasNoOrder pipes = (place : ℕ → ℕ) → AreInOrder pipes place → ⊥

-- the same are joined, however often
abbrev pub SameJoins : List (ℕ × ℕ) → List (ℕ × ℕ) → Type 0
SameJoins pipes other = (s t : ℕ) → Joins pipes s t ↔ Joins other s t

-- a planned order is an order
abbrev pub PlannedIsOrder : Type 0
PlannedIsOrder = (n : ℕ) (pipes : List (ℕ × ℕ)) (order : List ℕ)
    → ((s t : ℕ) → Joins pipes s t → t < n) → IsPlannedOrder n pipes order
    → (place : ℕ → ℕ) × AreInOrder pipes place

-- there is only one planned order
abbrev pub PlannedIsOne : Type 0
PlannedIsOne = (n : ℕ) (pipes : List (ℕ × ℕ)) (order other : List ℕ) → IsPlannedOrder n pipes order
    → IsPlannedOrder n pipes other → order ≡ other

-- planned orders go by what is joined, and not by how the pipes are listed
abbrev pub PlannedByJoins : Type 0
PlannedByJoins = (n : ℕ) (pipes other : List (ℕ × ℕ)) → SameJoins pipes other
    → ((order : List ℕ) → IsPlannedOrder n pipes order → IsPlannedOrder n other order)
    × (HasNoOrder pipes → HasNoOrder other)
