-- Nodes are taken away one after another, each time the lowest that has few enough links to nodes
-- that are still there. With links to the writers of a node's pipes, and none allowed, they come in
-- the order in which data passes through the commands of a pipeline (POSIX.1-2017 XCU 2.9.2).
use Rattle.std.specs.Prelude.{◌≡◌, ◌≢◌, ℕ, ◌<◌, ◌≤◌, ◌==◌, Bool, true, false, not, List, length}
use Rattle.std.specs.Prelude.{take, count_by, slice_index_or}
use Rattle.std.specs.List.{list_any, Contains}
use Rattle.std.specs.Global.{Vec}
use Rattle.graphs.specs.inner.Rows.{links_at}

-- each row of the table has numbers below n
abbrev pub AreWithin : ℕ → List (Vec ℕ) → Type 0
AreWithin n links = (k : ℕ) (i : ℕ) → i < length (links_at links k)
    → slice_index_or (links_at links k) i 0 < n

-- whether the node t was taken
abbrev pub is_taken : List ℕ → ℕ → Bool
is_taken taken t = list_any (λ s. s == t) taken

-- how many of these were not taken
abbrev pub left : List ℕ → List ℕ → ℕ
left taken links = count_by (λ t. not (is_taken taken t)) links

-- the node t is still there, and has at most this many links to nodes that are
pub record IsBare (most : ℕ) (n : ℕ) (links : ℕ → List ℕ) (taken : List ℕ) (t : ℕ) : Type 0 where
  pub within : t < n
  pub there : is_taken taken t ≡ false
  pub few : left taken (links t) ≤ most

-- it is the lowest such node
pub record IsNext (most : ℕ) (n : ℕ) (links : ℕ → List ℕ) (taken : List ℕ) (s : ℕ) : Type 0 where
  pub bare : IsBare most n links taken s
  pub lowest : (t : ℕ) → t < s → IsBare most n links taken t → ⊥

-- nodes were taken in this order until there was none to take
pub record IsStripped (most : ℕ) (n : ℕ) (links : ℕ → List ℕ) (taken : List ℕ) : Type 0 where
  pub each : (p : ℕ) → p < length taken
      → IsNext most n links (take p taken) (slice_index_or taken p 0)
  pub stuck : (t : ℕ) → IsBare most n links taken t → ⊥

-- how many of these have no mark
abbrev pub left_of : List Bool → List ℕ → ℕ
left_of marks links = count_by (λ t. not (slice_index_or marks t false)) links

-- the node t has no mark, and at most this many of its links have none
pub record IsOpen (most : ℕ) (links : ℕ → List ℕ) (marks : List Bool) (t : ℕ) : Type 0 where
  pub within : t < length marks
  pub there : slice_index_or marks t false ≡ false
  pub few : left_of marks (links t) ≤ most

-- if the node t has a link to k, it is one of those that k leads back to
abbrev pub AreMirrored : ℕ → (ℕ → List ℕ) → (ℕ → List ℕ) → Type 0
AreMirrored n links back = (t i : ℕ) → t < n → i < length (links t)
    → Contains (back (slice_index_or (links t) i 0)) t

-- how many were taken is known by whether all were
pub record AreCounted (n : ℕ) (taken : List ℕ) : Type 0 where
  pub all : length taken ≡ n → (t : ℕ) → t < n → is_taken taken t ≡ true
  pub some : length taken ≢ n → (t : ℕ) × (t < n) × (is_taken taken t ≡ false)
