-- Which branches have the front item, which lack it, and which are closed.
--
-- tee writes what it reads to each of its files; a file that fails does not stop the others
-- (POSIX.1-2017 XCU tee, CONSEQUENCES OF ERRORS).
use Rattle.std.specs.Prelude.{◌≡◌, ◌≢◌, ℕ, ◌<◌, List, length, slice_index_or, Bool, true, false}
use Rattle.splice_tee.specs.declared.branches.Served.{Served}
use Rattle.splice_tee.specs.declared.branches.Served.TheVariants.{Lacks, Has, Gone}

-- whether the branch is open
abbrev pub is_open : Served → Bool
is_open Lacks = true
is_open Has = true
is_open Gone = false

-- whether a branch lacks the front item
abbrev pub is_lacking : Served → Bool
is_lacking Lacks = true
is_lacking Has = false
is_lacking Gone = false

-- the state of branch k; a number beyond the branches counts as gone
abbrev pub served_at : List Served → ℕ → Served
served_at served k = slice_index_or served k Gone

-- the branch k is open and lacks the front item
abbrev pub IsLacking : List Served → ℕ → Type 0
IsLacking served k = (k < length served) × (served_at served k ≡ Lacks)

-- no branch but k lacks the front item
abbrev pub NoOtherLacks : List Served → ℕ → Type 0
NoOtherLacks served k = (j : ℕ) → j ≢ k → served_at served j ≢ Lacks

-- no branch lacks the front item
abbrev pub NoneLacks : List Served → Type 0
NoneLacks served = (k : ℕ) → served_at served k ≢ Lacks

-- the branch k is the first that lacks the front item
pub record IsFirstLacking (served : List Served) (k : ℕ) : Type 0 where
  pub lacks : IsLacking served k
  pub first : (j : ℕ) → j < k → served_at served j ≢ Lacks

-- some branch is open
abbrev pub SomeOpen : List Served → Type 0
SomeOpen served = (k : ℕ) × (is_open (served_at served k) ≡ true)

-- no branch is open
abbrev pub NoneOpen : List Served → Type 0
NoneOpen served = (k : ℕ) → served_at served k ≡ Gone

-- the state of a branch for the next item, if none lacks the front item
abbrev pub lacking_again : Served → Served
lacking_again Lacks = Lacks
lacking_again Has = Lacks
lacking_again Gone = Gone
