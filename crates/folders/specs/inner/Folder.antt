-- What a folder shows of itself, and what its calls do to that.
--
-- Each change is at once for whoever looks (POSIX.1-2017 XSH open, rename, unlink). What no sync has
-- stored may be lost. fsync of a file stores its bytes, and not its name: "For that an explicit
-- fsync() on a file descriptor for the directory is also needed" (fsync(2)).
use Rattle.std.specs.Prelude.{◌≡◌, ◌≢◌, ◌⊎◌, ◌≤◌, ℕ, List, [], ◌++◌, Option, Some, None}
use Rattle.folders.specs.inner.Calls.{Failures}

-- what each name holds: nothing, or a file of these bytes
abbrev pub View : Type 0
View = List ℕ → Option (List ℕ)

-- What a folder shows. Moments are numbers that do not fall, and those inside of calls count too.
pub record FolderShown : Type 1 where
  -- what each name holds for whoever looks
  pub seen : View
  -- what a power loss at this moment may leave of a name
  pub may_hold : List ℕ → Option (List ℕ) → Type 0
  -- which bytes it may leave of the file that a name means now, whatever its name then is
  pub bytes_of : List ℕ → List ℕ → Type 0
  -- this moment
  pub moment : ℕ
  -- what a look at some moment from this one on has found, or a kill has left
  pub seen_since : ℕ → View → Type 0
  -- what a power loss at some moment from this one on might have left of a name
  pub left_since : ℕ → List ℕ → Option (List ℕ) → Type 0
  -- the calls that failed
  pub failures : Failures

-- The moments of a folder: this one is one of those since an earlier one, and since this one there
-- is no other.
pub record CountsMoments (f : FolderShown) : Type 0 where
  pub counts_seen : (t : ℕ) → t ≤ f.moment → f.seen_since t f.seen
  pub counts_left : (t : ℕ) (n : List ℕ) (c : Option (List ℕ))
      → t ≤ f.moment → f.may_hold n c → f.left_since t n c
  pub only_seen : (found : View) → f.seen_since f.moment found → (n : List ℕ) → found n ≡ f.seen n
  pub only_left : (n : List ℕ) (c : Option (List ℕ)) → f.left_since f.moment n c → f.may_hold n c

-- ---- looks, and moments

-- a look finds just this
abbrev pub Shows : (view found : View) → Type 0
Shows view found = (n : List ℕ) → found n ≡ view n

-- a look finds this of every other name
abbrev pub IsElsewhere : (name : List ℕ) → (view found : View) → Type 0
IsElsewhere name view found = (n : List ℕ) → n ≢ name → found n ≡ view n

-- Time goes on: since t there was what there was before, or what has P.
pub record Elapses {A : Type 0} (P : A → Type 0) (before now : ℕ) (past since : ℕ → A → Type 0)
    : Type 0 where
  pub later : before ≤ now
  pub nothing_else : (t : ℕ) (a : A) → t ≤ before → since t a → past t a ⊎ P a
  pub keeps : (t : ℕ) (a : A) → t ≤ before → past t a → since t a

-- during a call a look finds only what has P, or what was there before
abbrev pub Looks : (P : View → Type 0) → (old new : FolderShown) → Type 0
Looks P old new = Elapses P old.moment new.moment old.seen_since new.seen_since

-- during a call a power loss leaves of each name what it may leave before the call, or after it
abbrev pub Loses : (old new : FolderShown) → Type 0
Loses old new = (n : List ℕ)
    → Elapses (new.may_hold n) old.moment new.moment (λ t. old.left_since t n) (λ t. new.left_since t n)

-- ---- what calls change

-- No other name is touched, and its file is not.
pub record Touches (name : List ℕ) (old new : FolderShown) : Type 0 where
  pub seen : IsElsewhere name old.seen new.seen
  pub may : (n : List ℕ) (c : Option (List ℕ)) → n ≢ name → new.may_hold n c → old.may_hold n c
  pub bytes : (n b : List ℕ) → n ≢ name → new.bytes_of n b → old.bytes_of n b

-- All looks the same, and a power loss leaves nothing else than before.
pub record Keeps (old new : FolderShown) : Type 0 where
  pub seen : Shows old.seen new.seen
  pub may : (n : List ℕ) (c : Option (List ℕ)) → new.may_hold n c → old.may_hold n c
  pub bytes : (n b : List ℕ) → new.bytes_of n b → old.bytes_of n b

-- a free name means an empty file now
abbrev pub Makes : (name : List ℕ) → (old new : FolderShown) → Type 0
Makes name old new = (old.seen name ≡ None) × (new.seen name ≡ Some [])

-- a file has these bytes more at its end
abbrev pub Grows : (name more : List ℕ) → (old new : FolderShown) → Type 0
Grows name more old new =
    (b : List ℕ) × (old.seen name ≡ Some b) × (new.seen name ≡ Some (b ++ more))

-- a free name means a file of these bytes now
abbrev pub Writes : (name bytes : List ℕ) → (old new : FolderShown) → Type 0
Writes name bytes old new = (old.seen name ≡ None) × (new.seen name ≡ Some bytes)

-- The name means a file, and a power loss leaves just the bytes of it that are seen.
abbrev pub IsStored : (name : List ℕ) → (f : FolderShown) → Type 0
IsStored name f =
    (b : List ℕ) × (f.seen name ≡ Some b) × ((c : List ℕ) → f.bytes_of name c → c ≡ b)

-- what a name may be after a power loss if its meaning is stored: free, or its file, with some of
-- the bytes that it may have
abbrev pub IsEntry : (f : FolderShown) → (name : List ℕ) → Option (List ℕ) → Type 0
IsEntry f name c =
    ((f.seen name ≡ None) × (c ≡ None)) ⊎ ((b : List ℕ) × f.bytes_of name b × (c ≡ Some b))

-- a power loss leaves each name what it means
abbrev pub NamesAreStored : FolderShown → Type 0
NamesAreStored f = (n : List ℕ) (c : Option (List ℕ)) → f.may_hold n c → IsEntry f n c

-- A file has another name now, and no longer its old one. No other name is touched.
pub record Renames (from to : List ℕ) (old new : FolderShown) : Type 0 where
  pub whole : (b : List ℕ) × (old.seen from ≡ Some b)
  pub moved : new.seen to ≡ old.seen from
  pub free : new.seen from ≡ None
  pub others : (n : List ℕ) → n ≢ from → n ≢ to → new.seen n ≡ old.seen n
  pub bytes : (b : List ℕ) → new.bytes_of to b → old.bytes_of from b

-- After a rename that is not stored a power loss leaves the new name as it was, or as a name of the
-- file, with some of the bytes that it may have. It leaves anything of the old name.
pub record MayRename (from to : List ℕ) (old new : FolderShown) : Type 0 where
  pub to_may : (c : Option (List ℕ)) → new.may_hold to c
      → old.may_hold to c ⊎ ((b : List ℕ) × old.bytes_of from b × (c ≡ Some b))
  pub may : (n : List ℕ) (c : Option (List ℕ))
      → n ≢ from → n ≢ to → new.may_hold n c → old.may_hold n c
  pub bytes : (n b : List ℕ) → n ≢ to → new.bytes_of n b → old.bytes_of n b

-- ---- runs of calls

-- Whatever there was at any moment since the first has P. The last line is for a run that began
-- earlier.
pub record LeavesOnly {A : Type 0} (P : A → Type 0) (before now : ℕ) (past since : ℕ → A → Type 0)
    : Type 0 where
  pub later : before ≤ now
  pub each : (a : A) → since before a → P a
  pub earlier : (t : ℕ) (a : A) → t ≤ before → since t a → past t a ⊎ P a

-- whoever looks at some moment of the run, or kills it, finds only what has P
abbrev pub ShowsOnly : (P : View → Type 0) → (old new : FolderShown) → Type 0
ShowsOnly P old new = LeavesOnly P old.moment new.moment old.seen_since new.seen_since

-- a power loss at some moment of the run leaves of this name only what has P
abbrev pub LosesOnly : (n : List ℕ) → (P : Option (List ℕ) → Type 0) → (old new : FolderShown) → Type 0
LosesOnly n P old new =
    LeavesOnly P old.moment new.moment (λ t. old.left_since t n) (λ t. new.left_since t n)

-- Of the names that have P nothing is changed, whatever ends the run.
pub record LeavesAlone (P : List ℕ → Type 0) (old new : FolderShown) : Type 0 where
  pub looks : ShowsOnly (λ found. (n : List ℕ) → P n → found n ≡ old.seen n) old new
  pub power : (n : List ℕ) → P n → LosesOnly n (old.may_hold n) old new
  pub may : (n : List ℕ) (c : Option (List ℕ)) → P n → new.may_hold n c → old.may_hold n c
