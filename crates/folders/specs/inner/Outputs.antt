-- Several outputs, and what is found while their new files take their places, the first one first.
use Rattle.std.specs.Prelude.{◌≡◌, ◌≢◌, ◌⊎◌, ℕ, ◌+◌, List, [], ◌∷◌, take, All, Any, bytes_eq, ⊤}
use Rattle.std.specs.Prelude.{Option, Some, None, if◌then◌else◌}
use Rattle.folders.specs.inner.Folder.{View, FolderShown, IsStored, LosesOnly}
use Rattle.folders.specs.declared.fault.PlaceFault.{PlaceFault}
use Rattle.folders.specs.declared.fault.PlaceFault.TheVariants.{NotStored, NotRenamed, NamesNotStored}
use Rattle.folders.specs.declared.output.Output.{Output}

-- ---- names

-- no output has a new file of this name
abbrev pub IsNoNew : List Output → List ℕ → Type 0
IsNoNew os n = All (λ o. n ≢ o.new) os

-- it is the place of no output
abbrev pub IsNoPlace : List Output → List ℕ → Type 0
IsNoPlace os n = All (λ o. n ≢ o.place) os

-- No name of an output is one of another, and its two names are two.
abbrev pub AreApart : List Output → Type 0
AreApart [] = ⊤
AreApart (o ∷ os) = (o.new ≢ o.place) × (IsNoNew os o.new × IsNoPlace os o.new)
    × (IsNoNew os o.place × IsNoPlace os o.place) × AreApart os

-- ---- what is found

-- every name but those of the new files holds what it held
abbrev pub IsElsewhereOf : List Output → (view found : View) → Type 0
IsElsewhereOf os view found = (n : List ℕ) → IsNoNew os n → found n ≡ view n

-- the new name of each means a file
abbrev pub AllFiles : List Output → View → Type 0
AllFiles os view = All (λ o. (b : List ℕ) × (view o.new ≡ Some b)) os

-- the new name of each is free
abbrev pub AllGone : List Output → View → Type 0
AllGone os found = All (λ o. found o.new ≡ None) os

-- The place of each holds what its new file held, whose name is free. Every other name holds what
-- it held.
pub record ArePlaced (os : List Output) (view found : View) : Type 0 where
  pub files : AllFiles os view
  pub whole : All (λ o. found o.place ≡ view o.new) os
  pub gone : AllGone os found
  pub others : (n : List ℕ) → IsNoNew os n → IsNoPlace os n → found n ≡ view n

-- a file has another name, and no longer its old one
abbrev pub renamed : (from to : List ℕ) → View → View
renamed from to view n =
    if bytes_eq n to then view from else if bytes_eq n from then None else view n

-- they are in their places, the first of them first
abbrev pub placed : List Output → View → View
placed [] view = view
placed (o ∷ os) view = placed os (renamed o.new o.place view)

-- this many of them are in their places, and every name but those of the new files holds what it
-- held
abbrev pub AreInFront : ℕ → List Output → (view found : View) → Type 0
AreInFront k os view found = IsElsewhereOf os (placed (take k os) view) found

-- a front of them is in place, and all else is as it was
abbrev pub IsFront : List Output → (view found : View) → Type 0
IsFront os view found = (k : ℕ) × AreInFront k os view found

-- those before the one of this number are in their places, and maybe it too, and all else is as
-- it was
abbrev pub IsStoppedAt : ℕ → List Output → (view found : View) → Type 0
IsStoppedAt k os view found = AreInFront k os view found ⊎ AreInFront (k + 1) os view found

-- what is in place after this fault
abbrev pub IsStoppedBy : PlaceFault → List Output → (view found : View) → Type 0
IsStoppedBy (NotStored fault) os view found = IsElsewhereOf os view found
IsStoppedBy (NotRenamed fault) os view found = IsStoppedAt fault.output os view found
IsStoppedBy (NamesNotStored why) os view found = IsElsewhereOf os (placed os view) found

-- ---- what a power loss leaves

-- the new name of each means a file whose bytes are stored
abbrev pub AllStored : List Output → FolderShown → Type 0
AllStored os f = All (λ o. IsStored o.new f) os

-- of the file that the place of each means, a power loss leaves just the bytes of the new file
abbrev pub AllKept : List Output → View → FolderShown → Type 0
AllKept os view f = All (λ o. (b : List ℕ) → f.bytes_of o.place b → view o.new ≡ Some b) os

-- a power loss leaves in the place of each just the new file
abbrev pub AllLast : List Output → View → FolderShown → Type 0
AllLast os view f =
    All (λ o. (c : Option (List ℕ)) → f.may_hold o.place c → c ≡ view o.new) os

-- it is the place of one of them, and has the whole of its new file
abbrev pub IsWhole : List Output → View → List ℕ → Option (List ℕ) → Type 0
IsWhole os view n c = Any (λ o. (n ≡ o.place) × (c ≡ view o.new)) os

-- a power loss could have left this of the name before, or it is whole
abbrev pub IsOldOrWhole : List Output → FolderShown → List ℕ → Option (List ℕ) → Type 0
IsOldOrWhole os old n c = old.may_hold n c ⊎ IsWhole os old.seen n c

-- A power loss leaves each name but those of the new files as it could be before, or whole: at any
-- moment of the run, and after it.
pub record LosesNothing (os : List Output) (old new : FolderShown) : Type 0 where
  pub power : (n : List ℕ) → IsNoNew os n → LosesOnly n (IsOldOrWhole os old n) old new
  pub may : (n : List ℕ) (c : Option (List ℕ))
      → IsNoNew os n → new.may_hold n c → IsOldOrWhole os old n c
