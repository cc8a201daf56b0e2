-- Files in memory whose outputs are held back: what each file holds in its place meanwhile.
use Rattle.std.specs.Prelude.{◌≡◌, ℕ, true, List, Option, Some, None, IsSome, unwrap_or}
use Rattle.std.specs.Prelude.{option_and_then, if◌then◌else◌, Result, OnOk, OnErr}
use Rattle.collector.specs.Files.{one_more}
use Rattle.run_types.specs.Placings.{is_held}
use Rattle.run_types.specs.declared.placing.Placing.{Placing}
use Rattle.file_stores.specs.inner.Opened.{target_at}
use Rattle.file_stores.specs.inner.Memory.{Stored, MemoryShown, content_of, Holds}

-- what files hold in their places from now on, if outputs get what is written in this way
abbrev pub former_of : Placing → List Stored → Option (List Stored)
former_of placing contents = if is_held placing then Some contents else None

-- the file of this name gets this content, if there is one; every other file holds what it held
abbrev pub Gets : List ℕ → Option (List ℕ) → List Stored → List Stored → Type 0
Gets name None old new = new ≡ old
Gets name (Some content) old new = Holds name content old new

-- it gets that in its place, if outputs are held back
abbrev pub PutsIn : List ℕ → Option (List ℕ) → Option (List Stored) → Option (List Stored) → Type 0
PutsIn name content None new = new ≡ None
PutsIn name content (Some old) None = ⊥
PutsIn name content (Some old) (Some new) = Gets name content old new

-- The file that an output writes to gets in its place what it holds now, if outputs are held back.
-- If the output has no file, nothing changes.
abbrev pub Puts : Option (List ℕ) → List Stored → Option (List Stored) → Option (List Stored)
    → Type 0
Puts None contents old new = new ≡ old
Puts (Some name) contents old new = PutsIn name (content_of contents name) old new

-- What a call of `begin_outputs` did. Only to hold outputs back needs memory.
pub record BeginsInMemory {E : Type 0} (placing : Placing) (result : Result (Unit {0}) E)
    (old new : MemoryShown) : Type 0 where
  pub begins : OnOk result (new ≡ record old { former = former_of placing old.contents })
  pub needs : OnErr result (is_held placing ≡ true)
  pub rest : OnErr result (new ≡ old)

-- What a call of `put_in_place` did. Only a file that is there needs memory, while outputs are held
-- back. If that was refused, nothing but the count of failures changed.
pub record PlacesInMemory {E : Type 0} (file : ℕ) (result : Result (Unit {0}) E)
    (old new : MemoryShown) : Type 0 where
  pub puts : OnOk result (Puts (target_at old.outputs file) old.contents old.former new.former)
  pub only : OnOk result (new ≡ record old { former = new.former })
  pub needs : OnErr result
      (IsSome old.former
      × IsSome (option_and_then (content_of old.contents) (target_at old.outputs file)))
  pub rest : OnErr result (new ≡ record old { failures = one_more old.failures })

-- What a call of `leave_outputs` did. If outputs were held back, each file holds what it held in
-- its place. Nothing else changed.
abbrev pub LeavesInMemory : MemoryShown → MemoryShown → Type 0
LeavesInMemory old new =
    new ≡ record old { contents = unwrap_or old.former old.contents; former = None }
