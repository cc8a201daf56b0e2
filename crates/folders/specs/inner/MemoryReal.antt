-- What is seen of a folder in memory may be left.
use Rattle.std.specs.Prelude.{◌≡◌, ℕ, List, Some}
use Rattle.folders.specs.inner.Folder.{FolderShown}
use Rattle.folders.specs.inner.Memory.{shown_by}
use Rattle.folders.specs.declared.memory.MemoryFolder.{MemoryFolder}

-- A power loss may leave what is seen of each name, and of each file: all of it may have reached
-- the disk.
pub record MayLeaveSeen (f : FolderShown) : Type 0 where
  pub names : (n : List ℕ) → f.may_hold n (f.seen n)
  pub bytes : (n b : List ℕ) → f.seen n ≡ Some b → f.bytes_of n b

-- so what a power loss leaves is no empty set
abbrev pub LooksMayBeLeft : Type 0
LooksMayBeLeft = (m : MemoryFolder) → MayLeaveSeen (shown_by m)
