-- The place of a file in memory: a word of a contract that is not public.
use Rattle.std.specs.Prelude.{◌≡◌, ℕ, ◌<◌, List, length, Some, slice_index_or, slice_set}
use Rattle.file_stores.specs.inner.Memory.{Stored, content_of}

-- the first file of this name is at this place
pub record IsPlaceOf (name : List ℕ) (files : List Stored) (place : ℕ) : Type 0 where
  pub within : place < length files
  pub named : (spare : Stored) → (slice_index_or files place spare).name ≡ name
  pub content : (spare : Stored)
      → content_of files name ≡ Some (slice_index_or files place spare).bytes
  pub first : (changed : Stored) → changed.name ≡ name
      → content_of (slice_set files place changed) name ≡ Some changed.bytes
