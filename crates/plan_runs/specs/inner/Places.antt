-- Outputs that are put in place one after another: words of contracts that are not public.
use Rattle.std.specs.Prelude.{◌≡◌, ℕ, ◌<◌, true, List, Some}
use Rattle.std.specs.List.{slice_get}
use Rattle.collector.specs.Files.{FilesShown, one_more}
use Rattle.collector.specs.Places.{SameCalls}
use Rattle.run_types.specs.Destinations.{Destination, FileOf}

-- Of these outputs, the first ones, as many as `count`, were put in place. The file of every other
-- name holds in its place what it held.
pub record PlacesOutputs (files : List ℕ) (count : ℕ) (old new : FilesShown) : Type 0 where
  pub calls : SameCalls old new
  pub contents : (d : Destination) → new.contents d ≡ old.contents d
  pub held_back : new.held_back ≡ old.held_back
  pub placed : old.held_back ≡ true → (place file : ℕ) (name content : List ℕ) → place < count
      → slice_get files place ≡ Some file → old.targets file ≡ Some (FileOf name)
      → old.contents (FileOf name) ≡ Some content → new.in_place name ≡ Some content
  pub others : old.held_back ≡ true → (name : List ℕ)
      → ((place file : ℕ) → place < count → slice_get files place ≡ Some file
      → old.targets file ≡ Some (FileOf name) → ⊥) →
      new.in_place name ≡ old.in_place name

-- The output at this place could not be put in place; those before it were.
pub record StopsAt (files : List ℕ) (place : ℕ) (old new : FilesShown) : Type 0 where
  pub places : PlacesOutputs files place old new
  pub held_back : old.held_back ≡ true
  pub failures : new.failures ≡ one_more old.failures
