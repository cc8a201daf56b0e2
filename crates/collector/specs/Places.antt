-- Outputs that are held back until a run has finished, and then put in place.
--
-- A file that is renamed over another takes its place at once, and who had that open keeps the old
-- one (POSIX.1-2017 XSH rename). What is no file of a name, as the standard output, is written as
-- it comes.
use Rattle.std.specs.Prelude.{◌≡◌, ℕ, true, false, List, Some}
use Rattle.run_types.specs.Destinations.{Destination, StandardOutput, FileOf}
use Rattle.run_types.specs.Placings.{is_held}
use Rattle.run_types.specs.declared.placing.Placing.{Placing}
use Rattle.collector.specs.Files.{FilesShown, SameLogs, SameHeld}

-- the file of each name holds what it held
abbrev pub KeepsFiles : FilesShown → FilesShown → Type 0
KeepsFiles old new = (name : List ℕ) → new.contents (FileOf name) ≡ old.contents (FileOf name)

-- Nothing was opened, read or written.
pub record SameCalls (old new : FilesShown) : Type 0 where
  pub openings : new.openings ≡ old.openings
  pub inputs : SameLogs old.inputs new.inputs
  pub outputs : SameLogs old.outputs new.outputs
  pub targets : SameLogs old.targets new.targets
  pub held : SameHeld old new

-- From now on outputs get what is written as `placing` says. If they are held back, the file of
-- each name holds in its place what it held now.
pub record BeginsOutputs (placing : Placing) (old new : FilesShown) : Type 0 where
  pub calls : SameCalls old new
  pub failures : new.failures ≡ old.failures
  pub contents : (d : Destination) → new.contents d ≡ old.contents d
  pub held_back : new.held_back ≡ is_held placing
  pub in_place : is_held placing ≡ true
      → (name : List ℕ) → new.in_place name ≡ old.contents (FileOf name)

-- An output that was held back is in place: the file that it writes to holds there what was
-- written. The file of every other name holds in its place what it held.
pub record PutsInPlace (file : ℕ) (old new : FilesShown) : Type 0 where
  pub calls : SameCalls old new
  pub failures : new.failures ≡ old.failures
  pub contents : (d : Destination) → new.contents d ≡ old.contents d
  pub held_back : new.held_back ≡ old.held_back
  pub placed : old.held_back ≡ true → (name content : List ℕ)
      → old.targets file ≡ Some (FileOf name) → old.contents (FileOf name) ≡ Some content
      → new.in_place name ≡ Some content
  pub others : old.held_back ≡ true → (name : List ℕ)
      → (old.targets file ≡ Some (FileOf name) → ⊥) → new.in_place name ≡ old.in_place name

-- No output is held back any longer. If outputs were, the file of each name holds what it held in
-- its place: what was not put there is gone. Otherwise each file holds what it held.
pub record LeavesOutputs (old new : FilesShown) : Type 0 where
  pub calls : SameCalls old new
  pub failures : new.failures ≡ old.failures
  pub held_back : new.held_back ≡ false
  pub standard : new.contents StandardOutput ≡ old.contents StandardOutput
  pub left : old.held_back ≡ true
      → (name : List ℕ) → new.contents (FileOf name) ≡ old.in_place name
  pub unheld : old.held_back ≡ false
      → (d : Destination) → new.contents d ≡ old.contents d
