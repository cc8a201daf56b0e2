-- What the outputs of a plan write to, and what that holds once they are open.
--
-- An opening for output empties a file, unless it appends (POSIX.1-2017 XCU 2.7.2, 2.7.3).
use Rattle.std.specs.Prelude.{◌≡◌, ℕ, ◌<◌, List, length, Some, IsSome}
use Rattle.std.specs.List.{slice_get}
use Rattle.collector.specs.Files.{FilesShown, left_of}
use Rattle.run_types.specs.Destinations.{Destination, destination_of, is_kept}
use Rattle.planner.specs.declared.plan.OutOpening.{OutOpening}

-- of the first openings, only the one at this place is of an output that writes to this destination
abbrev pub IsSoleOpening : List OutOpening → ℕ → ℕ → Destination → Type 0
IsSoleOpening openings count place d =
    (other : ℕ) (o : OutOpening) → other < count → slice_get openings other ≡ Some o
    → destination_of o.name ≡ d → other ≡ place

-- The first outputs of these were opened, with these numbers by place, and no more. Each writes to
-- the destination of its name. If no other does, that holds what it held if the output appends,
-- otherwise nothing. Every other destination holds what it held.
pub record OpensDestinations (openings : List OutOpening) (files : List ℕ) (old new : FilesShown) :
    Type 0 where
  pub open_ : (place file : ℕ) → slice_get files place ≡ Some file → IsSome (new.outputs file)
  pub targets : (place file : ℕ) (o : OutOpening) → slice_get files place ≡ Some file
      → slice_get openings place ≡ Some o →
      new.targets file ≡ Some (destination_of o.name)
  pub contents : (place : ℕ) (o : OutOpening) → place < length files
      → slice_get openings place ≡ Some o →
      IsSoleOpening openings (length files) place (destination_of o.name) →
      new.contents (destination_of o.name)
      ≡ Some (left_of (is_kept o.name) (old.contents (destination_of o.name)))
  pub others : (d : Destination) →
      ((place : ℕ) (o : OutOpening) → place < length files → slice_get openings place ≡ Some o
      → destination_of o.name ≡ d → ⊥) →
      new.contents d ≡ old.contents d
