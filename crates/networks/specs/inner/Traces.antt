-- The steps of a schedule one by one: the words of private functions.
--
-- A node reads and writes its own pipes and its own file alone (POSIX.1-2017 XCU 2.9.2, XSH read,
-- write; pipe(7)).
use Rattle.std.specs.Prelude.{◌≡◌, ℕ, ◌<◌, List, [], ◌∷◌, length}
use Rattle.machine.specs.Law.{Shown}
use Rattle.collector.specs.Files.{FilesShown}
use Rattle.run_types.specs.declared.step.Step.{Step}
use Rattle.networks.specs.Networks.{Networked, SameNetwork, StaysRight, StepsNode, SaysTruly}

module _ {M : Type 0} where
  -- a step of the node k of a network, which stays what it is
  pub record StepsOne (shows : M
      → Shown) (k : ℕ) (old : Networked M) (before : FilesShown)
      (new : Networked M) (after : FilesShown) : Type 0 where
    pub step : Step
    pub within : k < length old.nodes
    pub step_is : StepsNode shows k old new before after
    pub says : SaysTruly shows k old new before after step
    pub same : SameNetwork old new
    pub right : StaysRight shows old new before after

  -- steps of the nodes of this list, one after another
  abbrev pub StepsAll : (M → Shown) → List ℕ → Networked M → FilesShown → Networked M → FilesShown
      → Type 0
  StepsAll shows [] old before new after = (new ≡ old) × (after ≡ before)
  StepsAll shows (k ∷ nodes) old before new after = (mid : Networked M) × (between : FilesShown)
      × StepsOne shows k old before mid between × StepsAll shows nodes mid between new after
