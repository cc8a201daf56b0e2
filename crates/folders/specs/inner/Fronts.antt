-- What a front of outputs is, name by name.
use Rattle.std.specs.Prelude.{◌≡◌, ◌⊎◌, ℕ, List, All}
use Rattle.folders.specs.inner.Folder.{View}
use Rattle.folders.specs.inner.Outputs.{AreApart, IsFront, IsNoNew, IsNoPlace}
use Rattle.folders.specs.declared.output.Output.{Output}

-- Each place holds what it held, or what its new file held. Every name that is none of theirs holds
-- what it held.
pub record IsOldOrWholeEach (os : List Output) (view found : View) : Type 0 where
  pub places : All (λ o. (found o.place ≡ view o.place) ⊎ (found o.place ≡ view o.new)) os
  pub others : (n : List ℕ) → IsNoNew os n → IsNoPlace os n → found n ≡ view n

-- so is every front
abbrev pub FrontsAreOldOrWhole : Type 0
FrontsAreOldOrWhole = (os : List Output) → AreApart os
    → (view found : View) → IsFront os view found → IsOldOrWholeEach os view found
