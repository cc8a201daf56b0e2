-- Outputs that are held back.
use Rattle.std.specs.Prelude.{◌≢◌, List}
use Rattle.folders.specs.inner.Outputs.{IsNoNew, IsNoPlace}
use Rattle.folders.specs.declared.output.Output.{Output}

-- their folder, and the names of each, in the order in which they were added
pub record HoldingShown (D : Type 0) : Type 0 where
  pub disk : D
  pub outputs : List Output

-- the two names of an output are two, and neither is a name of these
abbrev pub IsApartFrom : List Output → Output → Type 0
IsApartFrom os o = (o.new ≢ o.place) × (IsNoNew os o.new × IsNoPlace os o.new)
    × (IsNoNew os o.place × IsNoPlace os o.place)
