-- How far a loop over outputs that are held back has come.
use Rattle.std.proofs.Common.{◌≡◌, ◌∙◌, ℕ, List, get_or, set, ap}
use Rattle.std.proofs.lemmas.List.{set-get_or}

-- the outputs are the same, and so are those that are held back, and no name but theirs is touched
pub record ReadySoFar (Same SameHeld Alone : Type 0) : Type 0 where
  pub same : Same
  pub held : SameHeld
  pub alone : Alone

-- an element that was put back as it was
pub put_back : {A : Type 0} (xs : List A) (i : ℕ) (was now : A) → now ≡ was → was ≡ get_or xs i was → set xs i now ≡ xs
put_back xs i was now same at = ap (set xs i) (same ∙ at) ∙ set-get_or xs i was
