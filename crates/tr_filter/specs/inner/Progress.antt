-- How far tr has come over bytes in place. No public contract cites this file.
use Rattle.std.specs.Prelude.{◌≡◌, ℕ, ◌≤◌, Bool, List, Option, take, drop}
use Rattle.tr_words.specs.declared.tr_words.TrSpec.{TrSpec}
use Rattle.tr_words.specs.Tr.{translated, squeezed, last_of}

-- the first `kept` bytes are what tr leaves of the first i by deletion and translation;
-- those from i on are unchanged
pub record Thinned (spec : TrSpec) (xs bs : List ℕ) (kept i : ℕ) : Type 0 where
  pub within : kept ≤ i
  pub made : take kept bs ≡ translated spec (take i xs)
  pub rest : drop i bs ≡ drop i xs

-- the first `kept` bytes are what is left of the first i after runs are squeezed;
-- those from i on are unchanged
pub record Pressed (set : Option (List Bool)) (l0 : Option ℕ) (xs bs : List ℕ) (kept i : ℕ)
    (l : Option ℕ) : Type 0 where
  pub within : kept ≤ i
  pub made : take kept bs ≡ squeezed set l0 (take i xs)
  pub last : l ≡ last_of l0 (take i xs)
  pub rest : drop i bs ≡ drop i xs
