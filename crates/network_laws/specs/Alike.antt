-- Contents that differ only where the one stage that reads them is blind, and the sequential answer
-- that they have in common.
use Rattle.std.specs.Prelude.{◌≡◌, ℕ, ◌⊎◌, true, false, List, [], ◌∷◌, Option, Some}
use Rattle.std.specs.Option.{unwrap_or}
use Rattle.machine.specs.Whole.{WholeAnswer}
use Rattle.graphs.specs.Graph.{Graph, Stage, node_at, writer, IsAmong}
use Rattle.network_laws.specs.Sequential.{Contents, is_source, is_missing, missing_in, answer}
use Rattle.network_laws.specs.Sequential.{answer_status}

-- Each stage that reads the source k reads nothing else, and makes the same of these two contents.
abbrev pub IsReadAlike : Graph → List ℕ → List ℕ → ℕ → Type 0
IsReadAlike g one other k = (j p : ℕ) (filter : WholeAnswer) (inputs : List ℕ)
    (branches : List (Option ℕ)) → node_at g j ≡ Some (Stage filter inputs branches)
    → IsAmong p inputs → writer g p ≡ k
    → (inputs ≡ p ∷ []) × (filter (Some one ∷ []) ≡ filter (Some other ∷ []))

-- Two contents are alike for a graph: the same sources are missing, and each source has the same
-- content in both, or is read alike.
pub record AreAlike (g : Graph) (contents others : Contents) : Type 0 where
  pub missing : (k : ℕ) → is_missing g (missing_in others) k ≡ is_missing g (missing_in contents) k
  pub alike : (k : ℕ) → is_source (node_at g k) ≡ true
      → (others k ≡ contents k)
      ⊎ IsReadAlike g (unwrap_or (contents k) []) (unwrap_or (others k) []) k

-- Each pipe has the same list in both answers, unless a source whose content differs writes it. So
-- each output that a stage writes is the same. The exit status is the same.
pub record HaveOneAnswer (g : Graph) (contents others : Contents) : Type 0 where
  pub pipes : (p : ℕ)
      → (is_source (node_at g (writer g p)) ≡ false) ⊎ (others (writer g p) ≡ contents (writer g p))
      → answer g others p ≡ answer g contents p
  pub status : answer_status g others ≡ answer_status g contents

-- alike contents have one sequential answer
abbrev pub AlikeContentsHaveOneAnswer : Type 0
AlikeContentsHaveOneAnswer = (g : Graph) (contents others : Contents) → AreAlike g contents others
    → HaveOneAnswer g contents others
