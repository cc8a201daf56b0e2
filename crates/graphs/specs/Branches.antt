-- Graphs whose nodes have at most one branch: those of pipelines whose commands are joined by pipes
-- alone (POSIX.1-2017 XCU 2.9.2), and in which tee has no operand (XCU tee).
use Rattle.std.specs.Prelude.{◌≡◌, ℕ}
use Rattle.graphs.specs.Graph.{Graph, Writes, IsPlan, IsForest}

-- each node writes at most one pipe
abbrev pub HasSingleBranches : Graph → Type 0
HasSingleBranches g = (k p q : ℕ) → Writes g k p → Writes g k q → p ≡ q

-- a plan in which each node writes at most one pipe is a forest
abbrev pub SingleBranchesAreForests : Type 0
SingleBranchesAreForests = (g : Graph) → IsPlan g → HasSingleBranches g → IsForest g
