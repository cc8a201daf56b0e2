-- The circle that waits make, as a stall has one: a node that waits for a full pipe waits for the
-- node that reads it, and one that waits for an empty pipe for the node that writes it
-- (POSIX.1-2017 XSH write, read; pipe(7)).
use Rattle.std.specs.Prelude.{◌≡◌, ℕ, zero, suc, ◌+◌, ◌-◌, ◌<◌, ◌≤◌, ◌⊎◌, List, [], map, length}
use Rattle.std.specs.Prelude.{Option, Some, None, Contains, slice_index_or, if◌then◌else◌}
use Rattle.std.specs.List.{All}
use Rattle.std.specs.Global.{Vec}
use Rattle.graphs.specs.Graph.{Graph, writer, reader, IsPipe, IsNode, AreDistinct, IsPlan}
use Rattle.network_laws.specs.State.{Setup, State}
use Rattle.network_laws.specs.Waits.{IsStuck}
use Rattle.network_laws.specs.Outcome.{IsNamed, AreWaits, other_end}
use Rattle.network_laws.specs.declared.outcome.Waiting.{Waiting}

-- the end of the pipe at which the node that waits for it has to be
abbrev pub own_end : Graph → Waiting → ℕ
own_end g w = if w.full then writer g w.pipe else reader g w.pipe

-- Waits as nodes of a graph can have them: each waits for a pipe of its own, a full one that it
-- writes or an empty one that it reads, and no node is there twice. They may be in any order.
pub record AreOwnWaits (g : Graph) (waits : List Waiting) : Type 0 where
  pub nodes : All (λ w. IsNode g w.node) waits
  pub pipes : All (λ w. IsPipe g w.pipe) waits
  pub own : All (λ w. own_end g w ≡ w.node) waits
  pub once : AreDistinct (map (λ w. w.node) waits)

-- the node k waits for a pipe that has the node j at its other end
abbrev pub WaitsOn : Graph → List Waiting → ℕ → ℕ → Type 0
WaitsOn g waits k j = (w : Waiting) × Contains waits w × (w.node ≡ k) × (other_end g w ≡ j)

-- following the waits from the node k, each to the other end of its pipe, leads to the node j after
-- this many of them
abbrev pub LeadTo : Graph → List Waiting → ℕ → ℕ → ℕ → Type 0
LeadTo g waits zero k j = k ≡ j
LeadTo g waits (suc n) k j = (i : ℕ) × LeadTo g waits n k i × WaitsOn g waits i j

-- k is the lowest node that waits
pub record IsLowestNamed (waits : List Waiting) (k : ℕ) : Type 0 where
  pub named : IsNamed k waits
  pub lowest : All (λ w. k ≤ w.node) waits

-- A circle of waits: at least two nodes, none of them twice. Each waits for a pipe that has the
-- next one at its other end, and the last for one that has the first.
pub record IsWaitCircle (g : Graph) (waits : List Waiting) (nodes : List ℕ) : Type 0 where
  pub several : 2 ≤ length nodes
  pub once : (i j : ℕ) → i < j → j < length nodes
      → slice_index_or nodes i 0 ≡ slice_index_or nodes j 0 → ⊥
  pub each : (i : ℕ) → i + 1 < length nodes
      → WaitsOn g waits (slice_index_or nodes i 0) (slice_index_or nodes (i + 1) 0)
  pub closed : WaitsOn g waits (slice_index_or nodes (length nodes - 1) 0)
      (slice_index_or nodes 0 0)

-- The circle that following the waits from the lowest node that waits reaches. It begins with its
-- own lowest node.
pub record IsCircleMet (g : Graph) (waits : List Waiting) (nodes : List ℕ) : Type 0 where
  pub circle : IsWaitCircle g waits nodes
  pub lowest : (i : ℕ) → i < length nodes → slice_index_or nodes 0 0 ≤ slice_index_or nodes i 0
  pub met : (k n : ℕ) × IsLowestNamed waits k × LeadTo g waits n k (slice_index_or nodes 0 0)

-- following the waits from the lowest node that waits leads to a node that does not wait
abbrev pub LeadOut : Graph → List Waiting → Type 0
LeadOut g waits = (k n j : ℕ) × IsLowestNamed waits k × LeadTo g waits n k j × (IsNamed j waits → ⊥)

-- what following the waits reaches: the circle of these nodes; or, if there is none, nothing waits
-- or they lead out
abbrev pub MeetsCircle : Graph → List Waiting → Option (Vec ℕ) → Type 0
MeetsCircle g waits None = (waits ≡ []) ⊎ LeadOut g waits
MeetsCircle g waits (Some nodes) = IsCircleMet g waits nodes.items

-- the waits of a stuck state do not lead out, and there are some
abbrev pub StuckWaitsMeetCircle : Type 0
StuckWaitsMeetCircle = (s : Setup) (st : State) (waits : List Waiting) → IsPlan s.graph
    → IsStuck s st → AreWaits s st waits → MeetsCircle s.graph waits None → ⊥

-- the waits of a stuck state are for pipes of its nodes' own, and no node is there twice among them
abbrev pub StuckWaitsAreOwn : Type 0
StuckWaitsAreOwn = (s : Setup) (st : State) (waits : List Waiting) → IsPlan s.graph → IsStuck s st
    → AreWaits s st waits → AreOwnWaits s.graph waits
