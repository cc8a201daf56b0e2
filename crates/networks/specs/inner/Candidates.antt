-- Words of private functions alone: the pipe of a node that may grow, and the one of several that
-- grows first.
use Rattle.std.specs.Prelude.{◌≡◌, ℕ, ◌<◌, ◌⊎◌, List, length, Option, Some, None, slice_get}
use Rattle.bounded_pipe.specs.Ends.{HoldsCapacity}
use Rattle.network_laws.specs.State.{Setup, State}
use Rattle.network_nodes.specs.declared.actor.Actor.{Actor}
use Rattle.network_nodes.specs.declared.actor.Link.{Link}
use Rattle.networks.specs.Networks.{writing_by}
use Rattle.networks.specs.NodeWaits.{WaitsFull}
use Rattle.networks.specs.Growth.{MayGrow, GrowsBefore}
use Rattle.networks.specs.declared.choosing.Candidate.{Candidate}

-- the number is that of a pipe whose capacity is below the most
abbrev pub IsWithin : {M : Type 0} → List (Actor M) → List Link → ℕ → ℕ → Type 0
IsWithin nodes pipes most p = (p < length pipes)
    × ((writing_by nodes (slice_get pipes p)).capacity < most)

-- the pipe p may grow, and the node k waits for it
abbrev pub NodeMayGrow : Setup → State → ℕ → ℕ → Type 0
NodeMayGrow s st k p = WaitsFull s st k p × HoldsCapacity (st.writing p) (st.reading p)
    × ((st.writing p).capacity < s.most)

-- the pipe that may grow and for which the node k waits, if there is one
abbrev pub IsCandidate : Setup → State → ℕ → Option Candidate → Type 0
IsCandidate s st k None = (p : ℕ) → NodeMayGrow s st k p → ⊥
IsCandidate s st k (Some c) =
    NodeMayGrow s st k c.pipe × (c.capacity ≡ (st.writing c.pipe).capacity)
    × ((p : ℕ) → NodeMayGrow s st k p → p ≡ c.pipe)

-- the one that grows first of those of the nodes below the number k
abbrev pub IsFirst : Setup → State → ℕ → Option Candidate → Type 0
IsFirst s st k None = (j p : ℕ) → j < k → NodeMayGrow s st j p → ⊥
IsFirst s st k (Some c) =
    MayGrow s st c.pipe × (c.capacity ≡ (st.writing c.pipe).capacity)
    × ((j p : ℕ) → j < k → NodeMayGrow s st j p
    → GrowsBefore c.capacity c.pipe (st.writing p).capacity p)

-- the one of these two that grows first, if there is one
abbrev pub IsSooner : Option Candidate → Option Candidate → Option Candidate → Type 0
IsSooner None other found = found ≡ other
IsSooner (Some one) None found = found ≡ Some one
IsSooner (Some one) (Some other) found =
    (GrowsBefore one.capacity one.pipe other.capacity other.pipe × (found ≡ Some one))
    ⊎ (GrowsBefore other.capacity other.pipe one.capacity one.pipe × (found ≡ Some other))
