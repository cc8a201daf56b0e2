-- Which full pipe of a network grows, what its growth leaves, and how growths are counted.
--
-- If a run over bounded pipes would stop for good, a full pipe of least capacity gets more room (T.
-- M. Parks, Bounded Scheduling of Process Networks, 1995, section 4.2; pipe(7), F_SETPIPE_SZ).
use Rattle.std.specs.Prelude.{◌≡◌, ◌≢◌, ℕ, zero, suc, ◌*◌, ◌<◌, ◌≤◌, ◌⊎◌, min, Option, Some, None}
use Rattle.std.specs.Prelude.{slice_get}
use Rattle.bounded_pipe.specs.Ends.{Writing, Reading, HoldsCapacity}
use Rattle.graphs.specs.Graph.{IsPipe}
use Rattle.network_laws.specs.State.{Setup, State}
use Rattle.network_laws.specs.Waits.{IsStuck}
use Rattle.network_nodes.specs.inner.Actors.{actor_at}
use Rattle.networks.specs.Networks.{Networked, GrownNetwork, writing_by, reading_by, rooms}
use Rattle.networks.specs.inner.Steps.{StandsStill}
use Rattle.networks.specs.NodeWaits.{WaitsFull}

-- ---- which pipe grows

-- The pipe p may grow: a node that runs waits for it as a full one, and it holds as many items as
-- its capacity, which is below the run's greatest.
pub record MayGrow (s : Setup) (st : State) (p : ℕ) : Type 0 where
  pub node : ℕ
  pub waits : WaitsFull s st node p
  pub holds : HoldsCapacity (st.writing p) (st.reading p)
  pub less : (st.writing p).capacity < s.most

-- of two pipes with these capacities, the first grows before the second: its capacity is less, or
-- its number is
abbrev pub GrowsBefore : (capacity number other_capacity other_number : ℕ) → Type 0
GrowsBefore capacity number other_capacity other_number =
    (capacity < other_capacity) ⊎ ((capacity ≡ other_capacity) × (number ≤ other_number))

-- The pipe that grows next, if one may grow: of those that may, the one of least capacity, then of
-- lowest number.
abbrev pub IsNext : Setup → State → Option ℕ → Type 0
IsNext s st None = (p : ℕ) → MayGrow s st p → ⊥
IsNext s st (Some p) = MayGrow s st p
    × ((q : ℕ) → MayGrow s st q → GrowsBefore (st.writing p).capacity p (st.writing q).capacity q)

-- ---- what a growth leaves

-- the capacity after a growth: twice the old one, at most the most
abbrev pub grown : ℕ → ℕ → ℕ
grown most capacity = min (2 * capacity) most

module _ {M : Type 0} where
  -- the two ends of a pipe, by its number
  abbrev pub out_of : Networked M → ℕ → Writing
  out_of n p = writing_by n.nodes (slice_get n.pipes p)

  abbrev pub in_of : Networked M → ℕ → Reading
  in_of n p = reading_by n.nodes (slice_get n.pipes p)

  -- The pipe p grew. No end has put, taken, noted or hung up anything, each other pipe is as it
  -- was, and so are the nodes but for their ends.
  pub record PipeGrows (p : ℕ) (old new : Networked M) : Type 0 where
    pub network : GrownNetwork old new
    pub some : 0 < rooms old p
    pub less : rooms old p < old.most
    pub twice : rooms new p ≡ grown old.most (rooms old p)
    pub others : (q : ℕ) → q ≢ p → (out_of new q ≡ out_of old q) × (in_of new q ≡ in_of old q)
    pub nodes : (k : ℕ) → StandsStill (actor_at old.nodes k) (actor_at new.nodes k)

-- ---- how growths are counted

-- One pipe grew, by the capacities that the pipes had and have.
pub record OneGrew (most : ℕ) (had has : ℕ → ℕ) : Type 0 where
  pub pipe : ℕ
  pub some : 0 < had pipe
  pub less : had pipe < most
  pub twice : has pipe ≡ grown most (had pipe)
  pub others : (q : ℕ) → q ≢ pipe → has q ≡ had q

-- growths, this many, one after another
abbrev pub AreGrown : ℕ → ℕ → (ℕ → ℕ) → (ℕ → ℕ) → Type 0
AreGrown most zero had has = (p : ℕ) → has p ≡ had p
AreGrown most (suc n) had has = (between : ℕ → ℕ) × AreGrown most n had between
    × OneGrew most between has

-- ---- growths out of stalls

-- One growth out of a stall, by the capacities that the pipes had and have. A state in which no
-- node can step has the capacities that they had. The pipe that is next in it grew, and no other.
pub record StallGrowth (s : Setup) (had has : ℕ → ℕ) : Type 0 where
  pub state : State
  pub stuck : IsStuck s state
  pub capacities : (q : ℕ) → IsPipe s.graph q → (state.writing q).capacity ≡ had q
  pub pipe : ℕ
  pub is_pipe : IsPipe s.graph pipe
  pub next : IsNext s state (Some pipe)
  pub twice : has pipe ≡ grown s.most (had pipe)
  pub others : (q : ℕ) → q ≢ pipe → has q ≡ had q

-- growths out of stalls, this many, one after another
abbrev pub GrowOutOfStalls : Setup → ℕ → (ℕ → ℕ) → (ℕ → ℕ) → Type 0
GrowOutOfStalls s zero had has = (p : ℕ) → has p ≡ had p
GrowOutOfStalls s (suc n) had has = (between : ℕ → ℕ) × GrowOutOfStalls s n had between
    × StallGrowth s between has
