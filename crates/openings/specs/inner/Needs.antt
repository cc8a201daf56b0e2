-- How much of what each node puts on its pipes is needed by those who read them.
use Rattle.std.specs.Prelude.{◌≡◌, ℕ, ◌<◌, List, Option, Some, None}
use Rattle.std.specs.List.{slice_get}
use Rattle.commands.specs.declared.spec.FilterSpec.{FilterSpec}
use Rattle.commands.specs.declared.tail_words.TailSpec.{TailSpec}
use Rattle.collector.specs.declared.needed.NeededEnd.{NeededEnd}
use Rattle.planner.specs.Planned.{Planned}
use Rattle.planner.specs.declared.plan.Node.{Node}
use Rattle.openings.specs.Needs.{end_by, end_for, front_for, HasNoHead, IsNeededOnly, IsReadByHead}
use Rattle.openings.specs.Needs.{NeedsOnly, TakesFirst}
use Rattle.openings.specs.declared.needs.Need.{Need}
use Rattle.openings.specs.declared.needs.Need.TheVariants.{Nothing, Only, First, Everything}

-- a need with one more reader
abbrev pub then_need : Need → Need → Need
then_need Nothing other = other
then_need (Only needed) other = Everything
then_need (First n) other = Everything
then_need Everything other = Everything

-- this is no more than what tail needs of its only input
abbrev pub IsNeedByTail : TailSpec → Need → Type 0
IsNeedByTail s (Only needed) = end_by s.origin s.counted s.count ≡ Some needed
IsNeedByTail s Everything = Unit {0}
IsNeedByTail s _ = ⊥

-- this is no more than what a filter needs of its only input
abbrev pub IsNeedBy : FilterSpec → Need → Type 0
IsNeedBy filter Nothing = ⊥
IsNeedBy filter (Only needed) = end_for filter ≡ Some needed
IsNeedBy filter (First n) = front_for filter ≡ Some n
IsNeedBy filter Everything = front_for filter ≡ None

-- this covers what a node needs of this pipe
abbrev pub IsNeedOf : Node → ℕ → Need → Type 0
IsNeedOf reader p Nothing = ⊥
IsNeedOf reader p (Only needed) = NeedsOnly needed p reader
IsNeedOf reader p (First n) = TakesFirst n p reader
IsNeedOf reader p Everything = (n : ℕ) → TakesFirst n p reader → ⊥

-- the node k writes this pipe, which goes to this reader
abbrev pub Joins : Planned → ℕ → ℕ → ℕ → Type 0
Joins plan k p reader = slice_get plan.pipes p ≡ Some (k, reader)

-- Of the first pipes, the node k writes a single one, and a head of this many lines reads that and
-- nothing else.
pub record IsReadFirst (plan : Planned) (count k n : ℕ) : Type 0 where
  pub pipe : ℕ
  pub reader : ℕ
  pub below : pipe < count
  pub reads : Joins plan k pipe reader
  pub single : (p r : ℕ) → p < count → Joins plan k p r → p ≡ pipe
  pub head : Node
  pub head_at : slice_get plan.nodes reader ≡ Some head
  pub takes : TakesFirst n pipe head

-- those who read the first pipes of the node k need only this end
abbrev pub NeedEnd : Planned → ℕ → ℕ → NeededEnd → Type 0
NeedEnd plan count k needed =
    (p reader : ℕ) → p < count → Joins plan k p reader
    → (n : Node) × (slice_get plan.nodes reader ≡ Some n) × NeedsOnly needed p n

-- A need covers those who read the first pipes of the node k. Only if it is that of a head, a head
-- can be the only reader.
abbrev pub CoversFirst : Planned → ℕ → ℕ → Option Need → Type 0
CoversFirst plan count k (Some Nothing) = (p reader : ℕ) → p < count → Joins plan k p reader → ⊥
CoversFirst plan count k (Some (Only needed)) = NeedEnd plan count k needed × HasNoHead plan k
CoversFirst plan count k (Some (First n)) = IsReadFirst plan count k n
CoversFirst plan count k (Some Everything) = HasNoHead plan k
CoversFirst plan count k None = Unit {0}

-- by the number of a node, the part that is all that its readers need
pub record AreNeeds (plan : Planned) (needs : List Need) : Type 0 where
  pub ends : (k : ℕ) (needed : NeededEnd) → slice_get needs k ≡ Some (Only needed)
      → IsNeededOnly plan k needed
  pub heads : (k n : ℕ) → slice_get needs k ≡ Some (First n) → IsReadByHead plan k n
  pub all_heads : (k n : ℕ) → IsReadByHead plan k n → slice_get needs k ≡ Some (First n)

-- a need is what the readers of the node k need: unless it is that of a head, no head is the only
-- reader
abbrev pub IsNeedFor : Planned → ℕ → Need → Type 0
IsNeedFor plan k Nothing = HasNoHead plan k
IsNeedFor plan k (Only needed) = IsNeededOnly plan k needed
IsNeedFor plan k (First n) = IsReadByHead plan k n
IsNeedFor plan k Everything = HasNoHead plan k
