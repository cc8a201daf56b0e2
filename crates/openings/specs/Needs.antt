-- How much of an input its reader needs, and what an opening leaves of it.
--
-- tail of the last lines or bytes needs only the end of its input that has them (POSIX.1-2017 XCU
-- tail, OPTIONS -n and -c). Nothing else reads that input, so its front may be left out. head takes
-- the first lines of its input, and what follows them stays in the file for others (XCU 1.4, INPUT
-- FILES; XCU head, OPTIONS -n).
use Rattle.std.specs.Prelude.{◌≡◌, ℕ, ◌⊎◌, List, [], ◌∷◌, Option, Some, None}
use Rattle.std.specs.List.{slice_get}
use Rattle.commands.specs.declared.spec.FilterSpec.{FilterSpec}
use Rattle.commands.specs.declared.spec.FilterSpec.TheVariants as spec
use Rattle.commands.specs.declared.tail_words.Counted.{Counted}
use Rattle.commands.specs.declared.tail_words.Counted.TheVariants as counted
use Rattle.commands.specs.declared.tail_words.Origin.{Origin}
use Rattle.commands.specs.declared.tail_words.Origin.TheVariants.{Beginning, End}
use Rattle.collector.specs.InputEnds.{IsLeftOf}
use Rattle.machine.specs.FrontLines.{first_lines}
use Rattle.collector.specs.declared.needed.NeededEnd.{NeededEnd}
use Rattle.collector.specs.declared.needed.NeededEnd.TheVariants.{Lines, Bytes}
use Rattle.planner.specs.Planned.{Planned}
use Rattle.planner.specs.declared.plan.Node.{Node}
use Rattle.planner.specs.declared.plan.Node.TheVariants as node

-- the end that tail needs; none if it counts from the beginning
abbrev pub end_by : Origin → Counted → ℕ → Option NeededEnd
end_by Beginning counted n = None
end_by End counted.Lines n = Some (Lines n)
end_by End counted.Bytes n = Some (Bytes n)

-- the end of its only input that a filter needs; none if it needs the whole
abbrev pub end_for : FilterSpec → Option NeededEnd
end_for (spec.Tail s) = end_by s.origin s.counted s.count
end_for _ = None

-- this node is a stage that reads this pipe alone, and needs only this end
abbrev pub NeedsOnly : NeededEnd → ℕ → Node → Type 0
NeedsOnly needed p (node.Stage number filter inputs branches) =
    (inputs ≡ p ∷ []) × (end_for filter ≡ Some needed)
NeedsOnly needed p _ = ⊥

-- every node that reads a pipe of the node k needs only this end
abbrev pub IsNeededOnly : Planned → ℕ → NeededEnd → Type 0
IsNeededOnly plan k needed =
    (p reader : ℕ) → slice_get plan.pipes p ≡ Some (k, reader)
    → (n : Node) × (slice_get plan.nodes reader ≡ Some n) × NeedsOnly needed p n

-- the number of lines that head takes; none if a filter is no head
abbrev pub front_for : FilterSpec → Option ℕ
front_for (spec.Head s) = Some s.count
front_for _ = None

-- this node is a head of this many lines that reads this pipe alone
abbrev pub TakesFirst : ℕ → ℕ → Node → Type 0
TakesFirst n p (node.Stage number filter inputs branches) =
    (inputs ≡ p ∷ []) × (front_for filter ≡ Some n)
TakesFirst n p _ = ⊥

-- The node k writes a single pipe, and a head of this many lines reads that and nothing else.
pub record IsReadByHead (plan : Planned) (k n : ℕ) : Type 0 where
  pub pipe : ℕ
  pub reader : ℕ
  pub reads : slice_get plan.pipes pipe ≡ Some (k, reader)
  pub single : (p r : ℕ) → slice_get plan.pipes p ≡ Some (k, r) → p ≡ pipe
  pub head : Node
  pub head_at : slice_get plan.nodes reader ≡ Some head
  pub takes : TakesFirst n pipe head

-- no head is the only reader of the node k
abbrev pub HasNoHead : Planned → ℕ → Type 0
HasNoHead plan k = (n : ℕ) → IsReadByHead plan k n → ⊥

-- an end of an input is left that has what every reader needs
pub record IsEndLeft (plan : Planned) (k : ℕ) (whole left : List ℕ) : Type 0 where
  pub needed : NeededEnd
  pub only : IsNeededOnly plan k needed
  pub left_of : IsLeftOf needed whole left

-- the first lines of an input are left that head takes
pub record IsFrontLeft (plan : Planned) (k : ℕ) (whole left : List ℕ) : Type 0 where
  pub lines : ℕ
  pub read : IsReadByHead plan k lines
  pub first : left ≡ first_lines lines whole

-- What an input of this node has to give, of all that its file held: the first lines, if its only
-- reader is a head; otherwise all of it, or an end that has what every reader needs.
abbrev pub IsLeftFor : Planned → Option ℕ → List ℕ → List ℕ → Type 0
IsLeftFor plan None whole left = left ≡ whole
IsLeftFor plan (Some k) whole left = ((left ≡ whole) × HasNoHead plan k)
    ⊎ (IsEndLeft plan k whole left ⊎ IsFrontLeft plan k whole left)
