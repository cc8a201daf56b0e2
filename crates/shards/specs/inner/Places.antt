-- Where a pipeline is divided, by the places of its filters.
use Rattle.std.specs.Prelude.{ℕ, suc, ◌<◌, ◌≤◌, Bool, false, ◌&&◌, List, [], ◌∷◌, ◌++◌}
use Rattle.std.specs.Prelude.{Option, Some, None, IfSome, take, drop, if◌then◌else◌}
use Rattle.commands.specs.declared.spec.FilterSpec.{FilterSpec}
use Rattle.part_laws.specs.Additions.{addition}
use Rattle.part_laws.specs.Utilities.{gather_together, keeps_newlines, makes_line_of_line, manner_of}
use Rattle.part_laws.specs.declared.manner.Addition.{Addition}
use Rattle.part_laws.specs.declared.manner.Addition.TheVariants.{Squeeze}
use Rattle.part_laws.specs.declared.manner.Manner.{Manner}
use Rattle.part_laws.specs.declared.manner.Manner.TheVariants.{ByBytes, ByLines, Counts, Gathers}
use Rattle.part_laws.specs.declared.manner.Manner.TheVariants.{Skips, Squeezes}
use Rattle.planner.specs.declared.plan.Node.{Node}
use Rattle.shards.specs.Chains.{filters_of}
use Rattle.shards.specs.declared.division.Division.{Division}

-- ---- the halves that a division means

-- members before the one at this place, those after it, and that one
abbrev pub before : {A : Type 0} → Option ℕ → List A → List A
before None xs = xs
before (Some place) xs = take place xs

abbrev pub after : {A : Type 0} → Option ℕ → List A → List A
after None xs = []
after (Some place) xs = drop (suc place) xs

abbrev pub at : {A : Type 0} → Option ℕ → List A → List A
at None xs = []
at (Some place) xs = take 1 (drop place xs)

-- the filter of an addition, if there is one
abbrev pub added : Option Addition → List FilterSpec
added None = []
added (Some a) = addition a ∷ []

-- the filters that run on each part, and those that run on the joined outputs
abbrev pub each_of : Division → List FilterSpec → List FilterSpec
each_of d fs = before d.late (take d.front fs) ++ (after d.late (take d.front fs) ++ added d.last)

abbrev pub joined_of : Division → List FilterSpec → List FilterSpec
joined_of d fs = at d.late fs ++ (added d.first ++ drop d.before fs)

-- the same of stages
abbrev pub each_in : Division → List Node → List FilterSpec
each_in d nodes = filters_of (before d.late (take d.front nodes))
    ++ (filters_of (after d.late (take d.front nodes)) ++ added d.last)

abbrev pub joined_in : Division → List Node → List FilterSpec
joined_in d nodes = filters_of (at d.late nodes)
    ++ (added d.first ++ filters_of (drop d.before nodes))

-- its places are among this many
pub record IsWithin (d : Division) (n : ℕ) : Type 0 where
  pub front : d.front ≤ n
  pub before : d.before ≤ n
  pub late : IfSome d.late (λ place. place < n)

-- ---- divisions

abbrev pub undivided : Division
undivided = record { front = 0; before = 0; late = None; last = None; first = None }

abbrev pub next_place : Option ℕ → Option ℕ
next_place None = None
next_place (Some place) = Some (suc place)

abbrev pub after_one : Division → Division
after_one d = record d {
  front = suc d.front;
  before = suc d.before;
  late = next_place d.late;
}

abbrev pub gathered : Bool → Division
gathered with_next = record undivided { front = if with_next then 2 else 1 }

abbrev pub counted : Addition → Division
counted a = record undivided { last = Some a }

abbrev pub squeezed : ℕ → Division
squeezed byte = record undivided { front = 1; before = 1; first = Some (Squeeze byte) }

abbrev pub skipped : Division → Division
skipped d = record {
  front = suc d.front;
  before = suc d.before;
  late = Some 0;
  last = d.last;
  first = None;
}

abbrev pub gathers_next : FilterSpec → List FilterSpec → Bool
gathers_next f [] = false
gathers_next f (g ∷ gs) = gather_together f g

abbrev pub counted_from : Manner → Division
counted_from (Counts a) = counted a
counted_from _ = undivided

abbrev pub divide_by_lines : List FilterSpec → Division
divide_by_lines [] = undivided
divide_by_lines (f ∷ fs) = if makes_line_of_line f then after_one (divide_by_lines fs)
    else counted_from (manner_of f)

abbrev pub divide_at_lines : Manner → FilterSpec → List FilterSpec → (rest : Division) → Division
divide_at_lines ByLines f fs rest = after_one rest
divide_at_lines Gathers f fs rest = gathered (gathers_next f fs)
divide_at_lines (Counts a) f fs rest = counted a
divide_at_lines (Squeezes byte) f fs rest = squeezed byte
divide_at_lines Skips f fs rest = skipped (divide_by_lines fs)
divide_at_lines _ f fs rest = undivided

abbrev pub divide_from : Manner → Bool → FilterSpec → List FilterSpec → (rest : Division)
    → Division
divide_from ByBytes at_lines f fs rest = after_one rest
divide_from m at_lines f fs rest = if at_lines then divide_at_lines m f fs rest else undivided

abbrev pub divide : (at_lines : Bool) → List FilterSpec → Division
divide at_lines [] = undivided
divide at_lines (f ∷ fs) =
    divide_from (manner_of f) at_lines f fs (divide (at_lines && keeps_newlines f) fs)
