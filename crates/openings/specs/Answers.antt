-- The answers to the openings of a plan: by place in its lists, and by node.
use Rattle.std.specs.Prelude.{◌≡◌, ◌<◌, length, ℕ, ◌+◌, ◌==◌, Bool, false, if◌then◌else◌, List, []}
use Rattle.std.specs.Prelude.{◌∷◌, map, Option, Some, None, unwrap_or}
use Rattle.std.specs.List.{slice_get}
use Rattle.planner.specs.Planned.{Planned}
use Rattle.planner.specs.declared.plan.InOpening.{InOpening}
use Rattle.planner.specs.declared.plan.OutOpening.{OutOpening}

-- The open files of a plan: by place in its inputs the number of the open file, none if it was
-- refused; by place in its outputs the number of the open file; and by node the number of its own
-- open file.
pub record OpenedFiles : Type 0 where
  pub inputs : List (Option ℕ)
  pub outputs : List ℕ
  pub own : List (Option ℕ)

-- the answer at a place: none if the opening was refused, and none past the last place
abbrev pub answer_at : List (Option ℕ) → ℕ → Option ℕ
answer_at answers place = unwrap_or (slice_get answers place) None

-- the number of the node's own open file, if it has one
abbrev pub own_file : OpenedFiles → ℕ → Option ℕ
own_file o node = answer_at o.own node

-- the places of the openings that were refused, rising, if the first answer is that of this place
abbrev pub missing_from : ℕ → List (Option ℕ) → List ℕ
missing_from place [] = []
missing_from place (None ∷ answers) = place ∷ missing_from (place + 1) answers
missing_from place (Some file ∷ answers) = missing_from (place + 1) answers

-- the places of the openings that were refused, rising
abbrev pub missing_places : List (Option ℕ) → List ℕ
missing_places answers = missing_from 0 answers

-- this is the first of a list
abbrev pub HasFirst : ℕ → List ℕ → Type 0
HasFirst first list = (others : List ℕ) × (list ≡ first ∷ others)

-- whether an opening is that of this node
abbrev pub is_of : Option ℕ → ℕ → Bool
is_of None node = false
is_of (Some other) node = other == node

-- the first answer to an opening of this node, among openings of these nodes with these answers;
-- this other one if there is none
abbrev pub first_answer : List (Option ℕ) → List (Option ℕ) → ℕ → Option ℕ → Option ℕ
first_answer (own ∷ nodes) (answer ∷ answers) node other = if is_of own node then answer
    else first_answer nodes answers node other
first_answer nodes answers node other = other

-- the nodes of openings
abbrev pub input_nodes : List InOpening → List (Option ℕ)
input_nodes openings = map (λ o. o.node) openings

abbrev pub output_nodes : List OutOpening → List (Option ℕ)
output_nodes openings = map (λ o. o.node) openings

-- the same among the openings of the inputs, of the outputs, and of both, the inputs first
abbrev pub input_answer : List InOpening → List (Option ℕ) → ℕ → Option ℕ → Option ℕ
input_answer openings answers = first_answer (input_nodes openings) answers

abbrev pub output_answer : List OutOpening → List ℕ → ℕ → Option ℕ → Option ℕ
output_answer openings answers = first_answer (output_nodes openings) (map Some answers)

abbrev pub plan_answer : Planned → List (Option ℕ) → List ℕ → ℕ → Option ℕ → Option ℕ
plan_answer plan inputs outputs node other =
    input_answer plan.inputs inputs node (output_answer plan.outputs outputs node other)

-- the answer to the node's own opening: the first of the inputs with that node, otherwise the first
-- of the outputs
abbrev pub file_of : Planned → OpenedFiles → ℕ → Option ℕ
file_of plan o node = plan_answer plan o.inputs o.outputs node None

-- each node has what this makes of what it had, in a table by node
pub record Notes (answer : ℕ → Option ℕ → Option ℕ) (old new : List (Option ℕ)) : Type 0 where
  pub count : length new ≡ length old
  pub noted : (node : ℕ) → node < length old → answer_at new node ≡ answer node (answer_at old node)
