-- Worked scripts: the tables and openings of their plans, computed by the definitions from the
-- text.
use Rattle.std.specs.Prelude.{◌≡◌, ℕ, Bool, true, false, List, [], ◌∷◌, map, Option, Some, None}
use Rattle.std.specs.Prelude.{codes}
use Rattle.command_words.specs.Texts.{◌>>=◌}
use Rattle.pipeline_text.specs.Grammar.{script_of}
use Rattle.pipeline_text.specs.declared.script.Script.{Script}
use Rattle.run_types.specs.declared.names.InName.{InName}
use Rattle.run_types.specs.declared.names.InName.TheVariants as in_name
use Rattle.run_types.specs.declared.names.OutName.{OutName}
use Rattle.run_types.specs.declared.names.OutName.TheVariants as out_name
use Rattle.planner.specs.declared.plan.InOpening.{InOpening}
use Rattle.planner.specs.declared.plan.OutOpening.{OutOpening}
use Rattle.planner.specs.declared.plan.Node.{Node}
use Rattle.planner.specs.declared.plan.Node.TheVariants as node
use Rattle.planner.specs.Places.{Stage}
use Rattle.planner.specs.Stages.{stages}
use Rattle.planner.specs.Planned.{plan_of}

-- a node's kind and pipes, without its filter
abbrev pub kind : Node → ℕ × List ℕ × List (Option ℕ)
kind (node.Source name) = (0, [], [])
kind (node.Stage number spec inputs branches) = (number, inputs, branches)
kind (node.Sink name) = (100, [], [])

-- the pipes and the kinds of the nodes of a text's plan, in this order of its stages
abbrev pub tables_of_stages : List (List ℕ) → List ℕ → List Stage
    → List (ℕ × ℕ) × List (ℕ × List ℕ × List (Option ℕ))
tables_of_stages fifos order ss =
    let p = plan_of fifos ss false order in (p.pipes, map kind p.nodes)

abbrev pub tables : List ℕ → List ℕ → Option (List (ℕ × ℕ) × List (ℕ × List ℕ × List (Option ℕ)))
tables text order = script_of text >>= λ (s : Script). stages s
    >>= λ (ss : List Stage). Some (tables_of_stages s.fifos order ss)

-- `mkfifo f; tee f < in | tail -n 1 | paste - f > out`
abbrev pub StalledTables : Type 0
StalledTables =
    tables (codes "mkfifo f; tee f < in | tail -n 1 | paste - f > out") (0 ∷ 1 ∷ 2 ∷ []) ≡ Some (
      (0, 1) ∷ (1, 2) ∷ (1, 3) ∷ (2, 3) ∷ (3, 4) ∷ [],
      (0, [], []) ∷ (1, 0 ∷ [], Some 1 ∷ Some 2 ∷ []) ∷ (2, 1 ∷ [], Some 3 ∷ [])
          ∷ (3, 3 ∷ 2 ∷ [], Some 4 ∷ []) ∷ (100, [], []) ∷ [],
    )

-- a source of nothing: `cat a > f | cat`, where f is a file
abbrev pub EmptySourceTables : Type 0
EmptySourceTables = tables (codes "cat a > f | cat") (0 ∷ 1 ∷ []) ≡ Some (
  (0, 2) ∷ (1, 3) ∷ (2, 4) ∷ (3, 5) ∷ [],
  (0, [], []) ∷ (0, [], []) ∷ (1, 0 ∷ [], Some 2 ∷ []) ∷ (2, 1 ∷ [], Some 3 ∷ []) ∷ (100, [], [])
      ∷ (100, [], []) ∷ [],
)

-- a branch that nobody reads: `cat a | cat b < g`
abbrev pub AbsentBranchTables : Type 0
AbsentBranchTables = tables (codes "cat a | cat b < g") (0 ∷ 1 ∷ []) ≡ Some (
  (0, 2) ∷ (1, 3) ∷ (3, 4) ∷ [],
  (0, [], []) ∷ (0, [], []) ∷ (1, 0 ∷ [], None ∷ []) ∷ (2, 1 ∷ [], Some 2 ∷ []) ∷ (100, [], [])
      ∷ [],
)

-- a FIFO that is only the standard output of a uniq that writes its operand: its reader has a
-- source of nothing
abbrev pub UnwrittenFifoTables : Type 0
UnwrittenFifoTables = tables (codes "mkfifo f; uniq a b > f & cat f") (0 ∷ 1 ∷ []) ≡ Some (
  (0, 2) ∷ (1, 3) ∷ (2, 4) ∷ (3, 5) ∷ [],
  (0, [], []) ∷ (0, [], []) ∷ (1, 0 ∷ [], Some 2 ∷ []) ∷ (2, 1 ∷ [], Some 3 ∷ []) ∷ (100, [], [])
      ∷ (100, [], []) ∷ [],
)

-- the main output of uniq is its operand, a FIFO that the next command reads
abbrev pub UniqFifoTables : Type 0
UniqFifoTables = tables (codes "mkfifo f; uniq - f < in | cat f > o") (0 ∷ 1 ∷ []) ≡ Some (
  (0, 1) ∷ (1, 2) ∷ (2, 3) ∷ [],
  (0, [], []) ∷ (1, 0 ∷ [], Some 1 ∷ []) ∷ (2, 1 ∷ [], Some 2 ∷ []) ∷ (100, [], []) ∷ [],
)

-- a stage whose writer comes after it in the script is later in the order
abbrev pub BackwardTables : Type 0
BackwardTables = tables (codes "mkfifo f; cat f > o & cat a > f & cat b") (1 ∷ 0 ∷ 2 ∷ []) ≡ Some (
  (0, 2) ∷ (1, 4) ∷ (2, 3) ∷ (3, 5) ∷ (4, 6) ∷ [],
  (0, [], []) ∷ (0, [], []) ∷ (2, 0 ∷ [], Some 2 ∷ []) ∷ (1, 2 ∷ [], Some 3 ∷ [])
      ∷ (3, 1 ∷ [], Some 4 ∷ []) ∷ (100, [], []) ∷ (100, [], []) ∷ [],
)

-- ---- openings

abbrev pub in_text : InName → List ℕ
in_text in_name.Standard = codes "standard input"
in_text (in_name.File name) = name

abbrev pub out_text : OutName → List ℕ × Bool
out_text out_name.Standard = (codes "standard output", false)
out_text (out_name.File name append) = (name, append)

abbrev pub in_shown : InOpening → ℕ × List ℕ × Bool × Option ℕ
in_shown o = (o.stage, in_text o.name, o.operand, o.node)

abbrev pub out_shown : OutOpening → ℕ × List ℕ × Bool × Option ℕ
out_shown o = (o.stage, (out_text o.name).0, (out_text o.name).1, o.node)

abbrev pub openings_of_stages : List (List ℕ) → List ℕ → List Stage
    → List (ℕ × List ℕ × Bool × Option ℕ) × List (ℕ × List ℕ × Bool × Option ℕ)
openings_of_stages fifos order ss =
    let p = plan_of fifos ss false order in (map in_shown p.inputs, map out_shown p.outputs)

abbrev pub openings : List ℕ → List ℕ
    → Option (List (ℕ × List ℕ × Bool × Option ℕ) × List (ℕ × List ℕ × Bool × Option ℕ))
openings text order = script_of text >>= λ (s : Script). stages s
    >>= λ (ss : List Stage). Some (openings_of_stages s.fifos order ss)

-- what is opened and not read, and opened and not written: `cat a b < g > o`, and `uniq a b >> o`
abbrev pub UnusedOpenings : Type 0
UnusedOpenings =
    (openings (codes "cat a b < g > o") (0 ∷ []) ≡ Some (
      (1, codes "g", false, None) ∷ (1, codes "a", true, Some 0) ∷ (1, codes "b", true, Some 1)
          ∷ [],
      (1, codes "o", false, Some 3) ∷ [],
    ))
    × (openings (codes "uniq a b >> o") (0 ∷ []) ≡ Some (
      (1, codes "a", true, Some 0) ∷ [],
      (1, codes "o", true, None) ∷ (1, codes "b", false, Some 2) ∷ [],
    ))

-- standard input between operands, tee's operands after its standard output, and `-a`
abbrev pub TeeOpenings : Type 0
TeeOpenings = openings (codes "cat x - | tee -a y z") (0 ∷ 1 ∷ []) ≡ Some (
  (1, codes "standard input", false, Some 1) ∷ (1, codes "x", true, Some 0) ∷ [],
  (2, codes "standard output", false, Some 4) ∷ (2, codes "y", true, Some 5)
      ∷ (2, codes "z", true, Some 6) ∷ [],
)

-- a path of a standard stream is the command's own stream: the plan is that of the script without it
abbrev pub StreamTables : Type 0
StreamTables =
    (tables (codes "cat a | cat /dev/stdin > /dev/fd/1") (0 ∷ 1 ∷ [])
    ≡ tables (codes "cat a | cat") (0 ∷ 1 ∷ []))
    × (openings (codes "cat a | cat /dev/stdin > /dev/fd/1") (0 ∷ 1 ∷ [])
    ≡ openings (codes "cat a | cat") (0 ∷ 1 ∷ []))
    × (tables (codes "cat a > /dev/stdout | tr x y < /proc/self/fd/0") (0 ∷ 1 ∷ [])
    ≡ tables (codes "cat a | tr x y") (0 ∷ 1 ∷ []))

-- all of these
abbrev pub WorkedPlans : Type 0
WorkedPlans = StalledTables × EmptySourceTables × AbsentBranchTables × UnwrittenFifoTables
    × UniqFifoTables × BackwardTables × UnusedOpenings × TeeOpenings × StreamTables
