-- What is opened for a plan, in order: every input, and then every output.
--
-- A shell opens what a redirection names whether the command uses it or not (POSIX.1-2017 XCU 2.7);
-- a utility opens its operands (XCU, OPERANDS of each page). A FIFO and a `|` are pipes of the run:
-- nothing is opened for them.
use Rattle.std.specs.Prelude.{ℕ, suc, Bool, true, false, List, [], ◌∷◌, ◌++◌, map, Option, Some}
use Rattle.std.specs.Prelude.{None, if◌then◌else◌}
use Rattle.std.specs.List.{list_any, flat_map, enumerate_from, position_or_len}
use Rattle.command_words.specs.Streams.{is_standard_input}
use Rattle.commands.specs.Operands.{input_names, output_operands, writes_standard}
use Rattle.planner.specs.declared.openings.Opened.{Opened}
use Rattle.planner.specs.declared.plan.InOpening.{InOpening}
use Rattle.planner.specs.declared.plan.OutOpening.{OutOpening}
use Rattle.planner.specs.declared.plan.NodeName.{NodeName}
use Rattle.planner.specs.declared.plan.NodeName.TheVariants.{SourceOf, SinkOf}
use Rattle.planner.specs.declared.place.Place.{Place}
use Rattle.planner.specs.declared.place.Place.TheVariants as place
use Rattle.planner.specs.Places.{Stage, standard_input, standard_output, named_place, operand_place}
use Rattle.planner.specs.Tables.{in_name, out_name, number_of}

-- the number of a node, if it is there
abbrev pub number_if : Bool → List NodeName → NodeName → Option ℕ
number_if there nodes name = if there then Some (number_of nodes name) else None

-- A file is opened, whether it is used or not, and the standard input or output of the run if it is
-- used.
abbrev pub opens : Bool → Place → Bool
opens used place.Standard = used
opens used (place.File name append) = true
opens used _ = false

abbrev pub opened_as : Stage → Bool → Place → Option ℕ → Opened
opened_as s operand p node =
    record { stage = suc s.index; place = p; operand = operand; node = node }

-- what is opened for a place of a stage, for this node if it is used
abbrev pub opened_at : List NodeName → Stage → Bool → Bool → NodeName → Place → List Opened
opened_at nodes s operand used name p =
    if opens used p then opened_as s operand p (number_if used nodes name) ∷ [] else []

-- The inputs of stages, or their branches: the node of an end of a stage; the standard input or
-- output, whether it is used, and the number of its end; what the name of an operand is; and the
-- operands, by the numbers of their ends.
pub record Side : Type 0 where
  pub end : ℕ → ℕ → NodeName
  pub standard : Stage → Place
  pub used : Stage → Bool
  pub number : Stage → ℕ
  pub operand : Stage → List ℕ → Place
  pub operands : Stage → List (ℕ × List ℕ)

-- what is opened for an operand; and for all ends of a stage, first for the standard one
abbrev pub opened_operand : Side → List NodeName → Stage → ℕ × List ℕ → List Opened
opened_operand d nodes s q = opened_at nodes s true true (d.end s.index q.0) (d.operand s q.1)

abbrev pub opened_ends : Side → List NodeName → Stage → List Opened
opened_ends d nodes s =
    opened_at nodes s false (d.used s) (d.end s.index (d.number s)) (d.standard s)
    ++ flat_map (opened_operand d nodes s) (d.operands s)

-- whether a command uses its standard input, and by which input
abbrev pub uses_standard : Stage → Bool
uses_standard s = list_any is_standard_input (input_names s.filter)

abbrev pub standard_number : Stage → ℕ
standard_number s = position_or_len is_standard_input (input_names s.filter)

-- what an input operand is; nothing is opened for a name of the standard input
abbrev pub operand_input : List (List ℕ) → List ℕ → Place
operand_input fifos name = if is_standard_input name then place.Nothing else named_place fifos name false

-- the inputs of a command: all that it has, by number, of which the first name of the standard
-- input is that
abbrev pub numbered_names : Stage → List (ℕ × List ℕ)
numbered_names s = enumerate_from 0 (input_names s.filter)

abbrev pub in_side : List (List ℕ) → Side
in_side fifos =
    record {
      end = SourceOf;
      standard = standard_input fifos;
      used = uses_standard;
      number = standard_number;
      operand = λ s. operand_input fifos;
      operands = numbered_names;
    }

-- its outputs: standard output, which is the branch 0 if it is one, and then the output operands
abbrev pub first_operand : Stage → ℕ
first_operand s = if writes_standard s.filter then 1 else 0

abbrev pub numbered_operands : Stage → List (ℕ × List ℕ)
numbered_operands s = enumerate_from (first_operand s) (output_operands s.filter)

abbrev pub out_side : List (List ℕ) → Side
out_side fifos =
    record {
      end = SinkOf;
      standard = standard_output fifos;
      used = λ s. writes_standard s.filter;
      number = λ s. 0;
      operand = operand_place fifos;
      operands = numbered_operands;
    }

-- what is opened for all stages, as the openings of inputs and of outputs
abbrev pub in_opening : Opened → InOpening
in_opening o =
    record { stage = o.stage; name = in_name o.place; operand = o.operand; node = o.node }

abbrev pub out_opening : Opened → OutOpening
out_opening o = record { stage = o.stage; name = out_name o.place; node = o.node }

abbrev pub opened_inputs : List (List ℕ) → List NodeName → List Stage → List InOpening
opened_inputs fifos nodes ss = map in_opening (flat_map (opened_ends (in_side fifos) nodes) ss)

abbrev pub opened_outputs : List (List ℕ) → List NodeName → List Stage → List OutOpening
opened_outputs fifos nodes ss = map out_opening (flat_map (opened_ends (out_side fifos) nodes) ss)
