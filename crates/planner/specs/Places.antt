-- The stages of a script, and the places that the inputs and the outputs of each lead to
-- (POSIX.1-2017 XCU 2.9.2, pipelines; 2.7, redirection; 2.9.3, asynchronous lists; XCU mkfifo; and
-- the OPERANDS, STDIN and STDOUT of the utilities' pages).
use Rattle.std.specs.Prelude.{ℕ, suc, not, Bool, false, List, [], ◌∷◌, ◌++◌, map, Option, Some}
use Rattle.std.specs.Prelude.{None, if◌then◌else◌}
use Rattle.std.specs.List.{filter}
use Rattle.std.specs.Option.{option_to_list}
use Rattle.command_words.specs.Streams.{is_input_path, is_output_path, is_standard_input}
use Rattle.pipeline_text.specs.declared.script.Cmd.{Cmd}
use Rattle.pipeline_text.specs.declared.script.Target.{Target}
use Rattle.commands.specs.Operands.{input_names, output_operands, is_appending, writes_standard}
use Rattle.commands.specs.declared.spec.FilterSpec.{FilterSpec}
use Rattle.graphs.specs.NamesByPlace.{place_of}
use Rattle.planner.specs.declared.place.Channel.TheVariants.{Fifo, Bar}
use Rattle.planner.specs.declared.place.Place.{Place}
use Rattle.planner.specs.declared.place.Place.TheVariants as place

-- A command that means something: its index, from 0 over all pipelines; whether its pipeline is in
-- the background; whether it is the first and the last of its pipeline; and what its words mean.
pub record Stage : Type 0 where
  pub index : ℕ
  pub background : Bool
  pub is_first : Bool
  pub is_last : Bool
  pub command : Cmd
  pub filter : FilterSpec

-- A name: a FIFO, if it is among the names of these, otherwise a file, to which an output may be
-- appended. Names are compared byte for byte.
abbrev pub place_by : Option ℕ → List ℕ → Bool → Place
place_by (Some fifo) name append = place.Through (Fifo fifo)
place_by None name append = place.File name append

abbrev pub named_place : List (List ℕ) → List ℕ → Bool → Place
named_place fifos name append = place_by (place_of fifos name) name append

-- What follows `<`, and `>`, `>|` or `>>`, unless that is a path of the command's own stream. To
-- open such a path opens the stream that the command has without the redirection (Linux,
-- proc_pid_fd).
abbrev pub other_input : Option (List ℕ) → Option (List ℕ)
other_input None = None
other_input (Some name) = if is_input_path name then None else Some name

abbrev pub other_output : Option Target → Option Target
other_output None = None
other_output (Some target) = if is_output_path target.name then None else Some target

abbrev pub source_of : Stage → Option (List ℕ)
source_of s = other_input s.command.source

abbrev pub target_of : Stage → Option Target
target_of s = other_output s.command.target

-- Standard input: what follows `<`; otherwise what the command before it writes; otherwise that of
-- the run, or nothing in the background.
abbrev pub first_input : Bool → Place
first_input background = if background then place.Nothing else place.Standard

abbrev pub input_by : List (List ℕ) → Stage → Option (List ℕ) → Place
input_by fifos s (Some name) = named_place fifos name false
input_by fifos s None = if s.is_first then first_input s.background else place.Through (Bar s.index)

abbrev pub standard_input : List (List ℕ) → Stage → Place
standard_input fifos s = input_by fifos s (source_of s)

-- Standard output: what follows `>`, `>|` or `>>`; otherwise the standard input of the next
-- command; otherwise that of the run.
abbrev pub output_by : List (List ℕ) → Stage → Option Target → Place
output_by fifos s (Some target) = named_place fifos target.name target.append
output_by fifos s None = if s.is_last then place.Standard else place.Through (Bar (suc s.index))

abbrev pub standard_output : List (List ℕ) → Stage → Place
standard_output fifos s = output_by fifos s (target_of s)

-- What an input with this name reads. A command uses its standard input just if one of its inputs
-- names that.
abbrev pub input_place : List (List ℕ) → Stage → List ℕ → Place
input_place fifos s name =
    if is_standard_input name then standard_input fifos s else named_place fifos name false

-- what an output operand is
abbrev pub operand_place : List (List ℕ) → Stage → List ℕ → Place
operand_place fifos s name = named_place fifos name (is_appending s.filter)

-- what each input reads
abbrev pub in_places : List (List ℕ) → Stage → List Place
in_places fifos s = map (input_place fifos s) (input_names s.filter)

-- The branches: standard output, if it is written, and then the output operands. The main output is
-- the first of them.
abbrev pub written_standard : List (List ℕ) → Stage → List Place
written_standard fifos s = if writes_standard s.filter then standard_output fifos s ∷ [] else []

abbrev pub out_places : List (List ℕ) → Stage → List Place
out_places fifos s = written_standard fifos s
    ++ map (operand_place fifos s) (output_operands s.filter)

-- ---- the places of names in a script

-- The names at the reading places of a stage, which are a `<` and the input operands; and those at
-- its writing places, which are a `>`, `>|` or `>>` and the output operands. The names of its
-- standard streams are left out. A redirection is one whether the command uses it or not.
abbrev pub is_operand : List ℕ → Bool
is_operand name = not (is_standard_input name)

abbrev pub read_names : Stage → List (List ℕ)
read_names s = option_to_list (source_of s) ++ filter is_operand (input_names s.filter)

abbrev pub target_name : Option Target → List (List ℕ)
target_name None = []
target_name (Some target) = target.name ∷ []

abbrev pub written_names : Stage → List (List ℕ)
written_names s = target_name (target_of s) ++ output_operands s.filter
