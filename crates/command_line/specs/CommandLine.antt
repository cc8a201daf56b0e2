-- The command line of the program: its options and operands, in the words of the library that reads
-- them.
--
-- Options come before the value that they take; `--` ends them (POSIX.1-2017 XBD 12.2, guidelines 7
-- and 10). Options of more than one letter begin with two hyphens.
use Rattle.std.specs.Prelude.{ℕ, List, [], ◌∷◌, Some, codes}
use Rattle.clap.specs.Words.{App, Kinds, Row, Rule, Text, fault_of, matches_of, new_app, new_rule}
use Rattle.clap.specs.Words.{with_rule}
use Rattle.clap.specs.declared.builder.action.ArgAction.TheVariants.{SetTrue}
use Rattle.clap.specs.declared.builder.value_parser.ValueParser.TheVariants.{Unsigned}

-- `-c TEXT`
abbrev pub text_rule : Rule
text_rule = record (new_rule (codes "TEXT")) { short = Some 99; value_names = 1 }

-- an option that takes a number from 1 to the greatest
abbrev pub number_rule : Text → Text → ℕ → Rule
number_rule name default most = record (new_rule name) {
  long = Some name;
  value_names = 1;
  parser = Some (Unsigned 1 most);
  defaults = default ∷ [];
}

abbrev pub workers_rule : Rule
workers_rule = number_rule (codes "workers") (codes "4") 16

abbrev pub capacity_rule : Rule
capacity_rule = number_rule (codes "capacity") (codes "16") 4096

abbrev pub max_capacity_rule : Rule
max_capacity_rule = number_rule (codes "max-capacity") (codes "4096") 4096

abbrev pub bytes_rule : Rule
bytes_rule = number_rule (codes "bytes") (codes "268435456") 268435456

abbrev pub block_rule : Rule
block_rule = number_rule (codes "block") (codes "4096") 65536

abbrev pub turns_rule : Rule
turns_rule = number_rule (codes "turns") (codes "1000000") 1000000

-- an option that takes no value
abbrev pub flag_rule : Text → Rule
flag_rule name = record (new_rule name) { long = Some name; action = Some SetTrue }

-- an option that takes a text
abbrev pub named_rule : Text → Rule
named_rule name = record (new_rule name) { long = Some name; value_names = 1 }

-- the form of the plan
abbrev pub plan_rule : Rule
plan_rule = named_rule (codes "plan")

abbrev pub dot_rule : Rule
dot_rule = flag_rule (codes "dot")

-- the form of the shards
abbrev pub shards_rule : Rule
shards_rule = named_rule (codes "shards")

abbrev pub check_rule : Rule
check_rule = flag_rule (codes "check")

-- when a run is strict
abbrev pub strict_rule : Rule
strict_rule = named_rule (codes "strict")

abbrev pub quiet_pipe_rule : Rule
quiet_pipe_rule = flag_rule (codes "quiet-pipe")

-- when outputs get their new content
abbrev pub atomic_rule : Rule
atomic_rule = named_rule (codes "atomic")

-- the place at which it is shown how far the run is
abbrev pub progress_rule : Rule
progress_rule = named_rule (codes "progress")

-- when hints are written
abbrev pub hints_rule : Rule
hints_rule = named_rule (codes "hints")

-- how it is shown what a run moved
abbrev pub stats_rule : Rule
stats_rule = named_rule (codes "stats")

-- the file that statistics are written to
abbrev pub stats_to_rule : Rule
stats_to_rule = named_rule (codes "stats-to")

-- the folder that all names are relative to
abbrev pub cd_rule : Rule
cd_rule = named_rule (codes "cd")

-- the code or the name of a fault that is asked about
abbrev pub explain_rule : Rule
explain_rule = named_rule (codes "explain")

-- `-V` and `--version`
abbrev pub version_rule : Rule
version_rule = record (flag_rule (codes "version")) { short = Some 86 }

-- the one operand
abbrev pub script_rule : Rule
script_rule = new_rule (codes "SCRIPT")

-- the options that say how many items and bytes a pipe holds, after those that a command line has
abbrev pub with_pipes : App → App
with_pipes app = with_rule (with_rule (with_rule app capacity_rule) max_capacity_rule) bytes_rule

-- the six options that take a number, after those that a command line has
abbrev pub with_numbers : App → App
with_numbers app =
    with_rule (with_rule (with_pipes (with_rule app workers_rule)) block_rule) turns_rule

-- the options by which a script is not run, after those that a command line has
abbrev pub with_plans : App → App
with_plans app =
    with_rule (with_rule (with_rule (with_rule app plan_rule) dot_rule) shards_rule) check_rule

-- the options that say how a run goes, after those that a command line has
abbrev pub with_runs : App → App
with_runs app = with_rule (with_rule (with_rule app strict_rule) quiet_pipe_rule) atomic_rule

-- the options that say what is shown of a run, after those that a command line has
abbrev pub with_shown : App → App
with_shown app =
    with_rule (with_rule (with_rule (with_rule app progress_rule) stats_rule) stats_to_rule)
    hints_rule

-- the options by which a script is not run, those that say how a run goes and what is shown of it,
-- the one that names a folder, and the operand, after those that a command line has
abbrev pub with_others : App → App
with_others app =
    with_rule (with_rule (with_shown (with_runs (with_plans app))) cd_rule) script_rule

-- the options that ask about the program itself, after those that a command line has
abbrev pub with_questions : App → App
with_questions app = with_rule (with_rule app explain_rule) version_rule

-- the whole command line; the library adds `-h` and `--help`
abbrev pub plrun : App
plrun = with_questions (with_others (with_numbers (with_rule (new_app (codes "plrun")) text_rule)))

-- what these words give for each option and operand, the program's name first
abbrev pub rows_in : List Text → List Row
rows_in words = matches_of plrun words

-- what is wrong with these words, or that they ask for the help: nothing, if they are a command
-- line
abbrev pub faults_in : List Text → Kinds
faults_in words = fault_of plrun words
