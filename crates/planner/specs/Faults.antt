-- Why a script is refused, and what a legal one is.
--
-- A FIFO has one writer and one reader; the stages can be ordered so that each reads only from
-- earlier ones; no file is written in two places, or both read and written; and the last outputs of
-- a script do not depend on the order in which its stages run. The places of names are those of the
-- whole script, so that two in one command count as two.
use Rattle.std.specs.Prelude.{◌≡◌, ℕ, ◌+◌, ◌<◌, ◌⊎◌, true, false, List, [], ◌∷◌, ◌++◌, length}
use Rattle.std.specs.Prelude.{Result, Ok, Err, slice_index_or}
use Rattle.std.specs.List.{flat_map, Contains}
use Rattle.commands.specs.Operands.{operand_count}
use Rattle.graphs.specs.Orders.{HasNoOrder}
use Rattle.graphs.specs.Uses.{times}
use Rattle.planner.specs.declared.fault.PlanFault.{PlanFault}
use Rattle.planner.specs.declared.fault.PlanFault.TheVariants as fault
use Rattle.planner.specs.declared.place.Channel.TheVariants.{Fifo}
use Rattle.planner.specs.declared.place.Place.{Place}
use Rattle.planner.specs.declared.place.Place.TheVariants as place
use Rattle.planner.specs.Places.{Stage, read_names, written_names, out_places}
use Rattle.planner.specs.Ends.{in_ends, out_ends, leaving, stage_pipes}

-- the names at the reading places of a script, and at its writing places
abbrev pub all_read : List Stage → List (List ℕ)
all_read stages = flat_map read_names stages

abbrev pub all_written : List Stage → List (List ℕ)
all_written stages = flat_map written_names stages

-- the name of a FIFO, and of a file
abbrev pub IsFifo : List (List ℕ) → List ℕ → Type 0
IsFifo fifos name = 0 < times name fifos

abbrev pub IsFile : List (List ℕ) → List ℕ → Type 0
IsFile fifos name = times name fifos ≡ 0

-- one FIFO is made twice
abbrev pub IsMadeTwice : List (List ℕ) → Type 0
IsMadeTwice fifos = (name : List ℕ) × (1 < times name fifos)

-- a FIFO is named by several writing places; by several reading places; by no reading place; by no
-- writing place
abbrev pub HasManyWriters : List (List ℕ) → List Stage → Type 0
HasManyWriters fifos stages = (name : List ℕ) × IsFifo fifos name
    × (1 < times name (all_written stages))

abbrev pub HasManyReaders : List (List ℕ) → List Stage → Type 0
HasManyReaders fifos stages = (name : List ℕ) × IsFifo fifos name
    × (1 < times name (all_read stages))

abbrev pub HasNoReader : List (List ℕ) → List Stage → Type 0
HasNoReader fifos stages = (name : List ℕ) × IsFifo fifos name × (times name (all_read stages) ≡ 0)

abbrev pub HasNoWriter : List (List ℕ) → List Stage → Type 0
HasNoWriter fifos stages = (name : List ℕ) × IsFifo fifos name
    × (times name (all_written stages) ≡ 0)

-- no order of the stages puts the writer of each pipe before its reader, whatever way one is looked
-- for
abbrev pub HasCycle : List (List ℕ) → List Stage → Type 0
HasCycle fifos stages = HasNoOrder (stage_pipes (in_ends fifos stages) (out_ends fifos stages))

-- a file is named by several writing places; by a writing place and a reading place
abbrev pub IsWrittenTwice : List (List ℕ) → List Stage → Type 0
IsWrittenTwice fifos stages = (name : List ℕ) × IsFile fifos name
    × (1 < times name (all_written stages))

abbrev pub IsReadAndWritten : List (List ℕ) → List Stage → Type 0
IsReadAndWritten fifos stages = (name : List ℕ) × IsFile fifos name
    × (0 < times name (all_read stages)) × (0 < times name (all_written stages))

-- the main output of a stage
abbrev pub main_place : List (List ℕ) → Stage → Place
main_place fifos s = slice_index_or (out_places fifos s) 0 place.Standard

abbrev pub IsFifoPlace : Place → Type 0
IsFifoPlace (place.Through (Fifo k)) = Unit {0}
IsFifoPlace _ = ⊥

-- a stage is the last of its pipeline, in the foreground, and its main output is a FIFO
pub record PutsIntoFifo (fifos : List (List ℕ)) (s : Stage) : Type 0 where
  pub last : s.is_last ≡ true
  pub foreground : s.background ≡ false
  pub main : IsFifoPlace (main_place fifos s)

-- it is the last of its pipeline, in the background, and its main output is the standard output of
-- the run
pub record PutsOutside (fifos : List (List ℕ)) (s : Stage) : Type 0 where
  pub last : s.is_last ≡ true
  pub background : s.background ≡ true
  pub main : main_place fifos s ≡ place.Standard

abbrev pub EndsInFifo : List (List ℕ) → List Stage → Type 0
EndsInFifo fifos stages = (s : Stage) × Contains stages s × PutsIntoFifo fifos s

abbrev pub EndsOutside : List (List ℕ) → List Stage → Type 0
EndsOutside fifos stages = (s : Stage) × Contains stages s × PutsOutside fifos s

-- the greatest numbers of stages, of pipes, and of the operands of a command
abbrev pub stages_max : ℕ
stages_max = 256

abbrev pub pipes_max : ℕ
pipes_max = 1024

abbrev pub operands_max : ℕ
operands_max = 32

-- how many pipes a plan has: one for each input, and one for each branch that goes to a sink
abbrev pub pipe_count : List (List ℕ) → List Stage → ℕ
pipe_count fifos stages = length (in_ends fifos stages) + length (leaving (out_ends fifos stages))

abbrev pub HasManyOperands : List Stage → Type 0
HasManyOperands stages = (s : Stage) × Contains stages s × (operands_max < operand_count s.filter)

abbrev pub AreTooMany : List (List ℕ) → List Stage → Type 0
AreTooMany fifos stages = (stages_max < length stages)
    ⊎ ((pipes_max < pipe_count fifos stages) ⊎ HasManyOperands stages)

-- this fault is there
abbrev pub Holds : List (List ℕ) → List Stage → PlanFault → Type 0
Holds fifos stages fault.FifoTwice = IsMadeTwice fifos
Holds fifos stages fault.ManyWriters = HasManyWriters fifos stages
Holds fifos stages fault.ManyReaders = HasManyReaders fifos stages
Holds fifos stages fault.NoReader = HasNoReader fifos stages
Holds fifos stages fault.NoWriter = HasNoWriter fifos stages
Holds fifos stages fault.Cycle = HasCycle fifos stages
Holds fifos stages fault.OutputTwice = IsWrittenTwice fifos stages
Holds fifos stages fault.ReadAndWritten = IsReadAndWritten fifos stages
Holds fifos stages fault.LastOutputIsFifo = EndsInFifo fifos stages
Holds fifos stages fault.AsyncToStdout = EndsOutside fifos stages
Holds fifos stages fault.TooMany = AreTooMany fifos stages
Holds fifos stages _ = ⊥

-- the faults of the names of FIFOs, of the names of files, and of the last outputs
abbrev pub fifo_faults : List PlanFault
fifo_faults = fault.FifoTwice ∷ fault.ManyWriters ∷ fault.ManyReaders ∷ fault.NoReader
    ∷ fault.NoWriter ∷ []

abbrev pub file_faults : List PlanFault
file_faults = fault.OutputTwice ∷ fault.ReadAndWritten ∷ []

abbrev pub end_faults : List PlanFault
end_faults = fault.LastOutputIsFifo ∷ fault.AsyncToStdout ∷ []

-- those after the cycle
abbrev pub later_faults : List PlanFault
later_faults = file_faults ++ end_faults ++ fault.TooMany ∷ []

-- all of them, in the order in which they are looked at
abbrev pub the_faults : List PlanFault
the_faults = fifo_faults ++ fault.Cycle ∷ later_faults

-- none of these faults is there
abbrev pub AreAbsent : List (List ℕ) → List Stage → List PlanFault → Type 0
AreAbsent fifos stages [] = Unit {0}
AreAbsent fifos stages (f ∷ fs) = (Holds fifos stages f → ⊥) × AreAbsent fifos stages fs

-- of these faults, in the order in which they are looked at, this one is the first that is there
abbrev pub IsFirst : List (List ℕ) → List Stage → List PlanFault → PlanFault → Type 0
IsFirst fifos stages [] f = ⊥
IsFirst fifos stages (g ∷ gs) f = ((f ≡ g) × Holds fifos stages g)
    ⊎ ((Holds fifos stages g → ⊥) × IsFirst fifos stages gs f)

-- the result of looking for these faults, if memory is not refused
abbrev pub MeetsFaults : {A : Type 0} → List (List ℕ) → List Stage → List PlanFault
    → Result A PlanFault → Type 0
MeetsFaults fifos stages fs (Ok _) = AreAbsent fifos stages fs
MeetsFaults fifos stages fs (Err fault.NoMemory) = Unit {0}
MeetsFaults fifos stages fs (Err f) = IsFirst fifos stages fs f
