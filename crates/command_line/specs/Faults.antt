-- The codes and the names of the faults.
--
-- Each fault has a code and a name, by which `--explain` finds it. X is for the text of a script, A
-- for the words of a command, P for the plan, D for its division into shards, O for the opening of
-- the files, F for the run, and S for a run that stalled.
use Rattle.std.specs.Prelude.{Bool, ◌||◌, List, [], ◌∷◌, ◌++◌, codes, bytes_eq, map}
use Rattle.std.specs.Char.{to_ascii_lowercase}
use Rattle.std.specs.List.{list_any}
use Rattle.clap.specs.Words.{Text}

-- the code and the name of each fault of a script, and of its shards
abbrev pub the_script_faults : List (Text × Text)
the_script_faults =
    (codes "X1", codes "UnclosedQuote") ∷
    (codes "X2", codes "Expansion") ∷
    (codes "X3", codes "UnsupportedOperator") ∷
    (codes "X4", codes "RedirectWithoutWord") ∷
    (codes "X5", codes "EmptyCommand") ∷
    (codes "X6", codes "Assignment") ∷
    (codes "X7", codes "NoForeground") ∷
    (codes "X8", codes "OneAfterAnother") ∷
    (codes "X9", codes "NulByte") ∷
    (codes "X10", codes "TooLong") ∷
    (codes "X11", codes "RedirectedTwice") ∷
    (codes "X12", codes "NoMemory") ∷
    (codes "A1", codes "UnknownUtility") ∷
    (codes "A2", codes "UnknownOption") ∷
    (codes "A3", codes "MissingArgument") ∷
    (codes "A4", codes "BadNumber") ∷
    (codes "A5", codes "BadList") ∷
    (codes "A6", codes "BadSet") ∷
    (codes "A7", codes "ExclusiveOptions") ∷
    (codes "A8", codes "BadOperands") ∷
    (codes "A9", codes "NoMemory") ∷
    (codes "P1", codes "FifoTwice") ∷
    (codes "P2", codes "ManyWriters") ∷
    (codes "P3", codes "ManyReaders") ∷
    (codes "P4", codes "NoReader") ∷
    (codes "P5", codes "NoWriter") ∷
    (codes "P6", codes "Cycle") ∷
    (codes "P7", codes "OutputTwice") ∷
    (codes "P8", codes "ReadAndWritten") ∷
    (codes "P9", codes "LastOutputIsFifo") ∷
    (codes "P10", codes "AsyncToStdout") ∷
    (codes "P11", codes "TooMany") ∷
    (codes "P12", codes "NoMemory") ∷
    (codes "D1", codes "NotOnePipeline") ∷
    (codes "D2", codes "NeedsWholeInput") ∷
    (codes "D3", codes "NotWritten") ∷
    (codes "D4", codes "NoMemory") ∷
    []

-- the code and the name of each fault of files and of a run, and of a stall
abbrev pub the_run_faults : List (Text × Text)
the_run_faults =
    (codes "O1", codes "InputNotOpened") ∷
    (codes "O2", codes "OutputNotOpened") ∷
    (codes "O3", codes "NoMemory") ∷
    (codes "F1", codes "ReadFault") ∷
    (codes "F2", codes "WriteFault") ∷
    (codes "F3", codes "CountTooLarge") ∷
    (codes "F4", codes "NoMemory") ∷
    (codes "S1", codes "Stalled") ∷
    []

-- the code and the name of each fault, in their order
abbrev pub the_faults : List (Text × Text)
the_faults = the_script_faults ++ the_run_faults

-- whether two texts are equal but for small letters and capitals
abbrev pub are_alike : Text → Text → Bool
are_alike text other = bytes_eq (map to_ascii_lowercase text) (map to_ascii_lowercase other)

-- whether a text is the code or the name of this fault
abbrev pub names_fault : Text → Text × Text → Bool
names_fault text fault = are_alike text fault.0 || are_alike text fault.1

-- whether a text is the word for all faults
abbrev pub names_all : Text → Bool
names_all text = are_alike text (codes "all")

-- whether a text is the code or the name of a fault
abbrev pub names_a_fault : Text → Bool
names_a_fault text = list_any (names_fault text) the_faults
