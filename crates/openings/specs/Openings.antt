-- Opening the files of a plan.
--
-- Redirections are opened before the command runs (POSIX.1-2017 XCU 2.7, 2.9.1; XSH open). Here
-- every input is opened before any output, so that an input that is not there leaves the outputs as
-- they were. An operand that cannot be opened is missing, and the rest goes on (XCU 1.4,
-- CONSEQUENCES OF ERRORS).
use Rattle.std.specs.Prelude.{◌≡◌, ◌≢◌, ℕ, ◌<◌, ◌≤◌, ◌⊎◌, Bool, IsTrue, true, false, List, [], ◌∷◌}
use Rattle.std.specs.Prelude.{◌++◌, length, map, Option, Some, None, IfSome, Result, Ok, Err}
use Rattle.std.specs.List.{slice_get}
use Rattle.std.specs.Option.{option_to_list}
use Rattle.collector.specs.Files.{FilesShown, ReadLog, WriteLog, nothing_read, nothing_written}
use Rattle.collector.specs.Files.{SameLogs, SameContents, SamePlaces}
use Rattle.collector.specs.Files.{OpensInput, OpensOutput, OpensNothing, Refuses}
use Rattle.collector.specs.declared.names.Opening.{Opening}
use Rattle.collector.specs.declared.names.Opening.TheVariants.{Input, Output}
use Rattle.planner.specs.Planned.{Planned}
use Rattle.planner.specs.declared.plan.InOpening.{InOpening}
use Rattle.planner.specs.declared.plan.OutOpening.{OutOpening}
use Rattle.run_types.specs.declared.names.InName.{InName}
use Rattle.run_types.specs.declared.names.OutName.{OutName}
use Rattle.openings.specs.Answers.{OpenedFiles, HasFirst, answer_at, own_file, file_of}
use Rattle.openings.specs.Answers.{missing_places}
use Rattle.openings.specs.declared.fault.OpenFault.{OpenFault}
use Rattle.openings.specs.declared.fault.OpenFault.TheVariants as fault

-- the entries that the first inputs leave, as many as there are answers
abbrev pub input_entries : List InOpening → List (Option ℕ) → List Opening
input_entries (o ∷ openings) (answer ∷ answers) = Input o.name answer
    ∷ input_entries openings answers
input_entries openings answers = []

-- the entries that the first outputs leave, as many as there are answers
abbrev pub output_entries : List OutOpening → List ℕ → List Opening
output_entries (o ∷ openings) (file ∷ files) = Output o.name (Some file)
    ∷ output_entries openings files
output_entries openings files = []

-- every file has what it had, but for those with these numbers by place
abbrev pub OthersKeep : {L : Type 0} → (ℕ → Option ℕ) → (ℕ → Option L) → (ℕ → Option L) → Type 0
OthersKeep number old new =
    (file : ℕ) → (new file ≡ old file) ⊎ ((place : ℕ) × (number place ≡ Some file))

-- Files were opened, with these numbers by place: no such file was open before, each has this empty
-- log now, and no two places have one number. Every other file has the log that it had.
pub record AreOpened {L : Type 0} (empty : L) (number : ℕ → Option ℕ) (old new : ℕ
    → Option L) : Type 0 where
  pub unopened : (place file : ℕ) → number place ≡ Some file → old file ≡ None
  pub log : (place file : ℕ) → number place ≡ Some file → new file ≡ Some empty
  pub apart : (one other file : ℕ) → number one ≡ Some file → number other ≡ Some file → one ≡ other
  pub others : OthersKeep number old new

-- the opening at this place is that of an operand
abbrev pub IsOperandAt : List InOpening → ℕ → Type 0
IsOperandAt openings place = (o : InOpening) × (slice_get openings place ≡ Some o)
    × (o.operand ≡ true)

-- The opening that was refused, and ends the openings: that of the input after the answered ones,
-- which is no operand; or, if every input was answered, that of the output after the answered ones.
abbrev pub IsRefused : Planned → List (Option ℕ) → List ℕ → Opening → Type 0
IsRefused plan inputs outputs (Input name answer) =
    (answer ≡ None) × (outputs ≡ [])
    × ((o : InOpening) × (slice_get plan.inputs (length inputs) ≡ Some o) × (o.operand ≡ false)
    × (o.name ≡ name))
IsRefused plan inputs outputs (Output name answer) =
    (answer ≡ None) × (length inputs ≡ length plan.inputs)
    × ((o : OutOpening) × (slice_get plan.outputs (length outputs) ≡ Some o) × (o.name ≡ name))

-- The first openings of a plan were answered, first of inputs and then of outputs, as many as there
-- are answers, and perhaps the next one was refused: operands alone are missing, and nothing has
-- been read or written. What the standard input has to give is as it was, and so is what every
-- other input held.
pub record OpensFirst (plan : Planned) (inputs : List (Option ℕ)) (outputs : List ℕ)
    (last : Option Opening) (old new : FilesShown) : Type 0 where
  pub openings : new.openings
      ≡ old.openings
      ++ (input_entries plan.inputs inputs
      ++ (output_entries plan.outputs outputs ++ option_to_list last))
  pub within_inputs : length inputs ≤ length plan.inputs
  pub within_outputs : length outputs ≤ length plan.outputs
  pub in_order : 0 < length outputs → length inputs ≡ length plan.inputs
  pub operands : (place : ℕ) → slice_get inputs place ≡ Some None → IsOperandAt plan.inputs place
  pub refused : IfSome last (IsRefused plan inputs outputs)
  pub input_logs : AreOpened nothing_read (answer_at inputs) old.inputs new.inputs
  pub output_logs : AreOpened nothing_written (slice_get outputs) old.outputs new.outputs
  pub standard_input : new.standard_input ≡ old.standard_input
  pub held : OthersKeep (answer_at inputs) old.held new.held
  pub failures : new.failures ≡ old.failures
  pub places : SamePlaces old new

-- What was open before has the log that it had, and what such an input held is as it was.
pub record KeepsLogs (old new : FilesShown) : Type 0 where
  pub inputs : (file : ℕ) (log : ReadLog) → old.inputs file ≡ Some log → new.inputs file ≡ Some log
  pub outputs : (file : ℕ) (log : WriteLog) → old.outputs file ≡ Some log
      → new.outputs file ≡ Some log
  pub held : (file : ℕ) (log : ReadLog) → old.inputs file ≡ Some log
      → new.held file ≡ old.held file

-- the openings of a plan keep the logs, however far they went
abbrev pub OpeningsKeepLogs : Type 0
OpeningsKeepLogs =
    (plan : Planned) (inputs : List (Option ℕ)) (outputs : List ℕ) (last : Option Opening)
    (old new : FilesShown)
    → OpensFirst plan inputs outputs last old new → KeepsLogs old new

-- every opening of a plan was answered, and each node has the answer to its own
pub record OpensAll (plan : Planned) (o : OpenedFiles) (old new : FilesShown) : Type 0 where
  pub inputs : length o.inputs ≡ length plan.inputs
  pub outputs : length o.outputs ≡ length plan.outputs
  pub opens : OpensFirst plan o.inputs o.outputs None old new
  pub own : (node : ℕ) → node < length plan.nodes → own_file o node ≡ file_of plan o node

-- this opening is that of an input
abbrev pub IsInput : Opening → Type 0
IsInput (Input name answer) = Unit {0}
IsInput (Output name answer) = ⊥

-- No output was opened or tried: the opening that was refused, if one was, is that of an input.
-- Every output has the log that it had, and every destination holds what it held.
pub record TriesNoOutput (outputs : List ℕ) (last : Option Opening) (old new : FilesShown) : Type 0
  where
    pub none : outputs ≡ []
    pub input : IfSome last IsInput
    pub logs : SameLogs old.outputs new.outputs
    pub contents : SameContents old new

-- How openings with these answers failed with this fault. It has the name of the opening that was
-- refused. It is a refusal of memory only if no opening was refused, but for operands. If an input
-- was refused, no output was tried. If the openings are strict and an output was tried, no operand
-- is missing.
abbrev pub FailsWith : Bool → List (Option ℕ) → List ℕ → Option Opening → FilesShown → FilesShown
    → OpenFault → Type 0
FailsWith strict inputs outputs last old new (fault.InputNotOpened name) =
    (last ≡ Some (Input name None)) × TriesNoOutput outputs last old new
FailsWith strict inputs outputs last old new (fault.OutputNotOpened name) =
    (last ≡ Some (Output name None)) × (IsTrue strict → missing_places inputs ≡ [])
FailsWith strict inputs outputs last old new fault.NoMemory =
    (last ≡ None)
    × (IsTrue strict → (missing_places inputs ≡ []) ⊎ TriesNoOutput outputs last old new)

-- An opening of a plan's files failed: these inputs and outputs were answered, and the opening that
-- was refused, if one was, is the last that was tried. A strict one tries no output if an operand
-- is missing.
pub record FailsToOpen (strict : Bool) (plan : Planned) (old new : FilesShown) (f : OpenFault) :
    Type 0 where
  pub inputs : List (Option ℕ)
  pub outputs : List ℕ
  pub last : Option Opening
  pub opens : OpensFirst plan inputs outputs last old new
  pub fails : FailsWith strict inputs outputs last old new f

-- what an opening of a plan's files did
abbrev pub Opens : Planned → FilesShown → FilesShown → Result OpenedFiles OpenFault → Type 0
Opens plan old new (Ok o) = OpensAll plan o old new
Opens plan old new (Err f) = FailsToOpen false plan old new f

-- ---- openings for which every operand has to be there

-- an operand is missing among the answers to all inputs, and this fault has the name of the first
-- such operand
abbrev pub NamesMissing : Planned → List (Option ℕ) → OpenFault → Type 0
NamesMissing plan inputs (fault.InputNotOpened name) =
    (place : ℕ) × HasFirst place (missing_places inputs)
    × ((o : InOpening) × (slice_get plan.inputs place ≡ Some o) × (o.name ≡ name))
NamesMissing plan inputs (fault.OutputNotOpened name) = ⊥
NamesMissing plan inputs fault.NoMemory = ⊥

-- Every input was answered, an operand is missing, and no output was opened or tried. Every
-- destination holds what it held.
pub record LacksOperand (plan : Planned) (old new : FilesShown) (f : OpenFault) : Type 0 where
  pub inputs : List (Option ℕ)
  pub all : length inputs ≡ length plan.inputs
  pub opens : OpensFirst plan inputs [] None old new
  pub names : NamesMissing plan inputs f
  pub outputs : SameLogs old.outputs new.outputs
  pub contents : SameContents old new

-- What an opening of a plan's files did. If it is strict, an operand that is missing ends it,
-- before any output is opened. Then the fault has the name of a redirected input that was refused,
-- or else of the first missing operand.
abbrev pub OpensAs : Bool → Planned → FilesShown → FilesShown → Result OpenedFiles OpenFault
    → Type 0
OpensAs strict plan old new (Ok o) = OpensAll plan o old new
    × (IsTrue strict → missing_places o.inputs ≡ [])
OpensAs strict plan old new (Err f) = FailsToOpen strict plan old new f
    ⊎ (IsTrue strict × LacksOperand plan old new f)

-- If openings are strict and an operand is missing, no output was opened, whichever fault is
-- returned.
abbrev pub StrictOpensNoOutput : Type 0
StrictOpensNoOutput =
    (plan : Planned) (old new : FilesShown) (f : OpenFault)
    (fails : FailsToOpen true plan old new f)
    → missing_places fails.inputs ≢ [] → SameLogs old.outputs new.outputs × SameContents old new

-- ---- the openings of the outputs

-- these were the answers to the openings of outputs, whatever those to the inputs before them were
abbrev pub OpensBehind : Planned → List ℕ → FilesShown → FilesShown → Type 0
OpensBehind plan outputs old new =
    (first : FilesShown) (inputs : List (Option ℕ)) → length inputs ≡ length plan.inputs
    → OpensFirst plan inputs [] None first old → OpensFirst plan inputs outputs None first new

-- ---- one opening

-- What the opening of one input did: an operand that is refused is missing.
abbrev pub OpensOneInput : InOpening → FilesShown → FilesShown → Result (Option ℕ) OpenFault
    → Type 0
OpensOneInput o old new (Ok (Some file)) = OpensInput o.name file old new
OpensOneInput o old new (Ok None) = (o.operand ≡ true) × Refuses (Input o.name None) old new
OpensOneInput o old new (Err (fault.InputNotOpened name)) = (o.operand ≡ false) × (o.name ≡ name)
    × Refuses (Input o.name None) old new
OpensOneInput o old new (Err (fault.OutputNotOpened name)) = ⊥
OpensOneInput o old new (Err fault.NoMemory) = OpensNothing old new

-- what the opening of one output did
abbrev pub OpensOneOutput : OutOpening → FilesShown → FilesShown → Result ℕ OpenFault → Type 0
OpensOneOutput o old new (Ok file) = OpensOutput o.name file old new
OpensOneOutput o old new (Err (fault.InputNotOpened name)) = ⊥
OpensOneOutput o old new (Err (fault.OutputNotOpened name)) = (o.name ≡ name)
    × Refuses (Output o.name None) old new
OpensOneOutput o old new (Err fault.NoMemory) = OpensNothing old new

-- the names of the inputs, and of the outputs, in order
abbrev pub input_names : List InOpening → List InName
input_names openings = map (λ o. o.name) openings

abbrev pub output_names : List OutOpening → List OutName
output_names openings = map (λ o. o.name) openings
