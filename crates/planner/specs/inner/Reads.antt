-- The result of reading the words of commands: their stages, or the first command that means
-- nothing.
use Rattle.std.specs.Prelude.{◌≡◌, ℕ, suc, ◌+◌, List, ◌++◌, length, Some, None, Result, Ok, Err}
use Rattle.std.specs.Global.{Vec}
use Rattle.command_words.specs.declared.fault.ArgFault.TheVariants as arg
use Rattle.commands.specs.Filters.{filter_means}
use Rattle.planner.specs.declared.fault.PlanFault.{PlanFault}
use Rattle.planner.specs.declared.fault.PlanFault.TheVariants as fault
use Rattle.planner.specs.Places.{Stage}
use Rattle.planner.specs.Stages.{PlacedCommand, stage_of, stages_of, IsFirstMeaningless}

-- the first of these commands that means nothing is named by the number of its stage; or memory was
-- refused
abbrev pub IsArgFault : ℕ → List PlacedCommand → PlanFault → Type 0
IsArgFault first cs fault.NoMemory = Unit {0}
IsArgFault first cs (fault.Arg stage arg.NoMemory) = Unit {0}
IsArgFault first cs (fault.Arg stage f) = (i : ℕ) × (stage ≡ suc (first + i))
    × IsFirstMeaningless cs i
IsArgFault first cs _ = ⊥

-- one command is read
abbrev pub ReadsOne : PlacedCommand → Result Stage PlanFault → Type 0
ReadsOne c (Ok s) = stage_of c ≡ Some s
ReadsOne c (Err fault.NoMemory) = Unit {0}
ReadsOne c (Err (fault.Arg stage arg.NoMemory)) = Unit {0}
ReadsOne c (Err (fault.Arg stage f)) = (stage ≡ suc c.index) × (filter_means c.command.words ≡ None)
ReadsOne c (Err _) = ⊥

-- these commands are read after others, which have these stages
abbrev pub ReadsRest : List PlacedCommand → List Stage → List Stage → Result (Unit {0}) PlanFault
    → Type 0
ReadsRest cs old new (Ok _) = (ss : List Stage) × (stages_of cs ≡ Some ss) × (new ≡ old ++ ss)
ReadsRest cs old new (Err f) = IsArgFault (length old) cs f

-- all commands are read
abbrev pub ReadsStages : List PlacedCommand → Result (Vec Stage) PlanFault → Type 0
ReadsStages cs (Ok stages) = stages_of cs ≡ Some stages.items
ReadsStages cs (Err f) = IsArgFault 0 cs f
