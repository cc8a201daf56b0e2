-- A run in rounds, in each of which every node steps once: what it shows, and what its result says.
use Rattle.std.specs.Prelude.{◌≡◌, ◌≢◌, ℕ, zero, suc, ◌+◌, ◌-◌, ◌^◌, ◌<◌, ◌≤◌, ◌==◌, ◌⊎◌, List, []}
use Rattle.std.specs.Prelude.{◌∷◌, ◌++◌, length, map, count_by, true, false}
use Rattle.std.specs.Prelude.{slice_index_or, Option, Some, None, Result, Ok, Err, IfOk}
use Rattle.std.specs.List.{AllByRecursion}
use Rattle.machine.specs.Law.{Shown}
use Rattle.collector.specs.Files.{FilesShown, out_of, writes_of}
use Rattle.collector.specs.Nodes.{read_by}
use Rattle.collector.specs.declared.fault.RunFault.{RunFault}
use Rattle.collector.specs.declared.fault.RunFault.TheVariants as named
use Rattle.run_types.specs.declared.names.InName.{InName}
use Rattle.run_types.specs.declared.names.OutName.{OutName}
use Rattle.run_types.specs.declared.node_state.NodeFault.TheVariants as node
use Rattle.run_types.specs.declared.node_state.NodeState.{NodeState}
use Rattle.run_types.specs.declared.node_state.NodeState.TheVariants.{Running, Ended, Broken}
use Rattle.run_types.specs.declared.node_state.NodeState.TheVariants.{Failed}
use Rattle.run_types.specs.declared.step.Step.{Step}
use Rattle.run_types.specs.declared.step.Step.TheVariants as step
use Rattle.graphs.specs.Graph.{Graph, writer}
use Rattle.network_laws.specs.State.{Setup, State, node_state_of, IsFailed, IsDone}
use Rattle.network_laws.specs.Waits.{IsStuck}
use Rattle.run_types.specs.Steps.{is_moved}
use Rattle.network_laws.specs.Steps.{IsStep, StepIs, done_below, progress}
use Rattle.network_laws.specs.Outcome.{Run, fault_of, ShowsStall, IsTrueOutcome}
use Rattle.network_laws.specs.Outcome as is
use Rattle.network_laws.specs.declared.outcome.Outcome.{Outcome}
use Rattle.network_laws.specs.declared.outcome.Outcome.TheVariants as outcome
use Rattle.network_laws.specs.declared.outcome.RoundsSpent.{RoundsSpent}
use Rattle.network_laws.specs.declared.outcome.Waiting.{Waiting}
use Rattle.network_nodes.specs.declared.actor.Actor.{Actor}
use Rattle.network_nodes.specs.declared.actor.Actor.TheVariants as an
use Rattle.network_nodes.specs.inner.Actors.{actor_at, node_state_at, file_fault, IsFaultAt}
use Rattle.networks.specs.declared.faults.FileFaults.{FileFaults}
use Rattle.networks.specs.declared.turns.Round.{Round}
use Rattle.networks.specs.declared.turns.Round.TheVariants.{Further, Quiet, Over}
use Rattle.networks.specs.Growth.{AreGrown, IsNext, PipeGrows}
use Rattle.networks.specs.Networks.{Networked, IsRight, rooms, in_file, out_file, in_name, out_name}
use Rattle.networks.specs.Networks.{network_state}

-- The counter of failures has gone on from one number to the other, or is at its last value.
abbrev pub Reaches : ℕ → ℕ → Type 0
Reaches before now = (before ≤ now) ⊎ (now ≡ 2 ^ 64 - 1)

-- A read or a write has failed between the two, or the counter of failures is at its last value.
abbrev pub HasRisen : ℕ → ℕ → Type 0
HasRisen before now = (before < now) ⊎ (now ≡ 2 ^ 64 - 1)

-- the waits that these steps answered, which are those of the nodes from the number k on
abbrev pub waits_from : Graph → ℕ → List Step → List Waiting
waits_from g k [] = []
waits_from g k (step.Moved ∷ steps) = waits_from g (suc k) steps
waits_from g k (step.Waits p ∷ steps) =
    record {
      node = k;
      pipe = p;
      full = writer g p == k;
    } ∷ waits_from g (suc k) steps
waits_from g k (step.Ended ∷ steps) = waits_from g (suc k) steps
waits_from g k (step.Broken ∷ steps) = waits_from g (suc k) steps
waits_from g k (step.Failed ∷ steps) = waits_from g (suc k) steps

-- The nodes from the number k on stepped once each, in order, with these results. `failed` and
-- `more` are how many reads and writes have failed before it and after it.
abbrev pub AreSteps : Setup → ℕ → State → State → ℕ → ℕ → List Step → Type 0
AreSteps s k old new failed more [] = (new ≡ old) × (more ≡ failed)
AreSteps s k old new failed more (st ∷ answers) =
    (mid : State) × (between : ℕ) × IsStep s.graph k old mid failed between × StepIs s old mid k st
    × AreSteps s (suc k) mid new between more answers

-- The nodes of this list stepped, each as often as it is there, one after another, with these
-- results; `failed` and `more` are as above.
abbrev pub AreScheduled : Setup → List ℕ → State → State → ℕ → ℕ → List Step → Type 0
AreScheduled s [] old new failed more [] = (new ≡ old) × (more ≡ failed)
AreScheduled s (k ∷ nodes) old new failed more (st ∷ answers) =
    (mid : State) × (between : ℕ) × IsStep s.graph k old mid failed between × StepIs s old mid k st
    × AreScheduled s nodes mid new between more answers
AreScheduled s nodes old new failed more answers = ⊥

-- the fault of the node k in this state
abbrev pub fault_at : ℕ → NodeState → List is.FaultByNode
fault_at k Running = []
fault_at k Ended = []
fault_at k Broken = []
fault_at k (Failed fault) = fault_of k fault ∷ []

-- the faults of the nodes below the number n
abbrev pub faults_below : ℕ → State → List is.FaultByNode
faults_below zero st = []
faults_below (suc n) st = faults_below n st ++ fault_at n (node_state_of (st.part n))

-- A fault of a node, as the program names it: a read's or a write's by the name of the node's file.
abbrev pub NamesFault : (ℕ → Option InName) → (ℕ → Option OutName) → is.FaultByNode → RunFault
    → Type 0
NamesFault inputs outputs (is.ReadFault k) (named.ReadFault name) = inputs k ≡ Some name
NamesFault inputs outputs (is.WriteFault k) (named.WriteFault name) = outputs k ≡ Some name
NamesFault inputs outputs (is.CountTooLarge k) (named.CountTooLarge n) = n ≡ k
NamesFault inputs outputs is.NoMemory named.NoMemory = Unit {0}
NamesFault inputs outputs fault name = ⊥

-- The outcome of the program is true of the run, over pipes of these capacities. A fault is named
-- by the file: `inputs` and `outputs` have the names of the sources' and the sinks' files, by the
-- node's number.
abbrev pub OutcomeIs : Setup → (ℕ → ℕ) → Run → (ℕ → Option InName) → (ℕ → Option OutName) → Outcome
    → Type 0
OutcomeIs s room run inputs outputs (outcome.Finished status) =
    IsTrueOutcome s room run (is.Finished status)
OutcomeIs s room run inputs outputs (outcome.Stalled waits) =
    IsTrueOutcome s room run (is.Stalled waits.items)
OutcomeIs s room run inputs outputs (outcome.Faulted fault) = (f : is.FaultByNode)
    × NamesFault inputs outputs f fault × IsTrueOutcome s room run (is.Faulted f)

-- none of these steps moved something
abbrev pub NoneMoved : List Step → Type 0
NoneMoved answers = AllByRecursion (λ st. is_moved st ≡ false) answers

-- one of these steps moved something
abbrev pub HasMoved : List Step → Type 0
HasMoved answers = (i : ℕ) × (i < length answers)
    × (is_moved (slice_index_or answers i step.Ended) ≡ true)

-- the result is an outcome, and that a fault
abbrev pub HasFaulted : Result Outcome RoundsSpent → Type 0
HasFaulted (Ok (outcome.Finished status)) = ⊥
HasFaulted (Ok (outcome.Stalled waits)) = ⊥
HasFaulted (Ok (outcome.Faulted fault)) = Unit {0}
HasFaulted (Err spent) = ⊥

-- it is no fault
abbrev pub IsSound : Outcome → Type 0
IsSound (outcome.Finished status) = Unit {0}
IsSound (outcome.Stalled waits) = Unit {0}
IsSound (outcome.Faulted fault) = ⊥

-- it is no stall
abbrev pub IsNoStall : Outcome → Type 0
IsNoStall (outcome.Finished status) = Unit {0}
IsNoStall (outcome.Stalled waits) = ⊥
IsNoStall (outcome.Faulted fault) = Unit {0}

-- The outcome names the waits that these steps answered, or memory was refused.
abbrev pub NamesWaits : Graph → List Step → Outcome → Type 0
NamesWaits g steps (outcome.Finished status) = ⊥
NamesWaits g steps (outcome.Stalled waits) = waits.items ≡ waits_from g 0 steps
NamesWaits g steps (outcome.Faulted fault) = fault ≡ named.NoMemory

-- What a round came to in which no node moved or came to its end, and no pipe grew: the waits that
-- its steps answered, and then no pipe may grow; or want of memory.
abbrev pub IsStallOf : Setup → State → List Step → Outcome → Type 0
IsStallOf s st steps (outcome.Finished status) = ⊥
IsStallOf s st steps (outcome.Stalled waits) = (waits.items ≡ waits_from s.graph 0 steps)
    × IsNext s st None
IsStallOf s st steps (outcome.Faulted fault) = fault ≡ named.NoMemory

-- ---- what a round came to, as the words of private functions have it

-- it is not the end of the run
abbrev pub IsNotOver : Round → Type 0
IsNotOver Further = Unit {0}
IsNotOver Quiet = Unit {0}
IsNotOver (Over outcome) = ⊥

-- what is so of it, if it is the end of the run, or came further, or was quiet
abbrev pub IfOver : Round → (Outcome → Type 0) → Type 0
IfOver Further P = Unit {0}
IfOver Quiet P = Unit {0}
IfOver (Over outcome) P = P outcome

abbrev pub IfFurther : Round → Type 0 → Type 0
IfFurther Further P = P
IfFurther Quiet P = Unit {0}
IfFurther (Over outcome) P = Unit {0}

abbrev pub IfQuiet : Round → Type 0 → Type 0
IfQuiet Further P = Unit {0}
IfQuiet Quiet P = P
IfQuiet (Over outcome) P = Unit {0}

-- Nothing moved between the two states of this many nodes, and no node ended; and one has not.
abbrev pub WasQuiet : ℕ → State → State → List Step → Type 0
WasQuiet count old new steps =
    (done_below count new ≢ count) × (done_below count new ≤ done_below count old) × NoneMoved steps

-- the faults of a list of them, by the node's number: none for a node without a named file
abbrev pub listed : FileFaults → List (Option RunFault)
listed faults = faults.by_node.items

-- what the writes of a node's file took
abbrev pub written_by : FilesShown → Option ℕ → List ℕ
written_by files None = []
written_by files (Some file) = writes_of files file

-- what was handed over to be written to a node's file, and may not be written yet
abbrev pub out_by : FilesShown → Option ℕ → List ℕ
out_by files None = []
out_by files (Some file) = out_of files file

module _ {M : Type 0} where
  -- each node has ended or broken; no node has failed
  abbrev pub AllDone : Networked M → Type 0
  AllDone n = (k : ℕ) → k < length n.nodes → IsDone (node_state_at (actor_at n.nodes k))

  abbrev pub NoneFailed : Networked M → Type 0
  NoneFailed n = (k : ℕ) → k < length n.nodes → IsFailed (node_state_at (actor_at n.nodes k)) → ⊥

  -- one of these nodes has failed
  abbrev pub HasFailed : List (Actor M) → Type 0
  HasFailed nodes = (k : ℕ) × (k < length nodes) × IsFailed (node_state_at (actor_at nodes k))

  abbrev pub AnyFailed : Networked M → Type 0
  AnyFailed n = HasFailed n.nodes

  -- this is why a node has failed
  pub record IsFaultOf (nodes : List (Actor M)) (fault : RunFault) : Type 0 where
    pub number : ℕ
    pub within : number < length nodes
    pub failed : IsFailed (node_state_at (actor_at nodes number))
    pub fault_is : IsFaultAt number (actor_at nodes number) fault

  -- These are the faults that the nodes may have for their files, by the node's number.
  abbrev pub AreFaultsOf : List (Actor M) → FileFaults → Type 0
  AreFaultsOf nodes faults = listed faults ≡ map file_fault nodes

  -- a read or a write of its file has failed
  abbrev pub HasFileFault : Actor M → Type 0
  HasFileFault (an.Source x) = x.state ≡ Failed node.ReadFault
  HasFileFault (an.Stage t) = ⊥
  HasFileFault (an.Sink y) = y.state ≡ Failed node.WriteFault
  HasFileFault an.Lent = ⊥

  -- if a read or a write of a node has failed, one has failed since this many had
  abbrev pub FaultsAreTrue : ℕ → ℕ → List (Actor M) → Type 0
  FaultsAreTrue before now nodes = (k : ℕ) → HasFileFault (actor_at nodes k) → HasRisen before now

  -- the names of the files, by the number of the node
  abbrev pub input_names : Networked M → ℕ → Option InName
  input_names n k = in_name (actor_at n.nodes k)

  abbrev pub output_names : Networked M → ℕ → Option OutName
  output_names n k = out_name (actor_at n.nodes k)

  -- What a run shows whose network is now this one, and whose files are these: what the reads of
  -- each source's file gave, what the writes of each sink's file took and what is out, and how many
  -- have failed;
  -- `before` had failed when it began, with these faults.
  abbrev pub run_of : Networked M → FilesShown → ℕ → List is.FaultByNode → Run
  run_of n files before faults = record {
    read = λ k. (read_by files (in_file (actor_at n.nodes k))).bytes;
    at_end = λ k. (read_by files (in_file (actor_at n.nodes k))).at_end;
    written = λ k. written_by files (out_file (actor_at n.nodes k));
    out = λ k. out_by files (out_file (actor_at n.nodes k));
    failures_before = before;
    failures = files.failures;
    faults_before = faults;
  }

  -- what a call shows that began with the first of these networks and files, and returned with the
  -- second
  abbrev pub network_run : (M → Shown) → Networked M → FilesShown → Networked M → FilesShown → Run
  network_run shows old files n files' =
      run_of n files' files.failures
      (faults_below (length old.nodes) (network_state shows old files))

  -- How the network is at the end of its run, when its files show this. Finished: each node has
  -- ended or broken. Stalled: its own state is stuck, and shows these waits, and no pipe may grow.
  -- Faulted: a node of it has failed with this fault; or none has failed, and memory was refused.
  abbrev pub EndsIn : (M → Shown) → Setup → Networked M → FilesShown → Outcome → Type 0
  EndsIn shows s n files (outcome.Finished status) = AllDone n
  EndsIn shows s n files (outcome.Stalled waits) =
      ShowsStall s (rooms n) (run_of n files files.failures []) waits.items
      (network_state shows n files)
      × IsNext s (network_state shows n files) None
  EndsIn shows s n files (outcome.Faulted fault) = ((fault ≡ named.NoMemory) × NoneFailed n)
      ⊎ IsFaultOf n.nodes fault

  -- A node had failed before, and its fault is not told: memory was refused for the names in
  -- faults.
  abbrev pub IsUntold : Networked M → Outcome → Type 0
  IsUntold old result = AnyFailed old × (result ≡ outcome.Faulted named.NoMemory)

  -- Rounds were spent, this many: in each there was an event, a node ended, or a pipe grew.
  abbrev pub SpendsRounds : (M → Shown) → Setup → ℕ → Networked M → FilesShown → Networked M
      → FilesShown → Type 0
  SpendsRounds shows s count old before new after =
      (growths : ℕ) × AreGrown old.most growths (rooms old) (rooms new)
      × (count + progress s.graph (network_state shows old before)
      ≤ progress s.graph (network_state shows new after) + growths)

  -- A pipe grew, and it is the next one in each setup that the network was right for.
  pub record GrowsNext (shows : M → Shown) (old new : Networked M) : Type 0 where
    pub pipe : ℕ
    pub grows : PipeGrows pipe old new
    pub next : (s : Setup) (files : FilesShown) → IsRight shows s old files
        → IsNext s (network_state shows old files) (Some pipe)

  -- A pipe grew after steps with these results. None of them moved something, and no node can step
  -- after them. The pipe is the one that is next then.
  pub record GrowsIfStuck (shows : M
      → Shown) (s : Setup) (answers : List Step) (stepped new : Networked M)
      (files : FilesShown) : Type 0 where
    pub quiet : NoneMoved answers
    pub stuck : IsStuck s (network_state shows stepped files)
    pub pipe : ℕ
    pub next : IsNext s (network_state shows stepped files) (Some pipe)
    pub grows : PipeGrows pipe stepped new

  -- One round: each node stepped once, in the order of their numbers, with these results; and then
  -- nothing changed, or the next pipe grew since no node could step.
  pub record IsRound (shows : M
      → Shown) (s : Setup) (old : Networked M) (before : FilesShown) (new : Networked M)
      (after : FilesShown) : Type 0 where
    pub answers : List Step
    pub count : length answers ≡ length old.nodes
    pub stepped : Networked M
    pub steps : AreSteps s 0 (network_state shows old before) (network_state shows stepped after)
        before.failures after.failures answers
    pub grown : (new ≡ stepped) ⊎ GrowsIfStuck shows s answers stepped new after

  -- This many rounds, one after another.
  abbrev pub AreRounds : (M → Shown) → Setup → ℕ → Networked M → FilesShown → Networked M
      → FilesShown → Type 0
  AreRounds shows s zero old before new after = (new ≡ old) × (after ≡ before)
  AreRounds shows s (suc n) old before new after =
      (mid : Networked M) × (between : FilesShown) × AreRounds shows s n old before mid between
      × IsRound shows s mid between new after

  -- At most this many rounds were made.
  abbrev pub MakesRounds : (M → Shown) → Setup → ℕ → Networked M → FilesShown → Networked M
      → FilesShown → Type 0
  MakesRounds shows s most old before new after = (count : ℕ) × (count ≤ most)
      × AreRounds shows s count old before new after

  -- A schedule was run: the nodes of this list stepped in this order, and this many of the steps
  -- moved something. If the network was right, each step's result is true.
  pub record RunsSchedule (shows : M
      → Shown) (nodes : List ℕ) (old : Networked M) (before : FilesShown)
      (new : Networked M) (after : FilesShown) (moved : ℕ) : Type 0 where
    pub answers : List Step
    pub count : length answers ≡ length nodes
    pub moved_are : moved ≡ count_by is_moved answers
    pub steps : (s : Setup) → IsRight shows s old before →
        AreScheduled s nodes (network_state shows old before) (network_state shows new after)
        before.failures after.failures answers

  -- If the network was right, the outcome is true also of a run that began earlier, when fewer
  -- reads and writes had failed, if each node that has failed for its file did so since then.
  abbrev pub IsTrueSince : (M → Shown) → Networked M → FilesShown → Networked M → FilesShown
      → Result Outcome RoundsSpent → Type 0
  IsTrueSince shows old before new after result = (s : Setup) → IsRight shows s old before →
      (began : ℕ) → Reaches began before.failures → FaultsAreTrue began before.failures old.nodes →
      IfOk result
      (OutcomeIs s (rooms new) (run_of new after began []) (input_names new) (output_names new))
