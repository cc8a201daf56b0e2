-- What a run of a network came to.
use Rattle.std.proofs.Common.{◌≡◌, ◌≢◌, ℕ, ◌<◌, ◌≤◌, Bool, true, false, List, [], ◌∷◌, Option, Some}
use Rattle.std.proofs.Common.{None, length, refl, sym, ap, ◌∙◌, subst, inl, inr, ⊎_elim, arith}
use Rattle.std.specs.Prelude.{Contains, ◌⊎◌, slice_get, IfSome, IfOk, Result, Ok, Err}
use Rattle.std.specs.List.{AllByRecursion}
use Rattle.std.proofs.lemmas.Bool.{cases_lt}
use Rattle.std.proofs.lemmas.List.{get_or_past}
use Rattle.machine.specs.Law.{Shown}
use Rattle.machine.specs.Whole.{WholeAnswer}
use Rattle.collector.specs.declared.needed.LeftOut.TheVariants.{Nothing}
use Rattle.collector.specs.Files.{FilesShown}
use Rattle.collector.specs.Nodes.{read_by}
use Rattle.collector.specs.declared.fault.RunFault.{RunFault}
use Rattle.collector.specs.declared.fault.RunFault.TheVariants as named
use Rattle.run_types.specs.declared.names.InName.{InName}
use Rattle.run_types.specs.declared.names.OutName.{OutName}
use Rattle.stages.specs.inner.Staged.{Staged}
use Rattle.run_types.specs.declared.node_state.NodeFault.{NodeFault}
use Rattle.run_types.specs.declared.node_state.NodeFault.TheVariants as node
use Rattle.run_types.specs.declared.node_state.NodeState.TheVariants.{Failed}
use Rattle.run_types.specs.declared.step.Step.{Step}
use Rattle.graphs.specs.Graph.{GraphNode, Stage, IsPipe, IsNode, IsForest, IsPlan, node_at}
use Rattle.network_laws.specs.Sequential.{Contents, answer, negated, status_at}
use Rattle.bounded_pipe.specs.Ends.{LacksBytes}
use Rattle.collector.specs.Sources.{held_size}
use Rattle.stages.specs.Owed.{owed_size}
use Rattle.network_laws.specs.Waits.{WaitsFor, FullWait, IsRunning, IsFullAt, IsStuck, SourceFull}
use Rattle.network_laws.specs.Waits.{StageFull}
use Rattle.networks.specs.NodeWaits.{WaitsFull}
use Rattle.networks.specs.Growth.{MayGrow, IsNext}
use Rattle.network_laws.specs.State.{Part, Setup, State, IsLawful, node_state_of, IsDone, IsFailed}
use Rattle.network_laws.specs.State.{told}
use Rattle.network_laws.specs.Steps.{is_done, done_below, progress}
use Rattle.network_laws.specs.Outcome.{Run, HasRead, HasWritten, HasReads, HasWrites, CannotGrow}
use Rattle.network_laws.specs.Outcome.{waiting_size, Agree, EachOutputBegins, HasFinished}
use Rattle.network_laws.specs.Outcome.{IsTrueFault, IsFileFault, ShowsStall, IsTrueOutcome}
use Rattle.network_laws.specs.Outcome as is
use Rattle.network_laws.specs.declared.outcome.Outcome.{Outcome}
use Rattle.network_laws.specs.declared.outcome.Outcome.TheVariants as outcome
use Rattle.network_laws.specs.declared.outcome.Waiting.{Waiting}
use Rattle.network_laws.proofs.FinishLaws.{outputs_begin, done_outputs, status_fixed, count_fault}
use Rattle.network_laws.proofs.StuckLaws.{no_forest_stuck}
use Rattle.network_nodes.specs.declared.actor.Actor.{Actor}
use Rattle.network_nodes.specs.declared.actor.Actor.TheVariants as an
use Rattle.network_nodes.specs.declared.actor.Link.{Link}
use Rattle.network_nodes.specs.inner.Actors.{actor_at, node_state_at, IsFaultAt}
use Rattle.networks.specs.Networks.{Networked, writing_by, part_of, network_state, in_file}
use Rattle.networks.specs.Networks.{out_file, in_name, out_name, FitsAt, IsRight, told_status}
use Rattle.networks.specs.Networks.{setup_status, rooms, FitsSource, FitsStage, FitsSink}
use Rattle.networks.specs.Turns.{OutcomeIs, Reaches, AreSteps, AllDone, EndsIn, GrowsIfStuck}
use Rattle.networks.specs.Turns.{GrowsNext, NoneFailed, NoneMoved, HasMoved, IsFaultOf}
use Rattle.networks.specs.Turns.{HasFileFault, FaultsAreTrue, IsNoStall, NamesWaits, IsStallOf}
use Rattle.networks.specs.Turns.{faults_below, input_names, output_names, written_by, out_by}
use Rattle.networks.specs.Turns.{run_of}
use Rattle.networks.specs.Turns.{waits_from}
use Rattle.networks.proofs.lemmas.Lawful.{is_lawful}
use Rattle.networks.proofs.StateLaws.{pipe_count, link_is}
use Rattle.networks.proofs.FailureLaws.{IsByFile}
use Rattle.networks.proofs.lemmas.RoundLaws.{round_stuck}
use Rattle.networks.proofs.DecisionLaws.{is_at_end, all_done, done_all_below, some_runs}
use Rattle.networks.proofs.DecisionLaws.{fault_named, round_rises, events_all, moved_further}

-- what follows of a value, if there is one
pub some_map : {A : Type 0} (P Q : A → Type 0) → ((x : A) → P x → Q x) → (o : Option A) → IfSome o P
    → IfSome o Q
some_map P Q f None h = tt
some_map P Q f (Some x) h = f x h

-- what is so of a value for one network is so for another that is the same if there is a value
pub kept_or : {M : Type 0} (P : Networked M → Outcome → Type 0) (old new : Networked M)
    (o : Option Outcome) → IfSome o (λ _. new ≡ old) → IfSome o (P old) → IfSome o (P new)
kept_or P old new None same h = tt
kept_or P old new (Some x) same h = subst (λ (n : Networked _). P n x) (sym same) h

-- what follows of the value of a result, if it is Ok
pub ok_map : {A B : Type 0} (P Q : A → Type 0) → ((x : A) → P x → Q x) → (r : Result A B) → IfOk r P
    → IfOk r Q
ok_map P Q f (Ok x) h = f x h
ok_map P Q f (Err e) h = tt

-- the state of a node is that of its part
pub state_is : {M : Type 0} (shows : M → Shown) (files : FilesShown) (a : Actor M)
    → node_state_of (part_of shows files a) ≡ node_state_at a
state_is shows files (an.Source x) = refl
state_is shows files (an.Stage t) = refl
state_is shows files (an.Sink y) = refl
state_is shows files an.Lent = refl

-- if no node has failed, none has in its state
pub state_sound : {M : Type 0} (shows : M → Shown) (files : FilesShown) (n : Networked M)
    (count : ℕ) → count ≡ length n.nodes → NoneFailed n → (k : ℕ) → k < count
    → IsFailed (node_state_of ((network_state shows n files).part k)) → ⊥
state_sound shows files n count same sound k within bad =
    sound k (omega (arith, within, same))
    (subst IsFailed (state_is shows files (actor_at n.nodes k)) bad)

-- files of which nothing is known
abbrev pub no_files : FilesShown
no_files = record {
  openings = [];
  inputs = λ file. None;
  outputs = λ file. None;
  targets =
      λ file. None;
  contents = λ d. None;
  standard_input = None;
  held = λ file. None;
  left_out = λ file. Nothing;
  failures =
      0;
  held_back = false;
  in_place = λ name. None;
}

-- each node is at its end just if this many are
pub all_are_done : {M : Type 0} (shows : M → Shown) (files : FilesShown) (n : Networked M)
    → done_below (length n.nodes) (network_state shows n files) ≡ length n.nodes → AllDone n
all_are_done shows files n all k within =
    subst IsDone (state_is shows files (actor_at n.nodes k))
    (is_at_end _ (all_done (length n.nodes) (network_state shows n files) all k within))

pub are_all_done : {M : Type 0} (shows : M → Shown) (files : FilesShown) (n : Networked M)
    → AllDone n → done_below (length n.nodes) (network_state shows n files) ≡ length n.nodes
are_all_done shows files n each = done_all_below (length n.nodes) (network_state shows n files)
    (λ k within. subst IsDone (sym (state_is shows files (actor_at n.nodes k))) (each k within))

module _ {M : Type 0} (shows : M → Shown) (s : Setup) (files : FilesShown) where
  has_read : (k : ℕ) (o : Option GraphNode) (a : Actor M) → FitsAt shows s files k o a
      → (let log = read_by files (in_file a) in
      HasRead (part_of shows files a) log.bytes log.at_end)
  has_read k o a (FitsSource file fits block) = (refl, fits.at_end)
  has_read k o a (FitsStage ins outs case block) = tt
  has_read k o a (FitsSink fits unended) = tt

  has_written : (a : Actor M) → HasWritten (part_of shows files a) (written_by files (out_file a))
      (out_by files (out_file a))
  has_written (an.Source x) = tt
  has_written (an.Stage t) = tt
  has_written (an.Sink y) = (refl, refl)
  has_written an.Lent = tt

  -- a stage of the network is one of the graph
  is_stage : (k : ℕ) (o : Option GraphNode) (t : Staged M) → FitsAt shows s files k o (an.Stage t)
      → (filter : WholeAnswer) × (inputs : List ℕ) × (branches : List (Option ℕ))
      × (o ≡ Some (Stage filter inputs branches))
  is_stage k o t (FitsStage {filter} {inputs} {branches} ins outs case block) =
      (filter, inputs, branches, refl)

-- what follows of each of a list
all_map : {A : Type 0} (P Q : A → Type 0) → ((x : A) → P x → Q x) → (xs : List A)
    → AllByRecursion P xs → AllByRecursion Q xs
all_map P Q f [] h = tt
all_map P Q f (x ∷ xs) h = (f x h.0, all_map P Q f xs h.1)

-- the waits are named, and no pipe may grow
pub named_stall : (s : Setup) (st : State) (answers : List Step) (o : Outcome) → IsNext s st None
    → NamesWaits s.graph answers o → IsStallOf s st answers o
named_stall s st answers (outcome.Finished status) none h = absurd h
named_stall s st answers (outcome.Stalled waits) none h = (h, none)
named_stall s st answers (outcome.Faulted fault) none h = h

-- no pipe of a network that is right has more room than the most
pub rooms_within : {M : Type 0} (shows : M → Shown) (s : Setup) (n : Networked M)
    (files : FilesShown) → IsRight shows s n files → (p : ℕ) → rooms n p ≤ s.most
rooms_within shows s n files right p = subst (λ (m : ℕ). rooms n p ≤ m) right.most
    (by_case (slice_get n.pipes p) refl)
  where
    by_case : (o : Option Link) → slice_get n.pipes p ≡ o → (writing_by n.nodes o).capacity ≤ n.most
    by_case None e = omega arith
    by_case (Some l) e = let j = right.joined in let r = j.rooms in r.within p l e

-- ---- a full pipe that may not grow

module _ (s : Setup) (st : State) (none : (p : ℕ) → MayGrow s st p → ⊥) (top : (p : ℕ)
    → (st.writing p).capacity ≤ s.most) where
  -- one that is full for an item has the greatest capacity, or lacks bytes for it
  full_at_most : (k p size : ℕ) → WaitsFull s st k p → IsFullAt st size p
      → ((st.writing p).capacity ≡ s.most) ⊎ LacksBytes size (st.writing p) (st.reading p)
  full_at_most k p size waits full = ⊎_elim
      (λ holds. inl (⊎_elim
      (λ (less : (st.writing p).capacity < s.most). absurd (none p
      (record { node = k; waits = waits; holds = holds; less = less })))
      (λ (more : s.most ≤ (st.writing p).capacity). let t = top p in
      (let e : (st.writing p).capacity ≡ s.most = omega (arith, more, t) in e))
      (cases_lt (st.writing p).capacity s.most)))
      (λ lacks. inr lacks)
      full.full

  -- so does one that a node waits for, for the item that the node owes
  waits_at_most : (k p : ℕ) (o : Option GraphNode) (x : Part) → WaitsFull s st k p
      → FullWait s st k o x p → ((st.writing p).capacity ≡ s.most)
      ⊎ LacksBytes (waiting_size x) (st.writing p) (st.reading p)
  waits_at_most k p _ _ waits (SourceFull {x = x} own owes full) =
      full_at_most k p (held_size x.held) waits full
  waits_at_most k p _ _ waits (StageFull {x = x} h) = full_at_most k p (owed_size x) waits h.2.0

  cannot_grow : (w : Waiting) → IsRunning s st w.node × WaitsFor s st w.node w.full w.pipe
      → CannotGrow s st w
  cannot_grow w h full =
      let waits : WaitsFor s st w.node true w.pipe =
      subst (λ (b : Bool). WaitsFor s st w.node b w.pipe) full h.1 in
      waits_at_most w.node w.pipe (node_at s.graph w.node) (st.part w.node) (h.0, waits) waits

module _ {M : Type 0} (shows : M → Shown) (s : Setup) (n : Networked M) (files : FilesShown)
    (before : ℕ) (faults : List is.FaultByNode) (right : IsRight shows s n files) where
  -- the state that it is in, and what its run shows
  abbrev now : State
  now = network_state shows n files

  abbrev run : Run
  run = run_of n files before faults

  count : length n.nodes ≡ length s.graph.nodes
  count = let g = right.graph in g.count

  pub reads : HasReads now run
  reads k = ⊎_elim
      (λ (lt : k < length n.nodes). has_read shows s files k (node_at s.graph k)
      (actor_at n.nodes k) (right.fits k lt))
      (λ (ge : length n.nodes ≤ k). subst (λ (a : Actor M). let log = read_by files (in_file a) in
      HasRead (part_of shows files a) log.bytes log.at_end)
      (sym (get_or_past n.nodes k an.Lent ge)) (refl, refl))
      (cases_lt k (length n.nodes))

  pub writes : HasWrites now run
  writes k = has_written shows s files (actor_at n.nodes k)

  pub lawful : IsLawful s now
  lawful = is_lawful shows s n files right

  pub begins : EachOutputBegins s run
  begins = outputs_begin s now run right.plan lawful reads writes

  -- ---- the run has finished

  status_told : (contents : Contents) → Agree s run contents → (o : Option GraphNode)
      → node_at s.graph s.graph.result.0 ≡ o
      → told_status s o ≡ status_at s.graph contents (answer s.graph contents) o
  status_told contents agree (Some (Stage filter inputs branches)) e =
      sym (status_fixed s run contents agree s.graph.result.0 filter inputs branches
      (answer s.graph contents) (λ i. []) e)
      ∙ ap (λ (o : Option GraphNode). status_at s.graph contents (answer s.graph contents) o) e
  status_told contents agree _ e = refl

  pub finished : (status : ℕ) → status ≡ setup_status s
      → ((k : ℕ) → k < length n.nodes → is_done (node_state_of (now.part k)) ≡ true)
      → HasFinished s run status
  finished status told all = λ contents agree. (
    done_outputs s now run contents right.plan lawful reads writes agree
        (λ k within. is_at_end (node_state_of (now.part k)) (all k (omega (arith, within, count)))),
    told ∙ ap (negated s.graph.result.1)
        (status_told contents agree (node_at s.graph s.graph.result.0) refl),
  )

  pub finished_all : (status : ℕ) → status ≡ setup_status s
      → done_below (length n.nodes) now ≡ length n.nodes → HasFinished s run status
  finished_all status told all = finished status told (all_done (length n.nodes) now all)

  pub finished_each : AllDone n → HasFinished s run n.status
  finished_each each = finished_all n.status right.status (are_all_done shows files n each)

  -- ---- a node has failed

  count_true : (k : ℕ) (t : Staged M) → k < length n.nodes → actor_at n.nodes k ≡ an.Stage t
      → t.state ≡ Failed node.CountTooLarge → IsTrueFault s run (is.CountTooLarge k)
  count_true k t within a e =
      let f = is_stage shows s files k (node_at s.graph k) t
      (subst (λ (b : Actor M). FitsAt shows s files k (node_at s.graph k) b) a
      (right.fits k within)) in
      count_fault s now run lawful reads k f.0 f.1 f.2 f.3
      (ap (λ (b : Actor M). node_state_of (part_of shows files b)) a ∙ e)

  -- the state of a node
  in_state : (k : ℕ) (a : Actor M) → actor_at n.nodes k ≡ a
      → node_state_of (now.part k) ≡ node_state_at a
  in_state k a e = ap (λ (b : Actor M). node_state_of (part_of shows files b)) e
      ∙ state_is shows files a

  -- if a fault of a file is true, the outcome that names it is
  pub faulted : ((k : ℕ) (fault : NodeFault) → k < length n.nodes → IsByFile fault
      → HasFileFault (actor_at n.nodes k) → node_state_of (now.part k) ≡ Failed fault
      → IsFileFault run (is.fault_of k fault)) → (fault : RunFault) → IsFaultOf n.nodes fault
      → OutcomeIs s (rooms n) run (input_names n) (output_names n) (outcome.Faulted fault)
  faulted file fault f = by_case fault f.number (actor_at n.nodes f.number) refl f.within f.fault_is
    where
      by_case : (fault : RunFault) (k : ℕ) (a : Actor M) → actor_at n.nodes k ≡ a
          → k < length n.nodes → IsFaultAt k a fault
          → OutcomeIs s (rooms n) run (input_names n) (output_names n) (outcome.Faulted fault)
      by_case named.NoMemory k a e within h = (is.NoMemory, tt, (begins, tt))
      by_case (named.ReadFault name) k (an.Source x) e within h = (
        is.ReadFault k,
        ap in_name e
            ∙ h.1,
        (
          begins,
          file k node.ReadFault within tt (subst HasFileFault (sym e) h.0)
              (in_state k (an.Source x) e ∙ h.0),
        ),
      )
      by_case (named.WriteFault name) k (an.Sink y) e within h = (
        is.WriteFault k,
        ap out_name e
            ∙ ap (λ (m : _). Some m) h.1,
        (
          begins,
          file k node.WriteFault within tt (subst HasFileFault (sym e) h.0)
              (in_state k (an.Sink y) e ∙ h.0),
        ),
      )
      by_case (named.CountTooLarge j) k (an.Stage t) e within h =
          (is.CountTooLarge k, h.1, (begins, count_true k t within e h.0))
      by_case _ k _ e within h = absurd h

  -- memory was refused
  pub refused : OutcomeIs s (rooms n) run (input_names n) (output_names n)
      (outcome.Faulted named.NoMemory)
  refused = (is.NoMemory, tt, (begins, tt))

  -- ---- a node had failed before

  pub faulted_before : faults ≡ faults_below (length n.nodes) now → (fault : RunFault)
      → IsFaultOf n.nodes fault → OutcomeIs s (rooms n) run (input_names n) (output_names n)
      (outcome.Faulted fault)
  faulted_before same =
      faulted (λ k fault within file own e. file_fault k fault file
      (subst (λ (l : List is.FaultByNode). Contains l (is.fault_of k fault)) (sym same)
      (fault_named (length n.nodes) now k fault within e)))
    where
      file_fault : (k : ℕ) (fault : NodeFault) → IsByFile fault
          → Contains faults (is.fault_of k fault) → IsFileFault run (is.fault_of k fault)
      file_fault k fault file c = inr (inr c)

  -- a read or a write has failed since, wherever one of a node has
  pub faulted_since : FaultsAreTrue before files.failures n.nodes → (fault : RunFault)
      → IsFaultOf n.nodes fault → OutcomeIs s (rooms n) run (input_names n) (output_names n)
      (outcome.Faulted fault)
  faulted_since since =
      faulted (λ k fault within file own e. ⊎_elim (λ (l : before < files.failures). inl l)
      (λ (last : _). inr (inl last)) (since k own))

  -- ---- after a round

  -- each pipe has room for an item
  pub room : (p : ℕ) → IsPipe s.graph p → 0 < (now.writing p).capacity
  room p is =
      let l = link_is n p (omega (arith, pipe_count s.graph n right.graph, is)) in
      let j = right.joined in
      subst (λ (o : Option Link). let w = writing_by n.nodes o in
      0 < w.capacity) (sym l.1) (let r = j.rooms in r.some p l.0 l.1)

  -- it has the limit of the run
  limits : (p : ℕ) → IsPipe s.graph p → (now.writing p).limit ≡ s.limit
  limits p is =
      let l = link_is n p (omega (arith, pipe_count s.graph n right.graph, is)) in
      subst (λ (o : Option Link). let w = writing_by n.nodes o in
      w.limit ≡ s.limit) (sym l.1) (right.limits p l.0 l.1)

  -- and so room for the bytes of the longest piece
  pub bytes : (p : ℕ) → IsPipe s.graph p → s.block ≤ (now.writing p).limit
  bytes p is = subst (λ (m : ℕ). s.block ≤ m) (sym (limits p is)) right.roomy

  none_failed : NoneFailed n → (k : ℕ) → IsNode s.graph k → IsFailed (node_state_of (now.part k))
      → ⊥
  none_failed sound k within bad = sound k (omega (arith, within, count))
      (subst IsFailed (state_is shows files (actor_at n.nodes k)) bad)

  module _ (old : State) (failed : ℕ) (answers : List Step)
      (r : AreSteps s 0 old now failed files.failures answers)
      (full : length answers ≡ length n.nodes) where
    pub faulted_round : ((k : ℕ) → k < length n.nodes → IsFailed (node_state_of (old.part k)) → ⊥)
        → Reaches before failed → (fault : RunFault) → IsFaultOf n.nodes fault
        → OutcomeIs s (rooms n) run (input_names n) (output_names n) (outcome.Faulted fault)
    faulted_round sound reach = faulted (λ k fault within file own e.
        let is : IsNode s.graph k = omega (arith, within, count) in
        ⊎_elim (λ (l : before < files.failures). inl l) (λ (last : _). inr (inl last))
        (round_rises s before 0 old now failed files.failures answers r k is (omega arith)
        (omega (arith, within, full)) (sound k within) fault file e reach))

    -- a round that moved something, or brought a node to its end, came further
    pub further : (done_below (length n.nodes) old < done_below (length n.nodes) now)
        ⊎ HasMoved answers → progress s.graph old < progress s.graph now
    further h = ⊎_elim
        (λ (l : done_below (length n.nodes) old < done_below (length n.nodes) now).
        let a : done_below (length s.graph.nodes) old < done_below (length s.graph.nodes) now =
        subst (λ (m : ℕ). done_below m old < done_below m now) count l in
        let e = events_all s 0 old now failed files.failures answers r in
        omega (arith, a, e))
        (λ (m : HasMoved answers). moved_further s 0 old now failed files.failures answers r m.0 m.1
        m.2)
        h

    module _ (sound : NoneFailed n) (some : done_below (length n.nodes) now ≢ length n.nodes)
        (done : done_below (length n.nodes) now ≤ done_below (length n.nodes) old)
        (quiet : NoneMoved answers) where
      -- the state is stuck, and these are its waits
      stuck : IsStuck s now × is.AreWaits s now (waits_from s.graph 0 answers)
      stuck =
          let one = some_runs (length n.nodes) now some
          (λ k lt. none_failed sound k (omega (arith, lt, count))) in
          round_stuck s old now failed files.failures answers r (full ∙ count) quiet
          (subst (λ (m : ℕ). done_below m now ≤ done_below m old) count done)
          (none_failed sound) lawful room bytes
          (one.0, ((let l : one.0 < length n.nodes = one.1 in omega (arith, l, count)), one.2))

      -- which never happens on a forest
      pub no_forest : IsForest s.graph → ⊥
      no_forest forest = no_forest_stuck s now right.plan forest stuck.0

      -- a pipe that grew then is the next one
      pub grew_if_stuck : (new : Networked M) → (new ≡ n) ⊎ GrowsNext shows n new
          → (new ≡ n) ⊎ GrowsIfStuck shows s answers n new files
      grew_if_stuck new = ⊎_elim
          (λ (e : new ≡ n). inl e)
          (λ (g : GrowsNext shows n new). inr
          (record {
            quiet = quiet;
            stuck = stuck.0;
            pipe = g.pipe;
            next =
                g.next s files right;
            grows = g.grows;
          }))

      shows_stall : (waits : List Waiting) → waits ≡ waits_from s.graph 0 answers
          → IsNext s now None → ShowsStall s (rooms n) run waits now
      shows_stall waits e none =
          let named : is.AreWaits s now waits = subst (is.AreWaits s now) (sym e) stuck.1 in
          record {
            stuck = stuck.0;
            capacity = λ p within. refl;
            limits = limits;
            reads = reads;
            writes = writes;
            named = named;
            grown = all_map (λ w. IsRunning s now w.node × WaitsFor s now w.node w.full w.pipe)
                (CannotGrow s now)
                (cannot_grow s now (λ p may. none p may) (rooms_within shows s n files right)) waits
                named.each;
          }

      stall : (waits : List Waiting) → waits ≡ waits_from s.graph 0 answers → IsNext s now None
          → IsTrueOutcome s (rooms n) run (is.Stalled waits)
      stall waits e none = (begins, (now, shows_stall waits e none))

      -- so the network ends
      pub stalled_ends : (result : Outcome) → IsStallOf s now answers result
          → EndsIn shows s n files result
      stalled_ends (outcome.Finished status) h = absurd h
      stalled_ends (outcome.Stalled waits) h =
          let t = shows_stall waits.items h.0 h.1 in (
            record {
              stuck = t.stuck;
              capacity = t.capacity;
              limits = t.limits;
              reads =
                  t.reads;
              writes = t.writes;
              named = t.named;
              grown = t.grown;
            },
            h.1,
          )
      stalled_ends (outcome.Faulted fault) h = inl (h, sound)

      pub stalled : (result : Outcome) → IsStallOf s now answers result
          → OutcomeIs s (rooms n) run (input_names n) (output_names n) result
      stalled (outcome.Finished status) h = absurd h
      stalled (outcome.Stalled waits) h = stall waits.items h.0 h.1
      stalled (outcome.Faulted fault) h =
          subst (λ (f : RunFault). OutcomeIs s (rooms n) run (input_names n) (output_names n)
          (outcome.Faulted f)) (sym h) (is.NoMemory, tt, (begins, tt))

-- more nodes are at their end, or a step moved something, if the numbers of nodes are these
pub came_further : (done done_now before now : ℕ) (answers : List Step) → done ≡ before
    → done_now ≡ now → (done < done_now) ⊎ HasMoved answers → (before < now) ⊎ HasMoved answers
came_further done done_now before now answers d e h =
    ⊎_elim (λ (l : done < done_now). inl (omega (arith, l, d, e)))
    (λ (m : HasMoved answers). inr m) h

-- a run over a forest never stalls
pub never_stalls : (s : Setup) (room : ℕ → ℕ) (moved : Run) (inputs : ℕ
    → Option InName) (outputs : ℕ → Option OutName) (o : Outcome) → IsPlan s.graph
    → IsForest s.graph → OutcomeIs s room moved inputs outputs o → IsNoStall o
never_stalls s room moved inputs outputs (outcome.Finished status) plan forest h = tt
never_stalls s room moved inputs outputs (outcome.Stalled waits) plan forest h =
    no_forest_stuck s h.1.0 plan forest h.1.1.stuck
never_stalls s room moved inputs outputs (outcome.Faulted fault) plan forest h = tt
