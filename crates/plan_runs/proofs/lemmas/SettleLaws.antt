-- What sinks have handed over is waited for.
use Rattle.std.proofs.Common.{◌≡◌, ℕ, ◌<◌, ◌≤◌, inl, inr, List, [], ◌++◌, Option, Some, None}
use Rattle.std.proofs.Common.{IsSome, unwrap_or, refl, sym, ap, ◌∙◌, subst, subst₂, ⊎_elim, arith}
use Rattle.std.proofs.Common.{append_assoc, append-nil, length, Bool, true, false}
use Rattle.std.proofs.lemmas.Bool.{cases_eq, cases_lt}
use Rattle.std.proofs.lemmas.List.{get_or_past}
use Rattle.std.proofs.lemmas.Option.{slice_get_past}
use mathlib.Core.List.{IsPrefix}
use Rattle.machine.specs.Law.{Shown}
use Rattle.collector.specs.Ends.{Reading}
use Rattle.collector.specs.Files.{FilesShown, ReadLog, WriteLog, SameLogs, log_of, nothing_read}
use Rattle.collector.specs.Files.{nothing_written, out_of, writes_of}
use Rattle.collector.specs.Nodes.{SinkShown, read_by, sink_part}
use Rattle.collector.specs.Sources.{SinkPart, SinkCase}
use Rattle.collector.proofs.TouchLaws.{touches_nothing, touches_on, touches_output}
use Rattle.graphs.specs.Graph.{GraphNode, IsNode, node_at}
use Rattle.network_laws.specs.Outcome.{FaultByNode, Run, EachOutputBegins, IsFileFault, IsTrueFault}
use Rattle.network_laws.specs.Outcome.{ShowsStall}
use Rattle.network_laws.specs.Outcome as is
use Rattle.network_laws.specs.Sequential.{answer}
use Rattle.network_laws.specs.State.{Part, OfSink, Setup, State, IsDone}
use Rattle.network_laws.specs.State.{node_state_of}
use Rattle.network_laws.specs.Waits.{FullWait, EmptyWait, IsStuck, SinkEmpty, SourceFull, StageFull}
use Rattle.network_laws.specs.Waits.{StageEmpty, WaitsFor}
use Rattle.network_laws.specs.declared.outcome.Outcome.{Outcome}
use Rattle.network_laws.specs.declared.outcome.Outcome.TheVariants as outcome
use Rattle.collector.specs.declared.fault.RunFault.{RunFault}
use Rattle.run_types.specs.declared.node_state.NodeState.{NodeState}
use Rattle.run_types.specs.declared.node_state.NodeState.TheVariants.{Running, Ended, Broken, Failed}
use Rattle.run_types.specs.declared.settings.Settings.{Settings}
use Rattle.network_nodes.specs.declared.actor.Actor.{Actor}
use Rattle.network_nodes.specs.declared.actor.Actor.TheVariants as an
use Rattle.network_nodes.specs.inner.Actors.{actor_at, node_state_at}
use Rattle.networks.specs.Networks.{Networked, FitsAt, FitsSource, FitsStage, FitsSink, IsRight}
use Rattle.networks.specs.Networks.{network_state, out_file, part_of}
use Rattle.networks.specs.Turns.{AllDone, HasRisen, IsSound, out_by, written_by}
use Rattle.networks.proofs.FailureLaws.{one_more_rises}
use Rattle.openings.specs.Answers.{OpenedFiles, own_file}
use Rattle.planner.specs.Planned.{Planned}
use Rattle.planner.specs.declared.plan.Node.{Node}
use Rattle.step_scheduler.specs.Setups.{input_file, output_file, setup_of, sink_file}
use Rattle.filters.specs.FilterShows.{filter_shows}
use Rattle.plan_runs.specs.Runs.{IsSettled, RunsPlanTo, SettlesPlan, TouchesPlan}
use Rattle.plan_runs.specs.inner.Settled.{SettlesFile}

prefix_trans : (xs ys zs : List ℕ) → IsPrefix xs ys → IsPrefix ys zs → IsPrefix xs zs
prefix_trans xs ys zs (r, e) (s, f) =
    (r ++ s, sym (append_assoc xs r s) ∙ (ap (λ l. l ++ s) e ∙ f))

-- ---- one output after another

module _ (plan : Planned) (o : OpenedFiles) where
  abbrev Ins : ℕ → Type 0
  Ins file = (k : ℕ) × (input_file plan o k ≡ Some file)

  abbrev Outs : ℕ → Type 0
  Outs file = (k : ℕ) × (output_file plan o k ≡ Some file)

  -- none
  pub settles_none : (s : FilesShown) → SettlesPlan plan o s s
  settles_none s = record {
    touches = touches_nothing Ins Outs s s refl;
    inputs = λ k. refl;
    begins = λ k. (
      [],
      append-nil (written_by s (output_file plan o k) ++ out_by s (output_file plan o k)),
    );
    still = λ k none. none;
    rises = λ before h. h;
  }

  -- some, and then some
  pub settles_on : (a b c : FilesShown) → SettlesPlan plan o a b → SettlesPlan plan o b c
      → SettlesPlan plan o a c
  settles_on a b c g h = record {
    touches = touches_on Ins Outs a b c g.touches h.touches;
    inputs = λ k. h.inputs k ∙ g.inputs k;
    begins = λ k. prefix_trans _ _ _ (h.begins k) (g.begins k);
    still = λ k none. h.still k (g.still k none);
    rises = λ before risen. h.rises before (g.rises before risen);
  }

  module _ (k file : ℕ) (is : output_file plan o k ≡ Some file) (old new : FilesShown)
      (s : SettlesFile file old new) where
    -- it is settled
    pub settled_now : out_by new (output_file plan o k) ≡ []
    settled_now = ap (λ (f : Option ℕ). out_by new f) is
        ∙ ap (λ (l : WriteLog). l.out) (let l = s.log in l.2)

    own_begins : IsPrefix (writes_of new file ++ out_of new file)
        (writes_of old file ++ out_of old file)
    own_begins =
        let l = s.log in
        let front = l.0 in
        let tail = l.1.0 in
        subst (λ (x : WriteLog). IsPrefix (x.bytes ++ x.out) (writes_of old file ++ out_of old file))
        (sym l.2) (
          tail,
          ap (λ (x : List ℕ). x ++ tail) (append-nil (writes_of old file ++ front))
              ∙ append_assoc (writes_of old file) front tail
              ∙ ap (λ (x : List ℕ). writes_of old file ++ x) l.1.1,
        )

    other_begins : (f : ℕ) → new.outputs f ≡ old.outputs f
        → IsPrefix (writes_of new f ++ out_of new f) (writes_of old f ++ out_of old f)
    other_begins f same =
        subst (λ (x : WriteLog). IsPrefix (x.bytes ++ x.out) (writes_of old f ++ out_of old f))
        (sym (ap (λ (x : Option WriteLog). unwrap_or x nothing_written) same))
        ([], append-nil (writes_of old f ++ out_of old f))

    risen : (before : ℕ) → HasRisen before old.failures → HasRisen before new.failures
    risen before h = ⊎_elim
        (λ e. subst (HasRisen before) (sym e) h)
        (λ e. subst (HasRisen before) (sym e)
        (one_more_rises before old.failures
        (⊎_elim (λ (l : before < old.failures). inl (omega arith)) (λ e. inr e) h)))
        s.failures

    module _ (others : (f : ℕ) → (f ≡ file → ⊥) → new.outputs f ≡ old.outputs f) where
      begins_by : (f : Option ℕ) → IsPrefix (written_by new f ++ out_by new f)
          (written_by old f ++ out_by old f)
      begins_by None = ([], refl)
      begins_by (Some f) = ⊎_elim
          (λ e. subst (λ (i : ℕ). IsPrefix (writes_of new i ++ out_of new i)
          (writes_of old i ++ out_of old i)) (sym e) own_begins)
          (λ ne. other_begins f (others f ne))
          (cases_eq f file)

      still_by : (f : Option ℕ) → out_by old f ≡ [] → out_by new f ≡ []
      still_by None none = refl
      still_by (Some f) none = ⊎_elim
          (λ e. ap (λ (i : ℕ). out_of new i) e
          ∙ ap (λ (l : WriteLog). l.out) (let l = s.log in l.2))
          (λ ne. ap (λ (x : Option WriteLog). (unwrap_or x nothing_written).out) (others f ne)
          ∙ none)
          (cases_eq f file)

    by_log : (log : Option WriteLog) → old.outputs file ≡ log → SettlesPlan plan o old new
    by_log None e =
        let none = ap (λ (x : Option WriteLog). (unwrap_or x nothing_written).out) e in
        subst (λ (f : FilesShown). SettlesPlan plan o old f) (sym (s.idle none)) (settles_none old)
    by_log (Some log) e =
        let own = s.only (subst (λ (x : Option WriteLog). IsSome x) (sym e) refl) in
        record {
          touches = touches_output Ins Outs file old new (k, is) own;
          inputs = own.inputs;
          begins = λ j. begins_by own.outputs (output_file plan o j);
          still = λ j none. still_by own.outputs (output_file plan o j) none;
          rises = risen;
        }

    -- the others are as they were
    pub settles_file : SettlesPlan plan o old new
    settles_file = by_log (old.outputs file) refl

  -- ---- a run that has met a fault

  read_same : (a b : FilesShown) → SameLogs a.inputs b.inputs → (file : Option ℕ)
      → read_by b file ≡ read_by a file
  read_same a b same None = refl
  read_same a b same (Some file) =
      ap (λ (l : Option ReadLog). unwrap_or l nothing_read) (same file)

  module _ (settings : Settings) (old mid new : FilesShown) (fault : RunFault)
      (runs : RunsPlanTo plan o settings old mid (outcome.Faulted fault))
      (h : SettlesPlan plan o mid new) where
    abbrev s : Setup
    s = setup_of plan o settings.max_capacity settings.bytes settings.block

    abbrev before : Run
    before = runs.run

    abbrev later : Run
    later = record before {
      written = λ k. written_by new (output_file plan o k);
      out = λ k. out_by new (output_file plan o k);
      failures = new.failures;
    }

    begins : EachOutputBegins s before → EachOutputBegins s later
    begins each contents agree k p at reads =
        let shows = runs.shows in
        prefix_trans _ _ _ (h.begins k)
        (subst₂ (λ (a b : List ℕ). IsPrefix (a ++ b) (answer s.graph contents p)) (shows.written k)
        (shows.out k) (each contents agree k p at reads))

    file_fault : (f : FaultByNode) → IsFileFault before f → IsFileFault later f
    file_fault f (inr (inr there)) = inr (inr there)
    file_fault f (inr (inl last)) =
        let shows = runs.shows in
        ⊎_elim (λ less. inl less) (λ e. inr (inl e))
        (h.rises before.failures_before (inr (sym shows.failures ∙ last)))
    file_fault f (inl less) =
        let shows = runs.shows in
        ⊎_elim (λ l. inl l) (λ e. inr (inl e))
        (h.rises before.failures_before
        (inl (subst (λ (n : ℕ). before.failures_before < n) shows.failures less)))

    true_fault : (f : FaultByNode) → IsTrueFault s before f → IsTrueFault s later f
    true_fault (is.ReadFault k) t = file_fault (is.ReadFault k) t
    true_fault (is.WriteFault k) t = file_fault (is.WriteFault k) t
    true_fault (is.CountTooLarge k) t = t
    true_fault is.NoMemory t = t

    -- the fault is also true once what was out was waited for
    pub faulted_settles : RunsPlanTo plan o settings old new (outcome.Faulted fault)
    faulted_settles =
        let shows = runs.shows in
        let told = runs.outcome_is in
        record {
          run = later;
          shows = record {
            read = λ k. shows.read k
                ∙ sym (ap (λ (l : ReadLog). l.bytes)
                (read_same mid new h.inputs (input_file plan o k)));
            at_end = λ k. shows.at_end k
                ∙ sym (ap (λ (l : ReadLog). l.at_end)
                (read_same mid new h.inputs (input_file plan o k)));
            written = λ k. refl;
            out = λ k. refl;
            failures_before = shows.failures_before;
            failures = refl;
            faults_before = shows.faults_before;
          };
          room = runs.room;
          rooms = runs.rooms;
          forest = runs.forest;
          start = runs.start;
          starts = runs.starts;
          growths = runs.growths;
          inputs = runs.inputs;
          sources = runs.sources;
          outputs = runs.outputs;
          sinks = runs.sinks;
          ends = ⊎_elim (λ e. inl e)
              (λ ends. inr (ends.0, settles_on ends.0 mid new ends.1 h, ends.2)) runs.ends;
          outcome_is = (
            told.0,
            told.1,
            (begins (let t = told.2 in t.0), true_fault told.0 (let t = told.2 in t.1)),
          );
        }

  -- any outcome, if nothing changes unless it is a fault
  pub outcome_settles : (settings : Settings) (old mid new : FilesShown) (result : Outcome)
      → RunsPlanTo plan o settings old mid result → SettlesPlan plan o mid new
      → (IsSound result → new ≡ mid) → RunsPlanTo plan o settings old new result
  outcome_settles settings old mid new (outcome.Finished status) runs h same =
      subst (λ (f : FilesShown). RunsPlanTo plan o settings old f (outcome.Finished status))
      (sym (same tt)) runs
  outcome_settles settings old mid new (outcome.Stalled waits) runs h same =
      subst (λ (f : FilesShown). RunsPlanTo plan o settings old f (outcome.Stalled waits))
      (sym (same tt)) runs
  outcome_settles settings old mid new (outcome.Faulted fault) runs h same =
      faulted_settles settings old mid new fault runs h

-- no sink has a number past that of the last node
pub none_past : (plan : Planned) (o : OpenedFiles) (files : FilesShown) (k : ℕ)
    → length plan.nodes ≤ k → out_by files (output_file plan o k) ≡ []
none_past plan o files k le =
    ap (λ (n : Option Node). out_by files (sink_file n (own_file o k)))
    (slice_get_past plan.nodes k le)

-- ---- a run that has not

-- a sink that does not run has nothing to write
sink_idle : (x : SinkPart) (state : NodeState) (r : Reading) → SinkCase x state r
    → (state ≡ Running → x.held ≡ []) → x.held ≡ []
sink_idle x Running r c waits = waits refl
sink_idle x Ended r c waits = c.2
sink_idle x Broken r c waits = absurd c
sink_idle x (Failed fault) r c waits = c.1

-- nor has one that waits
full_idle : (s : Setup) (st : State) (k p : ℕ) (node : Option GraphNode) (part : Part)
    (x : SinkPart) → FullWait s st k node part p → part ≡ OfSink x → x.held ≡ []
full_idle s st k p _ _ x (SourceFull own owes full) e = absurd (cc e)
full_idle s st k p _ _ x (StageFull waits) e = absurd (cc e)

abbrev sink_held : Part → List ℕ
sink_held (OfSink x) = x.held
sink_held _ = []

empty_idle : (s : Setup) (st : State) (k p : ℕ) (node : Option GraphNode) (part : Part)
    (x : SinkPart) → EmptyWait s st k node part p → part ≡ OfSink x → x.held ≡ []
empty_idle s st k p _ _ x (StageEmpty waits) e = absurd (cc e)
empty_idle s st k p _ _ x (SinkEmpty own none bare) e = ap sink_held (sym e) ∙ none

module _ {M : Type 0} (shows : M → Shown) (s : Setup) (n : Networked M) (files : FilesShown)
    (right : IsRight shows s n files) where
  node_idle : (k : ℕ) (node : Option GraphNode) (a : Actor M) → FitsAt shows s files k node a
      → ((y : SinkShown) → a ≡ an.Sink y → y.state ≡ Running → out_of files y.file ≡ [])
      → out_by files (out_file a) ≡ []
  node_idle k _ _ (FitsSource file fits block) waits = refl
  node_idle k _ _ (FitsStage ins outs case block) waits = refl
  node_idle k _ _ (FitsSink {y} fits unended) waits =
      sink_idle _ y.state y.end fits (λ running. waits y refl running)

  each_idle : ((k : ℕ) → k < length n.nodes → (y : SinkShown) → actor_at n.nodes k ≡ an.Sink y
      → y.state ≡ Running → out_of files y.file ≡ [])
      → (k : ℕ) → out_by files (out_file (actor_at n.nodes k)) ≡ []
  each_idle waits k = ⊎_elim
      (λ (lt : k < length n.nodes). node_idle k (node_at s.graph k) (actor_at n.nodes k)
      (right.fits k lt) (waits k lt))
      (λ (ge : length n.nodes ≤ k). ap (λ (a : Actor M). out_by files (out_file a))
      (get_or_past n.nodes k an.Lent ge))
      (cases_lt k (length n.nodes))

  -- all nodes are done
  pub done_idle : AllDone n → (k : ℕ) → out_by files (out_file (actor_at n.nodes k)) ≡ []
  done_idle done = each_idle (λ k lt y e running.
      absurd (subst IsDone (ap (λ (a : Actor M). node_state_at a) e ∙ running) (done k lt)))

  -- no node can step
  pub stuck_idle : IsStuck s (network_state shows n files) → (k : ℕ)
      → out_by files (out_file (actor_at n.nodes k)) ≡ []
  stuck_idle stuck = each_idle waits
    where
      st : State
      st = network_state shows n files

      waits : (k : ℕ) → k < length n.nodes → (y : SinkShown) → actor_at n.nodes k ≡ an.Sink y
          → y.state ≡ Running → out_of files y.file ≡ []
      waits k lt y e running =
          let g = right.graph in
          let c = g.count in
          let here : IsNode s.graph k = omega (arith, lt, c) in
          let x : SinkPart = sink_part (log_of files y.file) y in
          let part : st.part k ≡ OfSink x = ap (λ (a : Actor M). part_of shows files a) e in
          let wait = stuck.each k (here, ap (λ (q : Part). node_state_of q) part ∙ running) in
          by_wait wait.0 wait.1 wait.2 part
        where
          by_wait : (full : Bool) (p : ℕ) → WaitsFor s st k full p
              → st.part k ≡ OfSink (sink_part (log_of files y.file) y) → out_of files y.file ≡ []
          by_wait true p w part = full_idle s st k p (node_at s.graph k) (st.part k) _ w part
          by_wait false p w part = empty_idle s st k p (node_at s.graph k) (st.part k) _ w part

-- so nothing is out after a run that has met no fault
pub sound_settled : (plan : Planned) (o : OpenedFiles) (settings : Settings) (old new : FilesShown)
    (result : Outcome) → RunsPlanTo plan o settings old new result → IsSound result
    → IsSettled plan o new
sound_settled plan o settings old new (outcome.Finished status) runs sound k = ⊎_elim
    (λ e. absurd (cc e))
    (λ ends.
    let settles = ends.1 in
    let so = ends.2 in
    let files = so.files in
    settles.still k (ap (λ (f : Option ℕ). out_by ends.0 f) (sym (files.outputs k))
    ∙ done_idle filter_shows
    (setup_of plan o settings.max_capacity settings.bytes settings.block) so.network ends.0 so.right
    so.ends k))
    runs.ends
sound_settled plan o settings old new (outcome.Stalled waits) runs sound k = ⊎_elim
    (λ e. absurd (cc e))
    (λ ends.
    let settles = ends.1 in
    let so = ends.2 in
    let files = so.files in
    let stall = so.ends.0 in
    settles.still k (ap (λ (f : Option ℕ). out_by ends.0 f) (sym (files.outputs k))
    ∙ stuck_idle filter_shows
    (setup_of plan o settings.max_capacity settings.bytes settings.block) so.network ends.0 so.right
    stall.stuck k))
    runs.ends
sound_settled plan o settings old new (outcome.Faulted fault) runs sound k = absurd sound

-- ---- and after any run

-- it touches the files of the plan alone
pub touched_by : (plan : Planned) (o : OpenedFiles) (old mid new : FilesShown)
    → TouchesPlan plan o old mid → SettlesPlan plan o mid new → TouchesPlan plan o old new
touched_by plan o old mid new touches h =
    touches_on (Ins plan o) (Outs plan o) old mid new touches h.touches

-- what was out after a fault was waited for
pub settled_by : (plan : Planned) (o : OpenedFiles) (settings : Settings)
    (old mid new : FilesShown) (result : Outcome) → RunsPlanTo plan o settings old mid result
    → SettlesPlan plan o mid new → ((IsSound result → ⊥) → IsSettled plan o new)
    → IsSettled plan o new
settled_by plan o settings old mid new (outcome.Finished status) runs h failed = λ k.
    h.still k (sound_settled plan o settings old mid (outcome.Finished status) runs tt k)
settled_by plan o settings old mid new (outcome.Stalled waits) runs h failed = λ k.
    h.still k (sound_settled plan o settings old mid (outcome.Stalled waits) runs tt k)
settled_by plan o settings old mid new (outcome.Faulted fault) runs h failed = failed (λ sound. sound)
