-- A plan whose network was run, and one whose network was refused its memory.
use Rattle.std.proofs.Common.{◌≡◌, ℕ, ◌<◌, List, [], ◌++◌, length, Option, Some, unwrap_or, inl}
use Rattle.std.proofs.Common.{inr, refl, sym, ap, ap₂, ◌∙◌, arith}
use Rattle.std.specs.Prelude.{slice_get}
use Rattle.filters.specs.FilterShows.{filter_shows}
use Rattle.filters.specs.declared.filter.Filter.{Filter}
use Rattle.collector.specs.Files.{FilesShown, WriteLog, nothing_written}
use Rattle.collector.specs.Nodes.{read_by}
use Rattle.collector.specs.declared.fault.RunFault.TheVariants as named
use Rattle.run_types.specs.declared.names.OutName.{OutName}
use Rattle.planner.specs.Planned.{Planned}
use Rattle.planner.specs.declared.plan.Node.{Node}
use Rattle.planner.specs.declared.plan.Node.TheVariants as node
use Rattle.planner.proofs.Opened.{openings_are_own}
use Rattle.openings.specs.Answers.{OpenedFiles, own_file}
use Rattle.openings.specs.Openings.{OpensAll}
use Rattle.network_laws.specs.Outcome.{Run, EachOutputBegins}
use Rattle.network_laws.specs.Outcome as is
use Rattle.network_laws.specs.Sequential.{answer}
use Rattle.network_laws.specs.declared.outcome.Outcome.{Outcome}
use Rattle.network_laws.specs.declared.outcome.Outcome.TheVariants as outcome
use Rattle.collector.proofs.TouchLaws.{touches_more, touches_nothing}
use Rattle.networks.specs.Networks.{Networked, IsReadBy, IsWrittenBy, TouchesNodes, rooms, Face}
use Rattle.networks.proofs.EndLaws.{rooms_within}
use Rattle.networks.specs.Turns.{run_of, input_names, output_names, out_by, written_by}
use Rattle.run_types.specs.declared.settings.Settings.{Settings}
use Rattle.step_scheduler.specs.Setups.{setup_of, sink_file, input_file, output_file, input_name}
use Rattle.step_scheduler.specs.Setups.{output_name, HasFilesOf, IsOfScript}
use Rattle.step_scheduler.proofs.Answered.{sink_fresh}
use Rattle.workers.specs.inner.Runs.{RunsTo}
use Rattle.plan_runs.specs.Runs.{RunsPlanTo, TouchesPlan}
use Rattle.plan_runs.proofs.lemmas.SettleLaws.{settles_none}

module _ (plan : Planned) (opened : OpenedFiles) (settings : Settings)
    (before after : FilesShown) where
  -- the network of a plan was run to this outcome
  pub plan_ran : (n : Networked Filter) (outcome : Outcome) → HasFilesOf plan opened n
      → ((p : ℕ) → p < length plan.pipes → rooms n p ≡ settings.capacity) →
      RunsTo filter_shows (setup_of plan opened settings.max_capacity settings.bytes settings.block)
      n before after outcome → RunsPlanTo plan opened settings before after outcome
  plan_ran n outcome files room ran =
      let same = ran.same in
      let in_of : (k : ℕ) → _ = λ k. (let a = same.nodes k in ap (λ (f : Face). f.in_file) a)
      ∙ files.inputs k in
      let out_of : (k : ℕ) → _ = λ k. (let a = same.nodes k in ap (λ (f : Face). f.out_file) a)
      ∙ files.outputs k in
      record {
        run = run_of ran.new after before.failures [];
        shows = record {
          read = λ k. ap (λ (f : Option ℕ). (read_by after f).bytes) (in_of k);
          at_end = λ k. ap (λ (f : Option ℕ). (read_by after f).at_end) (in_of k);
          written = λ k. ap (λ (f : Option ℕ). written_by after f) (out_of k);
          out = λ k. ap (λ (f : Option ℕ). out_by after f) (out_of k);
          failures_before = refl;
          failures = refl;
          faults_before = refl;
        };
        room = rooms ran.new;
        rooms = λ p lt. (
          (let more = same.rooms p in let e = room p lt in omega (arith, more, e)),
          rooms_within filter_shows
              (setup_of plan opened settings.max_capacity settings.bytes settings.block) ran.new
              after ran.right p,
        );
        forest = λ f p lt. (let s = ran.forest f in s.rooms p) ∙ room p lt;
        start = rooms n;
        starts = room;
        growths = ran.growths;
        inputs = input_names ran.new;
        sources = λ k. (let a = same.nodes k in ap (λ (f : Face). f.in_name) a)
            ∙ files.input_names k;
        outputs = output_names ran.new;
        sinks = λ k. (let a = same.nodes k in ap (λ (f : Face). f.out_name) a)
            ∙ files.output_names k;
        ends = inr (
          after,
          settles_none plan opened after,
          record {
            network = ran.new;
            files = record {
              inputs = in_of;
              outputs = out_of;
              input_names = λ k. (let a = same.nodes k in ap (λ (f : Face). f.in_name) a)
                  ∙ files.input_names k;
              output_names = λ k. (let a = same.nodes k in ap (λ (f : Face). f.out_name) a)
                  ∙ files.output_names k;
            };
            right = ran.right;
            ends = ran.ends;
          },
        );
        outcome_is = ran.outcome_is;
      }

-- nothing was written to the file of a node, if it is that of a sink, and nothing is out
none_in : (then : FilesShown) (k : ℕ) (n : Option Node) (own : Option ℕ)
    → ((file : ℕ) (name : OutName) → n ≡ Some (node.Sink name) → own ≡ Some file
    → then.outputs file ≡ Some nothing_written)
    → (written_by then (sink_file n own) ≡ []) × (out_by then (sink_file n own) ≡ [])
none_in then k (Some (node.Sink name)) (Some file) fresh = (
  ap (λ (log : Option WriteLog). (unwrap_or log nothing_written).bytes)
      (fresh file name refl refl),
  ap (λ (log : Option WriteLog). (unwrap_or log nothing_written).out) (fresh file name refl refl),
)
none_in then k _ _ fresh = (refl, refl)

-- nothing was written to the files of a plan that were opened, and nothing is out
pub none_written : (plan : Planned) (opened : OpenedFiles) (old then : FilesShown) → IsOfScript plan
    → OpensAll plan opened old then → (k : ℕ)
    → (written_by then (output_file plan opened k) ≡ [])
    × (out_by then (output_file plan opened k) ≡ [])
none_written plan opened old then of opens k =
    none_in then k (slice_get plan.nodes k) (own_file opened k)
    (λ file name e is. sink_fresh plan opened old then
    (openings_are_own of.script plan of.is_plan) opens k file name e is)

-- its memory was refused to the network of a plan: nothing has been read or written
pub nothing_ran : (plan : Planned) (opened : OpenedFiles) (settings : Settings) (then : FilesShown)
    →
    ((k : ℕ) → (written_by then (output_file plan opened k) ≡ [])
    × (out_by then (output_file plan opened k) ≡ []))
    → RunsPlanTo plan opened settings then then (outcome.Faulted named.NoMemory)
nothing_ran plan opened settings then none =
    let run : Run = record {
      read = λ k. (read_by then (input_file plan opened k)).bytes;
      at_end =
          λ k. (read_by then (input_file plan opened k)).at_end;
      written =
          λ k. written_by then (output_file plan opened k);
      out = λ k. out_by then (output_file plan opened k);
      failures_before =
          then.failures;
      failures = then.failures;
      faults_before = [];
    } in
    let s = setup_of plan opened settings.max_capacity settings.bytes settings.block in
    let begins : EachOutputBegins s run =
    λ contents agree k p sink reads. (
      answer s.graph contents p,
      ap (λ (xs : List ℕ). xs ++ answer s.graph contents p)
          (ap₂ (λ (xs ys : List ℕ). xs ++ ys) (none k).0 (none k).1),
    ) in
    record {
      run = run;
      shows = record {
        read = λ k. refl;
        at_end = λ k. refl;
        written = λ k. refl;
        out = λ k. refl;
        failures_before =
            refl;
        failures = refl;
        faults_before = refl;
      };
      room = λ p. settings.capacity;
      rooms = λ p lt. (omega arith, settings.ordered_capacities);
      forest = λ f p lt. refl;
      start = λ p. settings.capacity;
      starts = λ p lt. refl;
      growths = (0, λ p. refl);
      inputs = input_name plan opened;
      sources = λ k. refl;
      outputs = output_name plan;
      sinks = λ k. refl;
      ends = inl refl;
      outcome_is = (is.NoMemory, tt, (begins, tt));
    }

-- a run of the network of a plan touches the files of the plan's nodes
pub plan_touches : (plan : Planned) (opened : OpenedFiles) (before after : FilesShown)
    (n : Networked Filter) → HasFilesOf plan opened n → TouchesNodes n.nodes before after
    → TouchesPlan plan opened before after
plan_touches plan opened before after n files h =
    touches_more (IsReadBy n.nodes) (IsWrittenBy n.nodes)
    (λ file. (k : ℕ) × (input_file plan opened k ≡ Some file))
    (λ file. (k : ℕ) × (output_file plan opened k ≡ Some file)) before after
    (λ file own. (own.0, sym (files.inputs own.0) ∙ own.1))
    (λ file own. (own.0, sym (files.outputs own.0) ∙ own.1)) h

-- no run touches none
pub plan_untouched : (plan : Planned) (opened : OpenedFiles) (now : FilesShown)
    → TouchesPlan plan opened now now
plan_untouched plan opened now = touches_nothing (λ file. (k : ℕ)
    × (input_file plan opened k ≡ Some file)) (λ file. (k : ℕ)
    × (output_file plan opened k ≡ Some file)) now now refl
