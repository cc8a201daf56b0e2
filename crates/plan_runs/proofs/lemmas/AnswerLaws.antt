-- What files hold after a run of a plan, by what its inputs held before it.
use Rattle.std.proofs.Common.{◌≡◌, ℕ, false, List, ◌++◌, Option, Some, None, ◌⊎◌, inl, inr}
use Rattle.std.proofs.Common.{unwrap_or, refl, sym, ap, ◌∙◌, subst, append-nil, append_assoc}
use Rattle.std.specs.Prelude.{slice_get, is_none, option_map, option_and_then}
use Rattle.std.proofs.lemmas.Option.{same_Some, slice_get-map}
use mathlib.Core.List.{IsPrefix}
use Rattle.collector.specs.Files.{FilesShown, ReadLog, SameLogs, nothing_read, AreReadsOf}
use Rattle.collector.specs.Files.{content_for}
use Rattle.collector.specs.Files.{left_of, reads_of}
use Rattle.collector.specs.Nodes.{read_by}
use Rattle.run_types.specs.declared.names.InName.{InName}
use Rattle.run_types.specs.declared.settings.Settings.{Settings}
use Rattle.run_types.specs.Destinations.{destination_of, is_kept}
use Rattle.graphs.specs.Graph.{GraphNode, IsPlan, Reads, Sink, node_at}
use Rattle.planner.specs.Laws.{HasOwnOpenings}
use Rattle.planner.specs.Planned.{Planned, graph_node, graph_of}
use Rattle.planner.specs.declared.plan.Node.{Node}
use Rattle.planner.specs.declared.plan.Node.TheVariants as node
use Rattle.planner.specs.declared.plan.OutOpening.{OutOpening}
use Rattle.openings.specs.Answers.{OpenedFiles, answer_at, own_file}
use Rattle.openings.specs.Contents.{HoldsInputs}
use Rattle.openings.specs.Needs.{IsLeftFor, IsReadByHead}
use Rattle.openings.proofs.Fronts.{exact_front}
use Rattle.machine.specs.FrontLines.{first_lines}
use Rattle.openings.specs.Openings.{OpensAll}
use Rattle.network_laws.specs.Outcome.{AgreesAt, Agree}
use Rattle.network_laws.specs.Sequential.{Contents, answer}
use Rattle.network_laws.specs.State.{Setup}
use Rattle.network_laws.specs.declared.outcome.Outcome.{Outcome}
use Rattle.network_laws.specs.declared.outcome.Outcome.TheVariants as outcome
use Rattle.networks.specs.Turns.{written_by}
use Rattle.step_scheduler.specs.Setups.{setup_of, source_file, source_name, input_file, output_file}
use Rattle.step_scheduler.proofs.Answered.{read_at}
use Rattle.plan_runs.specs.Contents.{contents_of, written_for, HoldsOutputs, LeavesFiles}
use Rattle.plan_runs.specs.Contents.{AnswersFiles, LeavesRests}
use Rattle.plan_runs.specs.InTurn.{SourcesHold}
use Rattle.plan_runs.specs.Placings.{PlacesOrLeaves}
use Rattle.plan_runs.specs.Runs.{RunsPlanTo, TouchesPlan}
use Rattle.plan_runs.proofs.lemmas.LeftLaws.{AreShortened, IsCut, cut_of_end, cut_of_front}
use Rattle.plan_runs.proofs.lemmas.LeftLaws.{same_output, same_status}

-- nothing was read, and that is the beginning of anything
nothing_of : (content : List ℕ) → AreReadsOf content nothing_read
nothing_of content = record { begins = (content, refl); whole = λ e. absurd (cc e) }

module _ (plan : Planned) (o : OpenedFiles) (old then new : FilesShown) (own : HasOwnOpenings plan)
    (all : OpensAll plan o old then)
    (held : HoldsInputs plan o.inputs old then) (touches : TouchesPlan plan o then new) where
  -- a source with a file: what the file of its name held, what was left of that, and what its reads
  -- gave of the rest
  pub record HasHeld (k : ℕ) (name : InName) (file : ℕ) : Type 0 where
    pub content : List ℕ
    pub given : content_for old name ≡ Some content
    pub rest : List ℕ
    pub kept : then.held file ≡ Some rest
    pub is_left : IsLeftFor plan (Some k) content rest
    pub reads : AreReadsOf rest (reads_of new file)

  has_held : (k file : ℕ) (name : InName) → slice_get plan.nodes k ≡ Some (node.Source (Some name))
      → own_file o k ≡ Some file → HasHeld k name file
  has_held k file name at is =
      let r = read_at plan o old then own all k name at in
      let answered : answer_at o.inputs r.place ≡ Some file = sym r.file_is ∙ is in
      let h = held r.place file r.opening r.there answered in
      let called : (let a = r.opening in a.name) ≡ name =
      (let same : Some (node.Source (Some (let a = r.opening in a.name)))
      ≡ Some (node.Source (Some name)) = sym (own.read r.place k r.opening r.there r.for_node)
      ∙ at in cc same) in
      let opens = all.opens in
      let logs = opens.input_logs in
      let fresh : reads_of then file ≡ nothing_read =
      ap (λ (l : Option ReadLog). unwrap_or l nothing_read) (logs.log r.place file answered) in
      record {
        content = h.content;
        given = subst (λ (n : InName). content_for old n ≡ Some h.content) called h.given;
        rest = h.left;
        kept = h.held;
        is_left = subst (λ (n : Option ℕ). IsLeftFor plan n h.content h.left) r.for_node h.is_left;
        reads = touches.in_held file h.left h.held
            (subst (λ (l : ReadLog). AreReadsOf h.left l) (sym fresh) (nothing_of h.left));
      }

  -- no more is read than the first lines, if a head alone reads a source
  rest_at : (k n : ℕ) (name : InName) (content : List ℕ) (m : Option Node) (own_ : Option ℕ)
      → slice_get plan.nodes k ≡ m → own_file o k ≡ own_ → source_name m own_ ≡ Some name
      → IsReadByHead plan k n → content_for old name ≡ Some content
      → IsPrefix (read_by new (source_file m own_)).bytes (first_lines n content)
  rest_at k n name content (Some (node.Source (Some other))) (Some file) at is named head given =
      let same : other ≡ name = same_Some other name named in
      let h = has_held k file other at is in
      let whole : h.content ≡ content = same_Some h.content content
      (sym h.given ∙ (ap (content_for old) same ∙ given)) in
      let first : h.rest ≡ first_lines n h.content = exact_front plan k h.content h.rest h.is_left n
      head in
      let reads = h.reads in
      subst (λ (c : List ℕ). IsPrefix (let l = reads_of new file in l.bytes) (first_lines n c)) whole
      (subst (λ (r : List ℕ). IsPrefix (let l = reads_of new file in l.bytes) r) first reads.begins)
  rest_at k n name content _ own_ at is named head given = absurd (cc named)

  pub leaves_rests : LeavesRests plan o old new
  leaves_rests k n name content head named given =
      rest_at k n name content (slice_get plan.nodes k) (own_file o k) refl refl named head given

  -- what the sources have to give
  abbrev pub left : Contents
  left k = option_and_then then.held (input_file plan o k)

  -- what is left agrees at a node
  holds_at : (k : ℕ) (n : Option Node) (own_ : Option ℕ) → slice_get plan.nodes k ≡ n
      → own_file o k ≡ own_ →
      AgreesAt (option_map graph_node n) (is_none own_)
      (option_and_then then.held (source_file n own_))
      (read_by new (source_file n own_)).bytes (read_by new (source_file n own_)).at_end
  holds_at k (Some (node.Source (Some name))) None at is = refl
  holds_at k (Some (node.Source (Some name))) (Some file) at is =
      let h = has_held k file name at is in
      let reads = h.reads in
      subst (λ (c : Option (List ℕ)). AgreesAt (Some (graph_node (node.Source (Some name)))) false c
      (reads_of new file).bytes (reads_of new file).at_end) (sym h.kept)
      (refl, reads.begins, reads.whole)
  holds_at k _ own_ at is = tt

  -- the sources hold what was left
  pub sources_hold : SourcesHold plan o new left
  sources_hold k =
      subst (λ (n : Option GraphNode). AgreesAt n (is_none (own_file o k)) (left k)
      (read_by new (input_file plan o k)).bytes (read_by new (input_file plan o k)).at_end)
      (sym (slice_get-map graph_node plan.nodes k))
      (holds_at k (slice_get plan.nodes k) (own_file o k) refl refl)

  -- of what the files of their names held
  short_at : (k : ℕ) (n : Option Node) (own_ : Option ℕ) → slice_get plan.nodes k ≡ n
      → own_file o k ≡ own_ →
      (option_and_then then.held (source_file n own_)
      ≡ option_and_then (content_for old) (source_name n own_))
      ⊎ IsCut plan (option_and_then (content_for old) (source_name n own_))
      (option_and_then then.held (source_file n own_)) k
  short_at k (Some (node.Source (Some name))) None at is = inl refl
  short_at k (Some (node.Source (Some name))) (Some file) at is =
      let h = has_held k file name at is in
      elim h.is_left as (λ _. (then.held file ≡ content_for old name)
      ⊎ IsCut plan (content_for old name) (then.held file) k) [
        | inl all ↦ inl (h.kept ∙ (ap (λ (l : List ℕ). Some l) all.0 ∙ sym h.given))
        | inr part ↦
            inr (elim part as
            (λ _. IsCut plan (content_for old name) (then.held file) k) [
              | inl end ↦
                  cut_of_end plan (content_for old name) (then.held file) k h.content h.rest
                  h.given h.kept end
              | inr front ↦
                  cut_of_front plan (content_for old name) (then.held file) k h.content h.rest
                  h.given h.kept front
            ])
      ]
  short_at k _ own_ at is = inl refl

  pub shortened : AreShortened plan (contents_of plan o old) left
  shortened k = short_at k (slice_get plan.nodes k) (own_file o k) refl refl

  -- a prefix of an output of the one answer is one of the other, and so is the front of it
  begins : IsPlan (graph_of plan) → (written out : ℕ → List ℕ)
      → ((k p : ℕ) → node_at (graph_of plan) k ≡ Some Sink → Reads (graph_of plan) k p
      → IsPrefix (written k ++ out k) (answer (graph_of plan) left p))
      → (k p : ℕ) → node_at (graph_of plan) k ≡ Some Sink → Reads (graph_of plan) k p
      → IsPrefix (written k) (answer (graph_of plan) (contents_of plan o old) p)
  begins is_plan written out outputs k p at reads =
      subst (λ (l : List ℕ). IsPrefix (written k) l)
      (same_output plan (contents_of plan o old) left is_plan shortened k p at reads)
      (let whole = outputs k p at reads in
      (out k ++ whole.0, sym (append_assoc (written k) (out k) whole.0) ∙ whole.1))

  module _ (settings : Settings) (result : Outcome)
      (runs : RunsPlanTo plan o settings then new result) where
    abbrev setup : Setup
    setup = setup_of plan o settings.max_capacity settings.bytes settings.block

    agree : Agree setup runs.run left
    agree k =
        let shows = runs.shows in
        let a =
        subst (λ (b : List ℕ). AgreesAt (node_at (graph_of plan) k) (is_none (own_file o k))
        (left k) b (read_by new (input_file plan o k)).at_end) (sym (shows.read k))
        (sources_hold k) in
        subst (λ b. AgreesAt (node_at (graph_of plan) k) (is_none (own_file o k)) (left k)
        (let r = runs.run in r.read k) b) (sym (shows.at_end k)) a

    module _ (holds : HoldsOutputs plan o old new) (IsWritten : List ℕ → List ℕ → Type 0)
        (outputs : (k p : ℕ) → node_at (graph_of plan) k ≡ Some Sink → Reads (graph_of plan) k p
        → IsWritten (let r = runs.run in r.written k)
        (answer (graph_of plan) (contents_of plan o old) p)) where
      is_sink : (place k : ℕ) (a : OutOpening) → slice_get plan.outputs place ≡ Some a
          → a.node ≡ Some k → node_at (graph_of plan) k ≡ Some Sink
      is_sink place k a there for_node = slice_get-map graph_node plan.nodes k
          ∙ ap (option_map graph_node) (own.written place k a there for_node)

      held_with : (place : ℕ) (a : OutOpening) (n : Option ℕ) → a.node ≡ n
          → slice_get plan.outputs place ≡ Some a →
          new.contents (destination_of a.name)
          ≡ Some (left_of (is_kept a.name) (old.contents (destination_of a.name))
          ++ written_for plan o new n)
      held_with place a n for_node there = holds.outputs place a there
          ∙ ap (λ (m : Option ℕ). Some
          (left_of (is_kept a.name) (old.contents (destination_of a.name))
          ++ written_for plan o new m)) for_node

      leaves : LeavesFiles IsWritten plan o old new
      leaves = record {
        written = λ place k p a there for_node reads.
            let shows = runs.shows in (
              written_by new (output_file plan o k),
              subst (λ (b : List ℕ). IsWritten b
                  (answer (graph_of plan) (contents_of plan o old) p)) (shows.written k)
                  (outputs k p (is_sink place k a there for_node) reads),
              held_with place a (Some k) for_node there,
            );
        unwritten = λ place a there none.
            held_with place a None none there
            ∙ ap (λ (l : List ℕ). Some l)
            (append-nil (left_of (is_kept a.name) (old.contents (destination_of a.name))));
        others = holds.others;
      }

  -- the run answers from what the files held to what they hold
  pub answers : IsPlan (graph_of plan) → (settings : Settings) (result : Outcome)
      → RunsPlanTo plan o settings then new result → HoldsOutputs plan o old new
      → AnswersFiles plan o old new result
  answers is_plan settings (outcome.Finished status) runs holds =
      let both = runs.outcome_is left (agree settings (outcome.Finished status) runs) in (
        leaves settings (outcome.Finished status) runs holds (λ bytes whole. bytes ≡ whole)
            (λ k p at reads. (both.0 k p at reads).0
            ∙ same_output plan (contents_of plan o old) left is_plan shortened k p at reads),
        both.1 ∙ same_status plan (contents_of plan o old) left is_plan shortened,
      )
  answers is_plan settings (outcome.Stalled waits) runs holds =
      let is = runs.outcome_is in
      leaves settings (outcome.Stalled waits) runs holds IsPrefix
      (begins is_plan (let r = runs.run in r.written) (let r = runs.run in r.out)
      (is.0 left (agree settings (outcome.Stalled waits) runs)))
  answers is_plan settings (outcome.Faulted fault) runs holds =
      let is = runs.outcome_is in
      leaves settings (outcome.Faulted fault) runs holds IsPrefix
      (begins is_plan (let r = runs.run in r.written) (let r = runs.run in r.out) (let t = is.2 in
      t.0 left (agree settings (outcome.Faulted fault) runs)))

-- ---- the rest of an input that a head alone reads

read_same : (then new : FilesShown) → SameLogs then.inputs new.inputs → (file : Option ℕ)
    → read_by new file ≡ read_by then file
read_same then new same None = refl
read_same then new same (Some file) =
    ap (λ (l : Option ReadLog). unwrap_or l nothing_read) (same file)

-- it is left by a run, and by what comes after that and reads nothing
pub rests_left : (plan : Planned) (o : OpenedFiles) (old opened then new : FilesShown)
    → HasOwnOpenings plan → OpensAll plan o old opened → HoldsInputs plan o.inputs old opened
    → TouchesPlan plan o opened then → SameLogs then.inputs new.inputs → LeavesRests plan o old new
rests_left plan o old opened then new own all held touches same k n name content head named given =
    subst (λ (l : ReadLog). IsPrefix l.bytes (first_lines n content))
    (sym (read_same then new same (input_file plan o k)))
    (leaves_rests plan o old opened then own all held touches k n name content head named given)

-- also if outputs were put in place, or left
pub placed_rests : (plan : Planned) (o : OpenedFiles) (old opened then new : FilesShown)
    (came_to outcome : Outcome) → HasOwnOpenings plan → OpensAll plan o old opened
    → HoldsInputs plan o.inputs old opened → TouchesPlan plan o opened then
    → PlacesOrLeaves plan o came_to then new outcome → LeavesRests plan o old new
placed_rests plan o old opened then new came_to outcome own all held touches places =
    let calls = places.calls in
    rests_left plan o old opened then new own all held touches calls.inputs
