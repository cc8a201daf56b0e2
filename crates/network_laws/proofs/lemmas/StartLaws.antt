-- A new network is lawful.
use Rattle.std.proofs.Common.{◌≡◌, ℕ, zero, suc, ◌+◌, ◌≤◌, Bool, false, List, [], ◌∷◌, ◌++◌, length}
use Rattle.std.proofs.Common.{map, Option, Some, None, refl, sym, ap, ap₂, ◌∙◌, subst, subst₂}
use Rattle.std.proofs.Common.{append-nil, arith}
use Rattle.std.specs.List.{All, AllZip, AllByRecursion, concat}
use Rattle.std.proofs.lemmas.Bool.{false≢true}
use Rattle.machine.specs.Items.{bytes_of, has_close, IsTidy}
use Rattle.machine.specs.Pieces.{IsPieceLong}
use Rattle.machine.specs.Whole.{Answer, inputs_from, WholeAnswer}
use Rattle.machine.specs.Makes.{after}
use Rattle.machine.specs.declared.piece.Item.{Item}
use Rattle.machine.specs.declared.protocol.Presence.{Presence}
use Rattle.machine.specs.declared.protocol.Presence.TheVariants.{Present, Missing}
use Rattle.bounded_pipe.specs.Ends.{Reading}
use Rattle.bounded_pipe.specs.Sizes.{size_of}
use Rattle.bounded_pipe.specs.Pipes.{items_put, items_taken, bytes_put, IsSound}
use Rattle.graphs.specs.Graph.{GraphNode, node_at, present}
use Rattle.collector.specs.Sources.{SourceKeeps, SourceCase, SinkKeeps, SinkCase}
use Rattle.splice_tee.specs.declared.branches.Served.TheVariants.{Lacks}
use Rattle.stages.specs.Stages.{StagePart, BranchKeeps, FrontIs, StageKeeps, StageCase, taken_on}
use Rattle.stages.specs.Stages.{bytes_on}
use Rattle.network_laws.specs.State.{Part, Setup, State, NodeCase, told, gives_nothing, answer_of}
use Rattle.network_laws.specs.State.{NoNode, CaseOfSource, CaseOfStage, CaseOfSink}
use Rattle.network_laws.specs.Start.{new_source, new_sink, IsNewStage, IsNewPart, IsNew, NoPart}
use Rattle.network_laws.specs.Start.{NewPartOfSource, NewPartOfStage, NewPartOfSink}
use Rattle.network_laws.specs.Laws.{NewIsLawful}

-- an empty list of items
empty_bytes : (items : List Item) → items ≡ [] → bytes_of items ≡ []
empty_bytes items e = ap bytes_of e

empty_unclosed : (items : List Item) → items ≡ [] → has_close items ≡ false
empty_unclosed items e = ap has_close e

empty_tidy : (block : ℕ) (items : List Item) → items ≡ [] → IsTidy block items
empty_tidy block items e = subst (IsTidy block) (sym e) tt

told_long : (s : Setup) (inputs : List ℕ) (reading : ℕ → Reading)
    → length (told s inputs) ≡ length (map reading inputs)
told_long s [] reading = refl
told_long s (p ∷ inputs) reading = ap (λ n. suc n) (told_long s inputs reading)

-- inputs on which the same comes are the same
inputs_pointwise : (i : ℕ) (presence : List Presence) (ys zs : ℕ → List ℕ) → ((j : ℕ) → ys j ≡ zs j)
    → inputs_from i presence ys ≡ inputs_from i presence zs
inputs_pointwise i [] ys zs h = refl
inputs_pointwise i (Present ∷ presence) ys zs h =
    ap₂ (λ (x : List ℕ) (l : List (Option (List ℕ))). Some x ∷ l) (h i)
    (inputs_pointwise (i + 1) presence ys zs h)
inputs_pointwise i (Missing ∷ presence) ys zs h =
    ap (λ (l : List (Option (List ℕ))). None ∷ l) (inputs_pointwise (i + 1) presence ys zs h)

module _ (s : Setup) (st : State) (new : IsNew s st) where
  source_new : (nothing : Bool) (p : ℕ) → SourceKeeps s.block nothing new_source (st.writing p)
  source_new nothing p = record {
    bytes = append-nil (bytes_put (st.writing p))
        ∙ empty_bytes (items_put (st.writing p)) (new.pipes p).put;
    unread = λ e. refl;
    close =
        λ e. absurd (false≢true (sym (empty_unclosed (items_put (st.writing p)) (new.pipes p).put)
        ∙ e));
    held = tt;
    tidy = empty_tidy s.block (items_put (st.writing p)) (new.pipes p).put;
  }

  sink_new : (p : ℕ) → SinkKeeps new_sink (st.reading p)
  sink_new p =
      record {
        bytes = sym (empty_bytes (items_taken (st.reading p)) (new.pipes p).taken);
        stays =
            (new.pipes p).hung_up;
      }

  branches_new : (branches : List ℕ)
      → AllZip (BranchKeeps s.block [] None []) (map st.writing branches)
      (map (λ p. Lacks) branches)
  branches_new [] = tt
  branches_new (p ∷ branches) = (
    record {
      bytes = append-nil (bytes_put (st.writing p))
          ∙ empty_bytes (items_put (st.writing p)) (new.pipes p).put;
      noted = (new.pipes p).noted;
      close = empty_unclosed (items_put (st.writing p)) (new.pipes p).put;
      tidy = empty_tidy s.block (items_put (st.writing p)) (new.pipes p).put;
    },
    branches_new branches,
  )

  inputs_new : (inputs : List ℕ) → AllByRecursion (λ r. r.hung_up ≡ false) (map st.reading inputs)
  inputs_new [] = tt
  inputs_new (p ∷ inputs) = ((new.pipes p).hung_up, inputs_new inputs)

  taken_new : (inputs : List ℕ) (j : ℕ) → taken_on (map st.reading inputs) j ≡ []
  taken_new [] j = refl
  taken_new (p ∷ inputs) zero = (new.pipes p).taken
  taken_new (p ∷ inputs) (suc j) = taken_new inputs j

  stage_new : (filter : WholeAnswer) (inputs branches : List ℕ) (x : StagePart)
      → IsNewStage filter (told s inputs) branches x →
      StageKeeps s.block (answer_of filter (told s inputs)) x (map st.reading inputs)
      (map st.writing branches)
  stage_new filter inputs branches x n =
      let ins = map st.reading inputs in
      let nothing : (ys : ℕ → List ℕ) (j : ℕ) → after (bytes_on ins) ys j ≡ ys j =
      λ ys j. ap (λ l. l ++ ys j) (empty_bytes (taken_on ins j) (taken_new inputs j)) in
      let same : (ys : ℕ → List ℕ) → answer_of filter (told s inputs) (after (bytes_on ins) ys)
      ≡ answer_of filter (told s inputs) ys =
      λ ys. ap filter (inputs_pointwise 0 (told s inputs) (after (bytes_on ins) ys) ys
      (nothing ys)) in
      record {
        made = [];
        makes = record {
          splits = λ ys e. ap (λ (a : Answer). a.out) (same ys) ∙ sym (n.machine.rest ys);
          counts = λ ys e. subst (λ (a : Answer). x.machine.most ys ≤ a.count) (sym (same ys))
              (n.machine.most ys);
          closed = λ j. n.machine.unclosed j
              ∙ sym (empty_unclosed (taken_on ins j) (taken_new inputs j));
        };
        lawful = n.lawful;
        inputs = n.machine.inputs ∙ told_long s inputs st.reading;
        branches =
            subst (λ l. AllZip (BranchKeeps s.block [] x.front (concat x.owed))
            (map st.writing branches) l) (sym n.served)
            (subst₂ (λ f o. AllZip (BranchKeeps s.block [] f (concat o)) (map st.writing branches)
            (map (λ p. Lacks) branches)) (sym n.front) (sym n.owed) (branches_new branches));
        front = subst (FrontIs s.block x.machine.wanted x.owed) (sym n.front) tt;
        owed = subst (All (IsPieceLong s.block)) (sym n.owed) (λ k d lt. absurd (omega arith));
        together = subst (λ h. AllByRecursion (λ r. r.hung_up ≡ h) ins) (sym n.hung_up)
            (inputs_new inputs);
        hung_up = λ h. absurd (false≢true (sym n.hung_up ∙ h));
      }

  node_new : (k : ℕ) (node : Option GraphNode) (part : Part) → IsNewPart s k node part
      → NodeCase s st k node part
  node_new k _ _ NoPart = NoNode
  node_new k _ _ (NewPartOfSource {empty} n) =
      CaseOfSource (λ p w. let gives = gives_nothing s k empty in
      subst (λ y. SourceCase s.block gives y y.state (st.writing p)) (sym n) (source_new gives p))
  node_new k _ _ (NewPartOfStage {filter} {inputs} {branches} {x} n) = CaseOfStage
      (subst (λ d. StageCase s.block (answer_of filter (told s inputs)) x d (map st.reading inputs)
      (map st.writing (present branches))) (sym n.state)
      (stage_new filter inputs (present branches) x n))
  node_new k _ _ (NewPartOfSink n) =
      CaseOfSink (λ p r. subst (λ y. SinkCase y y.state (st.reading p)) (sym n) (sink_new p))

  pipe_new : (p : ℕ) → IsSound s.block (st.writing p) (st.reading p)
  pipe_new p =
      let n = new.pipes p in
      let put : length (items_put (st.writing p)) ≡ 0 = ap length n.put in
      record {
        ends = record {
          pipe = n.pipe;
          order = (items_put (st.writing p), ap (λ l. l ++ items_put (st.writing p)) n.taken);
          within = omega arith;
          light =
              let size : size_of (items_put (st.writing p)) ≡ 0 =
              ap (λ (l : List Item). size_of l) n.put in
              omega arith;
          noted = λ e. absurd (false≢true (sym n.noted ∙ e));
        };
        tidy = empty_tidy s.block (items_put (st.writing p)) n.put;
      }

pub new_lawful : NewIsLawful
new_lawful s st new = record {
  pipes = λ p is. pipe_new s st new p;
  nodes = λ k. node_new s st new k (node_at s.graph k) (st.part k) (new.parts k);
}
