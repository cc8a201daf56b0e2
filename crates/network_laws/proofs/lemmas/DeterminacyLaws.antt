-- Determinacy, node by node in planned order.
use Rattle.std.proofs.Common.{◌≡◌, ℕ, zero, suc, ◌+◌, ◌<◌, ◌||◌, ◌&&◌, Bool, true, false, List, []}
use Rattle.std.proofs.Common.{◌++◌, length, map, Option, Some, None, is_none, refl, sym, ap, ◌∙◌}
use Rattle.std.proofs.Common.{subst, subst₂, ⊎_elim, append-nil, arith}
use Rattle.std.specs.Option.{unwrap_or}
use Rattle.std.specs.List.{concat}
use Rattle.std.proofs.lemmas.Option.{slice_get-get_or}
use Rattle.std.proofs.lemmas.Bool.{false≢true, cases_lt, or_cases}
use mathlib.Core.List.{IsPrefix}
use Rattle.machine.specs.Whole.{inputs_of, WholeAnswer}
use Rattle.machine.specs.Law.{IsEmptyOn}
use Rattle.machine.specs.Makes.{after}
use Rattle.machine.specs.declared.protocol.Presence.{Presence}
use Rattle.machine.specs.declared.piece.Item.{Item}
use Rattle.machine.specs.declared.piece.Item.TheVariants.{Bytes, Close}
use Rattle.machine.specs.declared.protocol.Want.{Want}
use Rattle.machine.specs.declared.protocol.Want.TheVariants.{Finished}
use Rattle.bounded_pipe.specs.Ends.{Writing, Reading}
use Rattle.bounded_pipe.specs.Pipes.{bytes_put, bytes_taken}
use Rattle.graphs.specs.Graph.{Graph, GraphNode, Source, Stage, Sink, node_at, writer, IsPipe}
use Rattle.graphs.specs.Graph.{IsNode, Writes, Reads, IsAmong, present, IsPlan}
use Rattle.network_laws.specs.Sequential.{Contents, is_source, is_missing, missing_in, inputs_at}
use Rattle.network_laws.specs.Sequential.{output_of, answer}
use Rattle.collector.specs.Sources.{SourcePart, SourceKeeps, SourceCase, SinkPart, SinkCase}
use Rattle.collector.specs.Sources.{held_bytes}
use Rattle.splice_tee.specs.declared.branches.Served.{Served}
use Rattle.splice_tee.specs.declared.branches.Served.TheVariants.{Lacks, Has, Gone}
use Rattle.stages.specs.Stages.{StagePart, BytesAre, BranchKeeps, BranchFailed, FrontIs, StageKeeps}
use Rattle.stages.specs.Stages.{StageCase, front_bytes, has_end, bytes_on, ended_on}
use Rattle.network_laws.specs.State.{Part, OfSource, Setup, State, NodeCase, IsLawful, told}
use Rattle.network_laws.specs.State.{answer_of, node_state_of, NoNode, CaseOfSource, CaseOfStage}
use Rattle.network_laws.specs.State.{CaseOfSink}
use Rattle.network_laws.specs.Outcome.{Run, AgreesAt, Agree, HasRead, HasWritten, HasReads}
use Rattle.network_laws.specs.Laws.{EachPipeIsDetermined, EachOutputIsDetermined}
use Rattle.run_types.specs.declared.node_state.NodeState.{NodeState}
use Rattle.run_types.specs.declared.node_state.NodeState.TheVariants.{Running, Ended, Broken}
use Rattle.run_types.specs.declared.node_state.NodeState.TheVariants.{Failed}
use Rattle.network_laws.proofs.lemmas.TakeLaws.{prefix_trans, prefix_all, IsFixed, to_come}
use Rattle.network_laws.proofs.lemmas.TakeLaws.{taken_begins, taken_whole}
use Rattle.network_laws.proofs.AnswerLaws.{inputs_agree, answer_is}
use Rattle.network_laws.proofs.lemmas.BranchLaws.{at_branch, inputs_by_pipe, MayCome, may_come}

-- a number below the number of nodes is that of a node
pub no_node : (g : Graph) (k : ℕ) → IsNode g k → node_at g k ≡ None → ⊥
no_node g k is e = let there = slice_get-get_or g.nodes k Sink is in cc (e, there)

-- a source
keeps_fixed : (block : ℕ) (nothing : Bool) (x : SourcePart) (w : Writing) (list : List ℕ)
    → IsPrefix x.read list → ((x.at_end || nothing) ≡ true → x.read ≡ list)
    → SourceKeeps block nothing x w → IsFixed w list
keeps_fixed block nothing x w list begins all c = record {
  begins = prefix_trans (bytes_put w) x.read list (held_bytes x.held, c.bytes) begins;
  whole = λ h. let d = c.close h in sym (append-nil (bytes_put w))
      ∙ ap (λ o. bytes_put w ++ held_bytes o) (sym d.0) ∙ c.bytes ∙ all d.1;
}

source_fixed : (block : ℕ) (nothing : Bool) (x : SourcePart) (state : NodeState) (w : Writing)
    (list : List ℕ) → IsPrefix x.read list → ((x.at_end || nothing) ≡ true → x.read ≡ list)
    → SourceCase block nothing x state w → IsFixed w list
source_fixed block nothing x Running w list begins all c =
    keeps_fixed block nothing x w list begins all c
source_fixed block nothing x Ended w list begins all c =
    keeps_fixed block nothing x w list begins all c.0
source_fixed block nothing x Broken w list begins all c =
    keeps_fixed block nothing x w list begins all c.0
source_fixed block nothing x (Failed fault) w list begins all c = record {
  begins = prefix_trans (bytes_put w) x.read list c.bytes begins;
  whole = λ h. absurd (false≢true (sym c.unclosed ∙ h));
}

source_unread : (block : ℕ) (nothing : Bool) (x : SourcePart) (state : NodeState) (w : Writing)
    → nothing ≡ true → SourceCase block nothing x state w → x.read ≡ []
source_unread block nothing x Running w e c = c.unread e
source_unread block nothing x Ended w e c = c.0.unread e
source_unread block nothing x Broken w e c = c.0.unread e
source_unread block nothing x (Failed fault) w e c = c.unread e

-- a source that has nothing to read
nothing_fixed : (block : ℕ) (nothing : Bool) (x : SourcePart) (w : Writing) → nothing ≡ true
    → SourceCase block nothing x x.state w → IsFixed w []
nothing_fixed block nothing x w e c =
    let n = source_unread block nothing x x.state w e c in
    source_fixed block nothing x x.state w [] (prefix_all x.read [] n) (λ h. n) c

-- a source that reads a file
file_fixed : (block : ℕ) (content : Option (List ℕ)) (missing : Bool) (read : List ℕ)
    (at_end : Bool) (x : SourcePart) (w : Writing)
    → AgreesAt (Some (Source false)) missing content read at_end → HasRead (OfSource x) read at_end
    → SourceCase block missing x x.state w → IsFixed w (unwrap_or content [])
file_fixed block None missing read at_end x w a r c = nothing_fixed block missing x w a c
file_fixed block (Some bytes) missing read at_end x w a r c =
    source_fixed block missing x x.state w bytes (subst (λ l. IsPrefix l bytes) (sym r.0) a.1)
    (λ h. ⊎_elim (λ t. r.0 ∙ a.2 (sym r.1 ∙ t)) (λ t. absurd (false≢true (sym a.0 ∙ t)))
    (or_cases x.at_end missing h)) c

-- a branch: the bytes put are a prefix of what was made, and all of it if Close was put
branch_begins : (made : List ℕ) (front : Option Item) (owed : List ℕ) (w : Writing) (s : Served)
    → BytesAre made front owed w s → IsPrefix (bytes_put w) made
branch_begins made front owed w Lacks b = (front_bytes front ++ owed, b)
branch_begins made None owed w Has b = absurd b
branch_begins made (Some item) owed w Has b = (owed, b)
branch_begins made front owed w Gone b = b

branch_whole : (block : ℕ) (want : Want) (made : List ℕ) (front : Option Item)
    (owed : List (List ℕ)) (w : Writing) (s : Served) → FrontIs block want owed front
    → BytesAre made front (concat owed) w s → has_end front s ≡ true
    → (want ≡ Finished) × (bytes_put w ≡ made)
branch_whole block want made front owed w Lacks f b h = absurd (false≢true h)
branch_whole block want made None owed w Has f b h = absurd b
branch_whole block want made (Some (Bytes piece)) owed w Has f b h = absurd (false≢true h)
branch_whole block want made (Some Close) owed w Has f b h =
    (f.0, sym (append-nil (bytes_put w)) ∙ ap (λ o. bytes_put w ++ concat o) (sym f.1) ∙ b)
branch_whole block want made front owed w Gone f b h = absurd (false≢true h)

branch_fixed : (block : ℕ) (want : Want) (made list : List ℕ) (front : Option Item)
    (owed : List (List ℕ)) (w : Writing) (s : Served) → IsPrefix made list
    → (want ≡ Finished → made ≡ list) → FrontIs block want owed front
    → BranchKeeps block made front (concat owed) w s → IsFixed w list
branch_fixed block want made list front owed w s begins all f c = record {
  begins = prefix_trans (bytes_put w) made list
      (branch_begins made front (concat owed) w s c.bytes) begins;
  whole = λ h. let d = branch_whole block want made front owed w s f c.bytes (sym c.close ∙ h) in
      d.1 ∙ all d.0;
}

module _ (block : ℕ) (filter : WholeAnswer) (missing : ℕ → Bool) (x : StagePart) (st : State)
    (list : ℕ → List ℕ) (inputs branches : List ℕ) where
  -- what the filter makes of its inputs, if they hold these lists
  abbrev ins : List Reading
  ins = map st.reading inputs

  stage_keeps : (presence : List Presence) (zs : List ℕ) → (ys : ℕ → List ℕ)
      → IsEmptyOn (ended_on ins) ys → (answer_of filter presence (after (bytes_on ins) ys)).out ≡ zs
      → (p : ℕ) → IsAmong p branches
      → StageKeeps block (answer_of filter presence) x ins (map st.writing branches)
      → IsFixed (st.writing p) zs
  stage_keeps presence zs ys none e p i c =
      let b = at_branch (BranchKeeps block c.made x.front (concat x.owed)) st.writing p branches
      x.served i c.branches in
      let none' : IsEmptyOn x.machine.closed ys = λ j h. none j (sym (c.makes.closed j) ∙ h) in
      let w : zs ≡ c.made ++ x.machine.rest ys = sym e ∙ c.makes.splits ys none' in
      branch_fixed block x.machine.wanted c.made zs x.front x.owed (st.writing p) b.0
      (x.machine.rest ys, sym w)
      (λ f. sym (append-nil c.made) ∙ ap (λ l. c.made ++ l) (sym (c.lawful.finished f ys none'))
      ∙ sym w) c.front b.1

  stage_fixed : (presence : List Presence) (zs : List ℕ) → (ys : ℕ → List ℕ)
      → IsEmptyOn (ended_on ins) ys → (answer_of filter presence (after (bytes_on ins) ys)).out ≡ zs
      → (p : ℕ) → IsAmong p branches → (state : NodeState)
      → StageCase block (answer_of filter presence) x state ins (map st.writing branches)
      → IsFixed (st.writing p) zs
  stage_fixed presence zs ys none e p i Running c = stage_keeps presence zs ys none e p i c
  stage_fixed presence zs ys none e p i Ended c = stage_keeps presence zs ys none e p i c.0
  stage_fixed presence zs ys none e p i Broken c = stage_keeps presence zs ys none e p i c.0
  stage_fixed presence zs ys none e p i (Failed fault) c =
      let b = at_branch (BranchFailed block (answer_of filter presence) ins) st.writing p branches
      x.served i c.branches in
      record {
        begins = subst (λ l. IsPrefix (bytes_put (st.writing p)) l) e (b.1.bytes ys none);
        whole = λ h. absurd (false≢true (sym b.1.unclosed ∙ h));
      }

-- what two accounts of missing sources say is the same, if they agree on sources
missing_agree : (node : Option GraphNode) (missing : Bool) (content : Option (List ℕ))
    (read : List ℕ) (at_end : Bool) → AgreesAt node missing content read at_end
    → (is_source node && is_none content) ≡ (is_source node && missing)
missing_agree (Some (Source false)) missing None read at_end a = sym a
missing_agree (Some (Source false)) missing (Some bytes) read at_end a = sym a.0
missing_agree _ missing content read at_end a = refl

module _ (s : Setup) (run : Run) (contents : Contents) (agree : Agree s run contents) where
  pub same_missing : (k : ℕ) → is_missing s.graph (missing_in contents) k
      ≡ is_missing s.graph s.missing k
  same_missing k = missing_agree (node_at s.graph k) (s.missing k) (contents k) (run.read k)
      (run.at_end k) (agree k)

  pub same_inputs : (held : ℕ → List ℕ) (inputs : List ℕ)
      → inputs_at s.graph (missing_in contents) held inputs
      ≡ inputs_at s.graph s.missing held inputs
  same_inputs held inputs = inputs_agree s.graph (missing_in contents) s.missing held held inputs
      (λ q i. same_missing (writer s.graph q)) (λ q i. refl)

module _ (s : Setup) (st : State) (run : Run) (contents : Contents) (plan : IsPlan s.graph)
    (lawful : IsLawful s st) (reads : HasReads st run) (agree : Agree s run contents) where
  abbrev IsRight : ℕ → Type 0
  IsRight p = IsFixed (st.writing p) (answer s.graph contents p)

  -- the pipes of a stage, once those that it reads are right
  stage_right : (k p : ℕ) → ((q : ℕ) → IsPipe s.graph q → writer s.graph q < k → IsRight q)
      → Writes s.graph k p → (filter : WholeAnswer) (inputs : List ℕ) (branches : List (Option ℕ))
      (x : StagePart) →
      node_at s.graph k ≡ Some (Stage filter inputs branches)
      → StageCase s.block (answer_of filter (told s inputs)) x x.state (map st.reading inputs)
      (map st.writing (present branches))
      → IsFixed (st.writing p)
      (filter (inputs_at s.graph (missing_in contents) (answer s.graph contents) inputs)).out
  stage_right k p before w filter inputs branches x e c =
      let wired = plan.wired k (Stage filter inputs branches) e in
      let come : MayCome st.reading (answer s.graph contents) inputs =
      may_come st.reading (answer s.graph contents) inputs (λ q i.
      let rd = (wired.0.each q).1 i in
      let lt : writer s.graph q < k = omega (arith, plan.before q rd.0, rd.1) in
      to_come s.block (st.writing q) (st.reading q) (lawful.pipes q rd.0)
      (answer s.graph contents q) (before q rd.0 lt)) in
      let same : inputs_of (told s inputs) (after (bytes_on (map st.reading inputs)) come.rest)
      ≡ inputs_at s.graph (missing_in contents) (answer s.graph contents) inputs =
      inputs_by_pipe (λ q. is_missing s.graph s.missing (writer s.graph q))
      (answer s.graph contents) 0 inputs (after (bytes_on (map st.reading inputs)) come.rest)
      (λ j d lt. let z : 0 + j ≡ j = omega arith in
      ap (after (bytes_on (map st.reading inputs)) come.rest) z ∙ come.whole j d lt)
      ∙ sym (same_inputs s run contents agree (answer s.graph contents) inputs) in
      stage_fixed s.block filter s.missing x st (answer s.graph contents) inputs (present branches)
      (told s inputs) _ come.rest come.none
      (ap (λ (l : List (Option (List ℕ))). (filter l).out) same) p
      ((wired.1.each p).0 w) x.state c

  -- the pipes of a node, once those of the nodes before it are right
  node_right : (k p : ℕ) → ((q : ℕ) → IsPipe s.graph q → writer s.graph q < k → IsRight q)
      → Writes s.graph k p → (node : Option GraphNode) (part : Part) → node_at s.graph k ≡ node
      → NodeCase s st k node part
      → AgreesAt node (s.missing k) (contents k) (run.read k) (run.at_end k)
      → HasRead part (run.read k) (run.at_end k) →
      IsFixed (st.writing p) (output_of s.graph contents (answer s.graph contents) k node)
  node_right k p before w _ _ e NoNode a r =
      let lt : k < length s.graph.nodes =
      omega (arith, plan.before p w.0, plan.within p w.0, w.1) in
      absurd (no_node s.graph k lt e)
  node_right k p before w _ _ e (CaseOfSource {empty = true} {x = x} c) a r =
      nothing_fixed s.block true x (st.writing p) refl (c p w)
  node_right k p before w _ _ e (CaseOfSource {empty = false} {x = x} c) a r =
      file_fixed s.block (contents k) (s.missing k) (run.read k) (run.at_end k) x (st.writing p) a r
      (c p w)
  node_right k p before w _ _ e (CaseOfStage {filter} {inputs} {branches} {x} c) a r =
      stage_right k p before w filter inputs branches x e c
  node_right k p before w _ _ e (CaseOfSink c) a r = absurd ((plan.wired k Sink e).0 p w)

  right_below : (n p : ℕ) → IsPipe s.graph p → writer s.graph p < n → IsRight p
  right_below zero p is lt = absurd (omega arith)
  right_below (suc n) p is lt = ⊎_elim
      (λ below. right_below n p is below)
      (λ above.
      let k = writer s.graph p in
      let e : k ≡ n = omega arith in
      let f = node_right k p (λ q iq lq. right_below n q iq
      (let l : writer s.graph q < n = omega arith in l)) (is, refl) (node_at s.graph k)
      (st.part k) refl (lawful.nodes k) (agree k) (reads k) in
      subst (λ l. IsFixed (st.writing p) l) (sym (answer_is s.graph contents plan p is)) f)
      (cases_lt (writer s.graph p) n)

  pub right : (p : ℕ) → IsPipe s.graph p → IsRight p
  right p is = right_below (suc (writer s.graph p)) p is
      (let l : writer s.graph p < suc (writer s.graph p) = omega arith in l)

  sink_in_state : (p : ℕ) → IsPipe s.graph p → (x : SinkPart) (state : NodeState)
      → SinkCase x state (st.reading p)
      → IsPrefix (x.written ++ x.held) (answer s.graph contents p)
      × (state ≡ Ended → (x.written ≡ answer s.graph contents p) × (x.held ≡ []))
  sink_in_state p is x state c = by_case state c
    where
      list : List ℕ
      list = answer s.graph contents p

      begins : IsPrefix (bytes_taken (st.reading p)) list
      begins = taken_begins s.block (st.writing p) (st.reading p) (lawful.pipes p is) list
          (right p is)

      by_case : (state : NodeState) → SinkCase x state (st.reading p)
          → IsPrefix (x.written ++ x.held) list
          × (state ≡ Ended → (x.written ≡ list) × (x.held ≡ []))
      by_case Running d = (subst (λ l. IsPrefix l list) (sym d.bytes) begins, λ e. absurd (cc e))
      by_case Ended d = (
        subst (λ l. IsPrefix l list) (sym d.0.bytes) begins,
        λ e. (
          sym (append-nil x.written) ∙ ap (λ l. x.written ++ l) (sym d.2) ∙ d.0.bytes
              ∙ taken_whole s.block (st.writing p) (st.reading p) (lawful.pipes p is) list
              (right p is) d.1,
          d.2,
        ),
      )
      by_case Broken d = absurd d
      by_case (Failed fault) d = (
        subst (λ l. IsPrefix l list)
            (sym (ap (λ l. x.written ++ l) d.1 ∙ append-nil x.written))
            (prefix_trans _ _ _ d.0 begins),
        λ e. absurd (cc e),
      )

  sink_right : (k p : ℕ) → Reads s.graph k p → (part : Part) → NodeCase s st k (Some Sink) part
      → (written out : List ℕ) → HasWritten part written out
      → IsPrefix (written ++ out) (answer s.graph contents p)
      × (node_state_of part ≡ Ended → (written ≡ answer s.graph contents p) × (out ≡ []))
  sink_right k p r _ (CaseOfSink {x} c) written out h =
      subst₂ (λ l m. IsPrefix (l ++ m) (answer s.graph contents p)
      × (x.state ≡ Ended → (l ≡ answer s.graph contents p) × (m ≡ []))) h.0 h.1
      (sink_in_state p r.0 x x.state (c p r))

pub pipes_determined : EachPipeIsDetermined
pipes_determined s st run contents plan lawful reads agree p is =
    let f = right s st run contents plan lawful reads agree p is in
    (f.begins, f.whole)

pub outputs_determined : EachOutputIsDetermined
outputs_determined s st run contents plan lawful reads writes agree k p e r =
    sink_right s st run contents plan lawful reads agree k p r (st.part k)
    (subst (λ o. NodeCase s st k o (st.part k)) e (lawful.nodes k)) (run.written k) (run.out k)
    (writes k)
