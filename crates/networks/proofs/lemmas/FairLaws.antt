-- A schedule of many fair parts brings a run to its end.
use Rattle.std.proofs.Common.{◌≡◌, ℕ, zero, suc, ◌+◌, ◌<◌, ◌≤◌, ◌⊎◌, inl, inr, List, [], ◌++◌, length}
use Rattle.std.proofs.Common.{refl, sym, ap, ◌∙◌, subst, arith, ⊎_elim, append_assoc}
use Rattle.std.proofs.lemmas.Bool.{cases_eq, cases_lt}
use Rattle.machine.specs.Law.{Shown}
use Rattle.collector.specs.Files.{FilesShown}
use Rattle.graphs.specs.Graph.{IsNode}
use Rattle.network_laws.specs.Bounds.{most_progress}
use Rattle.network_laws.specs.State.{Setup, State, node_state_of, IsDone, IsFailed}
use Rattle.network_laws.specs.Steps.{done_below, progress}
use Rattle.network_laws.specs.Waits.{IsStuck}
use Rattle.network_laws.proofs.BoundLaws.{progress_bounded}
use Rattle.network_nodes.specs.inner.Actors.{actor_at}
use Rattle.networks.specs.Bounds.{HasEach, IsFair, WasStuck, EndsFairly}
use Rattle.networks.specs.Networks.{Networked, IsRight, network_state}
use Rattle.networks.specs.Turns.{AllDone, AnyFailed, NoneFailed, faults_below, network_run}
use Rattle.networks.specs.inner.Traces.{StepsAll}
use Rattle.networks.proofs.DecisionLaws.{all_done, is_at_end, some_runs}
use Rattle.networks.proofs.EndLaws.{bytes, lawful, reads, room, state_is, state_sound}
use Rattle.networks.proofs.FaultLaws.{failed_or_not}
use Rattle.networks.proofs.lemmas.CalmLaws.{done_stays, failed_stays, progress_on, schedule_stuck}
use Rattle.networks.proofs.lemmas.TraceLaws.{schedule_of, scheduled_of, steps_append, steps_cut}
use Rattle.networks.proofs.lemmas.TraceLaws.{steps_nodes, steps_right, steps_same}

module _ {M : Type 0} (shows : M → Shown) (s : Setup) where
  abbrev state : Networked M → FilesShown → State
  state n files = network_state shows n files

  -- each node of the graph has ended or broken, and none of them has failed
  abbrev AllAtEnd : State → Type 0
  AllAtEnd st = (k : ℕ) → IsNode s.graph k → IsDone (node_state_of (st.part k))

  abbrev IsUnfailed : State → Type 0
  IsUnfailed st = (k : ℕ) → IsNode s.graph k → IsFailed (node_state_of (st.part k)) → ⊥

  -- after some of the steps the state was stuck
  record WasStuckIn (nodes : List ℕ) (a : Networked M) (f : FilesShown) (b : Networked M)
      (g : FilesShown) : Type 0 where
    first : List ℕ
    rest : List ℕ
    nodes_are : nodes ≡ first ++ rest
    mid : Networked M
    between : FilesShown
    began : StepsAll shows first a f mid between
    stuck : IsStuck s (state mid between)
    went_on : StepsAll shows rest mid between b g

  abbrev HasEnded : List ℕ → Networked M → FilesShown → Networked M → FilesShown → Type 0
  HasEnded nodes a f b g = AllAtEnd (state b g) ⊎ WasStuckIn nodes a f b g

  -- steps before it make no difference
  ended_after : (xs ys : List ℕ) (a b c : Networked M) (f g h : FilesShown)
      → StepsAll shows xs a f b g → HasEnded ys b g c h → HasEnded (xs ++ ys) a f c h
  ended_after xs ys a b c f g h t = ⊎_elim
      (λ (all : AllAtEnd (state c h)). inl all)
      (λ (w : WasStuckIn ys b g c h). inr
      (record {
        first = xs ++ w.first;
        rest = w.rest;
        nodes_are = ap (λ (l : List ℕ). xs ++ l) w.nodes_are
            ∙ sym (append_assoc xs w.first w.rest);
        mid = w.mid;
        between = w.between;
        began = steps_append shows xs w.first a b w.mid f g w.between t w.began;
        stuck = w.stuck;
        went_on = w.went_on;
      }))

  -- after a fair part in which the network came no further it is at its end, or stuck
  at_end_or_stuck : (xs : List ℕ) (a b : Networked M) (f g : FilesShown)
      → StepsAll shows xs a f b g → IsRight shows s a f
      → HasEach (let graph = s.graph in length graph.nodes) xs
      → progress s.graph (state b g) ≤ progress s.graph (state a f) → IsUnfailed (state b g)
      → AllAtEnd (state b g) ⊎ IsStuck s (state b g)
  at_end_or_stuck xs a b f g t right each few sound =
      let count = length s.graph.nodes in
      let now = state b g in
      let later = steps_right shows s xs a b f g t right in
      let steps = scheduled_of shows s xs a b f g t right in
      ⊎_elim
      (λ (e : done_below count now ≡ count). inl (λ k within. is_at_end
      (node_state_of (now.part k)) (all_done count now e k within)))
      (λ (ne : done_below count now ≡ count → ⊥). inr
      (let one = some_runs count now ne sound in
      schedule_stuck s xs (state a f) now f.failures g.failures steps.0 steps.1
      (steps_nodes shows s xs a b f g t right) each few sound
      (lawful shows s b g g.failures [] later) (room shows s b g g.failures [] later)
      (bytes shows s b g g.failures [] later) (one.0, (one.1, one.2))))
      (cases_eq (done_below count now) count)

  -- so the whole schedule has brought it to its end
  ended_by_part : (xs ys : List ℕ) (a b c : Networked M) (f g h : FilesShown)
      → StepsAll shows xs a f b g → StepsAll shows ys b g c h → IsRight shows s a f
      → HasEach (let graph = s.graph in length graph.nodes) xs
      → progress s.graph (state b g) ≤ progress s.graph (state a f) → IsUnfailed (state c h)
      → HasEnded (xs ++ ys) a f c h
  ended_by_part xs ys a b c f g h t u right each few sound =
      let later = steps_right shows s xs a b f g t right in
      let rest = scheduled_of shows s ys b c g h u later in
      ⊎_elim
      (λ (all : AllAtEnd (state b g)). inl (λ k within. done_stays s ys (state b g) (state c h)
      g.failures h.failures rest.0 rest.1 k within (all k within)))
      (λ (stuck : IsStuck s (state b g)). inr
      (record {
        first = xs;
        rest = ys;
        nodes_are = refl;
        mid = b;
        between = g;
        began = t;
        stuck = stuck;
        went_on = u;
      }))
      (at_end_or_stuck xs a b f g t right each few
      (λ k within bad. sound k within (failed_stays s ys (state b g) (state c h) g.failures
      h.failures rest.0 rest.1 k within bad)))

  -- fair parts bring it further, each of them, or to its end
  parts_end : (parts : ℕ) (nodes : List ℕ) (a c : Networked M) (f h : FilesShown)
      → StepsAll shows nodes a f c h → IsRight shows s a f → IsUnfailed (state c h)
      → IsFair (let graph = s.graph in length graph.nodes) parts nodes
      → (parts + progress s.graph (state a f) ≤ progress s.graph (state c h))
      ⊎ HasEnded nodes a f c h
  parts_end zero nodes a c f h t right sound fair =
      let steps = scheduled_of shows s nodes a c f h t right in
      let on = progress_on s nodes (state a f) (state c h) f.failures h.failures steps.0 steps.1 in
      inl (omega (arith, on))
  parts_end (suc parts) nodes a c f h t right sound fair =
      let cut = steps_cut shows fair.0 fair.1 a c f h
      (subst (λ (ns : List ℕ). StepsAll shows ns a f c h) fair.2 t) in
      let later = steps_right shows s fair.0 a cut.0 f cut.1 cut.2 right in
      ⊎_elim
      (λ (more : progress s.graph (state a f) < progress s.graph (state cut.0 cut.1)). ⊎_elim
      (λ (far : parts + progress s.graph (state cut.0 cut.1) ≤ progress s.graph (state c h)).
      inl (omega (arith, more, far)))
      (λ (ended : HasEnded fair.1 cut.0 cut.1 c h). inr
      (subst (λ (ns : List ℕ). HasEnded ns a f c h) (sym fair.2)
      (ended_after fair.0 fair.1 a cut.0 c f cut.1 h cut.2 ended)))
      (parts_end parts fair.1 cut.0 c cut.1 h cut.3 later sound fair.4))
      (λ (few : progress s.graph (state cut.0 cut.1) ≤ progress s.graph (state a f)). inr
      (subst (λ (ns : List ℕ). HasEnded ns a f c h) (sym fair.2)
      (ended_by_part fair.0 fair.1 a cut.0 c f cut.1 h cut.2 cut.3 right fair.3 few sound)))
      (cases_lt (progress s.graph (state a f)) (progress s.graph (state cut.0 cut.1)))

  module _ (nodes : List ℕ) (old new : Networked M) (before after : FilesShown)
      (t : StepsAll shows nodes old before new after) (was : IsRight shows s old before) where
    abbrev still : IsRight shows s new after
    still = steps_right shows s nodes old new before after t was

    -- as the clause says it
    told : HasEnded nodes old before new after
        → AllDone new ⊎ (AnyFailed new ⊎ WasStuck shows s nodes old before new after)
    told = ⊎_elim
        (λ (all : AllAtEnd (state new after)). inl (λ k within.
        subst IsDone (state_is shows after (actor_at new.nodes k))
        (all k (let of = still.graph in omega (arith, within, of.count)))))
        (λ (w : WasStuckIn nodes old before new after). inr (inr
        (record {
          first = w.first;
          rest = w.rest;
          nodes_are = w.nodes_are;
          mid = w.mid;
          between = w.between;
          same = steps_same shows w.first old w.mid before w.between w.began;
          ran = schedule_of shows w.first old w.mid before w.between w.began;
          stuck = w.stuck;
          ran_on = schedule_of shows w.rest w.mid new w.between after w.went_on;
        })))

    pub ends_fairly : EndsFairly shows s nodes old before new after
    ends_fairly contents parts agree more fair = ⊎_elim
        (λ (sound : NoneFailed new).
        let first = state old before in
        let last = state new after in
        let faults = faults_below (length old.nodes) first in
        let count : length old.nodes ≡ length s.graph.nodes = let of = was.graph in of.count in
        let far : progress s.graph last ≤ most_progress s.graph contents =
        progress_bounded s last (network_run shows old before new after) contents was.plan
        (lawful shows s new after before.failures faults still)
        (reads shows s new after before.failures faults still) agree in
        ⊎_elim
        (λ (on : parts + progress s.graph first ≤ progress s.graph last).
        absurd (omega (arith, on, far, more)))
        told
        (parts_end parts nodes old new before after t was
        (state_sound shows after new (length s.graph.nodes)
        (let of = still.graph in sym of.count) sound)
        (subst (λ (n : ℕ). IsFair n parts nodes) count fair)))
        (λ (bad : AnyFailed new). inr (inl bad))
        (failed_or_not new)
