-- A round of every node.
use Rattle.std.proofs.Common.{◌≡◌, ℕ, suc, ◌+◌, ◌<◌, ◌≤◌, ◌⊎◌, inl, inr, List, [], ◌∷◌, ◌++◌}
use Rattle.std.proofs.Common.{Option, Some, None, length, refl, ap, ◌∙◌, sym, subst, arith}
use Rattle.std.specs.Prelude.{IfSome}
use Rattle.machine.specs.Law.{Shown}
use Rattle.collector.specs.Files.{FilesShown}
use Rattle.run_types.specs.declared.step.Step.{Step}
use Rattle.network_laws.specs.declared.outcome.Outcome.{Outcome}
use Rattle.networks.specs.Networks.{Networked, IsRight, network_state}
use Rattle.graphs.specs.Graph.{IsPipe, IsNode}
use Rattle.network_laws.specs.State.{Part, Setup, State, IsLawful, node_state_of, IsFailed}
use Rattle.network_laws.specs.Waits.{IsRunning, IsStuck}
use Rattle.network_laws.specs.Outcome.{AreWaits}
use Rattle.network_laws.specs.Steps.{SameEnds, IsStep, StepIs, done_below, progress}
use Rattle.networks.specs.Turns.{waits_from, AreSteps, GrowsNext, IsStallOf, NoneMoved}
use Rattle.network_laws.proofs.StepLaws.{same_ends_trans, same_state_refl}
use Rattle.networks.proofs.lemmas.Waits.{AreQuiet, each_stuck, quiet_waits}
use Rattle.networks.proofs.Progress.{done_grows, progress_grows, quiet_ends, quiet_stays}

module _ (s : Setup) where
  -- one step more
  pub steps_more : (k : ℕ) (a b c : State) (f m l : ℕ) (xs : List Step) (st : Step)
      → AreSteps s k a b f m xs → IsStep s.graph (k + length xs) b c m l
      → StepIs s b c (k + length xs) st → AreSteps s k a c f l (xs ++ st ∷ [])
  steps_more k a b c f m l [] st h step is =
      let z : k + 0 ≡ k = omega arith in
      let step' : IsStep s.graph k a c f l =
      subst (λ (n : ℕ). IsStep s.graph k a c n l) h.1
      (subst (λ (x : State). IsStep s.graph k x c m l) h.0
      (subst (λ (i : ℕ). IsStep s.graph i b c m l) z step)) in
      let is' : StepIs s a c k st = subst (λ (x : State). StepIs s x c k st) h.0
      (subst (λ (i : ℕ). StepIs s b c i st) z is) in
      (c, l, step', is', (refl, refl))
  steps_more k a b c f m l (x ∷ xs) st h step is =
      let z : k + length (x ∷ xs) ≡ suc k + length xs = omega arith in (
        h.0,
        h.1,
        h.2,
        h.3,
        steps_more (suc k) h.0 b c h.1 m l xs st h.4
            (subst (λ (i : ℕ). IsStep s.graph i b c m l) z step)
            (subst (λ (i : ℕ). StepIs s b c i st) z is),
      )

  -- the nodes below are as they were
  pub parts_below : (k : ℕ) (a b : State) (f m : ℕ) (xs : List Step) → AreSteps s k a b f m xs
      → (j : ℕ) → IsNode s.graph j → j < k → b.part j ≡ a.part j
  parts_below k a b f m [] h j within lt = ap (λ (x : State). x.part j) h.0
  parts_below k a b f m (x ∷ xs) h j within lt =
      let t = h.2 in
      parts_below (suc k) h.0 b h.1 m xs h.4 j within (omega (arith, lt))
      ∙ t.others j within (λ e. omega (arith, lt, e))

  -- no fewer nodes have ended, and the network came no less far
  pub done_all : (k : ℕ) (a b : State) (f m : ℕ) (xs : List Step) → AreSteps s k a b f m xs
      → done_below (let g = s.graph in length g.nodes) a ≤ done_below (let g = s.graph in
      length g.nodes) b
  done_all k a b f m [] h =
      let e : done_below (let g = s.graph in length g.nodes) b
      ≡ done_below (let g = s.graph in length g.nodes) a =
      ap (λ (x : State). done_below (let g = s.graph in length g.nodes) x) h.0 in
      omega (arith, e)
  done_all k a b f m (x ∷ xs) h =
      let d = done_grows s.graph k a h.0 f h.1 h.2 in
      let r = done_all (suc k) h.0 b h.1 m xs h.4 in
      omega (arith, d, r)

  pub progress_all : (k : ℕ) (a b : State) (f m : ℕ) (xs : List Step) → AreSteps s k a b f m xs
      → progress s.graph a ≤ progress s.graph b
  progress_all k a b f m [] h =
      let e : progress s.graph b ≡ progress s.graph a =
      ap (λ (x : State). progress s.graph x) h.0 in
      omega (arith, e)
  progress_all k a b f m (x ∷ xs) h =
      let d = progress_grows s.graph k a h.0 f h.1 h.2 in
      let r = progress_all (suc k) h.0 b h.1 m xs h.4 in
      omega (arith, d, r)

  -- if nothing moved, no more ended and none has failed, no event happened, and each node is quiet
  -- at the end
  pub quiet_all : (k : ℕ) (a b : State) (f m : ℕ) (xs : List Step) → AreSteps s k a b f m xs
      → k + length xs ≤ (let g = s.graph in length g.nodes) → NoneMoved xs
      → done_below (let g = s.graph in length g.nodes) b ≤ done_below (let g = s.graph in
      length g.nodes) a → ((j : ℕ) → IsNode s.graph j → IsFailed (node_state_of (b.part j)) → ⊥)
      → SameEnds a b × AreQuiet s b k xs
  quiet_all k a b f m [] h within none same sound =
      (subst (λ (x : State). SameEnds a x) (sym h.0) (let t = same_state_refl a in t.ends), tt)
  quiet_all k a b f m (x ∷ xs) h within none same sound =
      let node : IsNode s.graph k = omega (arith, within) in
      let first = done_grows s.graph k a h.0 f h.1 h.2 in
      let rest = done_all (suc k) h.0 b h.1 m xs h.4 in
      let part : b.part k ≡ h.0.part k = parts_below (suc k) h.0 b h.1 m xs h.4 k node
      (omega arith) in
      let q = quiet_ends s.graph k a h.0 f h.1 h.2 s refl node x h.3 none.0
      (omega (arith, first, rest, same))
      (λ bad. sound k node (subst (λ (y : Part). IsFailed (node_state_of y)) (sym part) bad)) in
      let r = quiet_all (suc k) h.0 b h.1 m xs h.4 (omega (arith, within)) none.1
      (omega (arith, first, rest, same)) sound in
      (same_ends_trans a h.0 b q.0 r.0, (quiet_stays s h.0 b k x r.0 part q.1, r.1))

  -- After a round in which nothing moved and no node came to its end nothing can step, and these
  -- are the waits.
  pub round_stuck : (old new : State) (f m : ℕ) (answers : List Step)
      → AreSteps s 0 old new f m answers → length answers ≡ (let g = s.graph in length g.nodes)
      → NoneMoved answers → done_below (let g = s.graph in
      length g.nodes) new ≤ done_below (let g = s.graph in length g.nodes) old →
      ((j : ℕ) → IsNode s.graph j → IsFailed (node_state_of (new.part j)) → ⊥) → IsLawful s new
      → ((p : ℕ) → IsPipe s.graph p → (let w = new.writing p in 0 < w.capacity))
      → ((p : ℕ) → IsPipe s.graph p → (let w = new.writing p in s.block ≤ w.limit))
      → (k : ℕ) × IsRunning s new k → IsStuck s new
      × AreWaits s new (waits_from s.graph 0 answers)
  round_stuck old new f m answers h count none same sound lawful room bytes some =
      let q = quiet_all 0 old new f m answers h (omega (arith, count)) none same sound in (
        record {
          lawful = lawful;
          room = room;
          bytes = bytes;
          no_fault = sound;
          some = some;
          each = λ k running. each_stuck s new 0 answers q.1 k running.1 (omega arith)
              (let within : IsNode s.graph k = running.0 in omega (arith, within, count));
        },
        quiet_waits s new answers count q.1,
      )

-- after a look for a pipe that may grow, the network is as it was, or the next one grew
pub grew_or_kept : {M : Type 0} (shows : M → Shown) (old new : Networked M) (r : Option Outcome)
    → IfSome r (λ _. new ≡ old) → (r ≡ None → GrowsNext shows old new)
    → (new ≡ old) ⊎ GrowsNext shows old new
grew_or_kept shows old new None kept grew = inr (grew refl)
grew_or_kept shows old new (Some outcome) kept grew = inl kept

-- the outcome of a round in which nothing moved, for each setup that the network is right for
abbrev pub IsStallEach : {M : Type 0} → (M → Shown) → Networked M → FilesShown → List Step → Outcome
    → Type 0
IsStallEach shows n files answers outcome =
    (s : Setup) → IsRight shows s n files
    → IsStallOf s (network_state shows n files) answers outcome

pub stall_each : {M : Type 0} (shows : M → Shown) (n : Networked M) (files : FilesShown)
    (answers : List Step) (r : Option Outcome) →
    ((s : Setup) → IsRight shows s n files
    → IfSome r (IsStallOf s (network_state shows n files) answers)) →
    IfSome r (IsStallEach shows n files answers)
stall_each shows n files answers None h = tt
stall_each shows n files answers (Some outcome) h = h
