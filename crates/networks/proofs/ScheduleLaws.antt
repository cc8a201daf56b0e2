-- A run of a schedule, step by step.
use Rattle.std.proofs.Common.{◌≡◌, ℕ, ◌+◌, List, [], ◌∷◌, ◌++◌, length-append, refl, sym, ap, ◌∙◌}
use Rattle.std.proofs.Common.{subst}
use Rattle.std.specs.Prelude.{count_by, cond}
use Rattle.std.proofs.lemmas.List.Sums.{sum_by_push}
use Rattle.machine.specs.Law.{Shown}
use Rattle.collector.specs.Files.{FilesShown}
use Rattle.run_types.specs.declared.step.Step.{Step}
use Rattle.network_laws.specs.State.{Setup, State}
use Rattle.run_types.specs.Steps.{is_moved}
use Rattle.network_laws.specs.Steps.{IsStep, StepIs}
use Rattle.networks.specs.Networks.{Networked, IsRight, StepsNode, SaysTruly, network_state}
use Rattle.networks.specs.Turns.{AreScheduled, RunsSchedule}
use Rattle.networks.proofs.Progress.{bit_of}

-- one step more
scheduled_more : (s : Setup) (ks : List ℕ) (k : ℕ) (a b c : State) (f m l : ℕ) (xs : List Step)
    (st : Step) → AreScheduled s ks a b f m xs →
    IsStep s.graph k b c m l → StepIs s b c k st
    → AreScheduled s (ks ++ k ∷ []) a c f l (xs ++ st ∷ [])
scheduled_more s [] k a b c f m l [] st h step is = (
  c,
  l,
  subst (λ (n : ℕ). IsStep s.graph k a c n l) h.1
      (subst (λ (x : State). IsStep s.graph k x c m l) h.0 step),
  subst (λ (x : State). StepIs s x c k st) h.0 is,
  (refl, refl),
)
scheduled_more s [] k a b c f m l (x ∷ xs) st h step is = absurd h
scheduled_more s (j ∷ ks) k a b c f m l [] st h step is = absurd h
scheduled_more s (j ∷ ks) k a b c f m l (x ∷ xs) st h step is =
    (h.0, h.1, h.2, h.3, scheduled_more s ks k h.0 b c h.1 m l xs st h.4 step is)

-- one result more
pub moved_more : (xs : List Step) (st : Step)
    → count_by is_moved (xs ++ st ∷ []) ≡ count_by is_moved xs + bit_of (is_moved st)
moved_more xs st = sum_by_push (λ (x : Step). cond (is_moved x) 1 0) xs st

module _ {M : Type 0} (shows : M → Shown) where
  -- no step
  pub schedule_none : (n : Networked M) (f : FilesShown) → RunsSchedule shows [] n f n f 0
  schedule_none n f = record {
    answers = [];
    count = refl;
    moved_are = refl;
    steps =
        λ s right. (refl, refl);
  }

  -- one step more of a network that stayed right
  pub schedule_more : (ks : List ℕ) (k : ℕ) (n m later : Networked M) (f g h : FilesShown)
      (moved : ℕ) (st : Step) → RunsSchedule shows ks n f m g moved →
      ((s : Setup) → IsRight shows s n f → IsRight shows s m g) → StepsNode shows k m later g h
      → (SaysTruly shows k m later g h st) →
      RunsSchedule shows (ks ++ k ∷ []) n f later h (moved + bit_of (is_moved st))
  schedule_more ks k n m later f g h moved st ran right step says = record {
    answers = ran.answers ++ st ∷ [];
    count = length-append ran.answers (st ∷ [])
        ∙ (ap (λ (i : ℕ). i + 1) ran.count ∙ sym (length-append ks (k ∷ [])));
    moved_are = ap (λ (i : ℕ). i + bit_of (is_moved st)) ran.moved_are
        ∙ sym (moved_more ran.answers st);
    steps = λ s r.
        let now = right s r in
        scheduled_more s ks k (network_state shows n f) (network_state shows m g)
        (network_state shows later h) f.failures g.failures h.failures ran.answers st
        (ran.steps s r) (step s.graph now.graph) (says s now);
  }
