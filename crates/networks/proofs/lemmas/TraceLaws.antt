-- Steps of a schedule, one by one: how they go on, where they can be cut, and that they are a run
-- of the schedule.
use Rattle.std.proofs.Common.{◌≡◌, ℕ, zero, suc, ◌<◌, List, [], ◌∷◌, ◌++◌, length, get_or, refl, sym}
use Rattle.std.proofs.Common.{ap, ap₂, subst, subst₂, arith}
use Rattle.std.specs.Prelude.{count_by}
use Rattle.std.specs.List.{AllByRecursion}
use Rattle.machine.specs.Law.{Shown}
use Rattle.collector.specs.Files.{FilesShown}
use Rattle.run_types.specs.declared.step.Step.{Step}
use Rattle.run_types.specs.Steps.{is_moved}
use Rattle.graphs.specs.Graph.{IsNode}
use Rattle.network_laws.specs.State.{Setup}
use Rattle.networks.specs.Networks.{Networked, SameNetwork, IsRight, network_state}
use Rattle.networks.specs.Turns.{AreScheduled, RunsSchedule}
use Rattle.networks.specs.inner.Traces.{StepsOne, StepsAll}
use Rattle.networks.proofs.Same.{same_refl, same_trans}

-- each number of a list is below the bound
pub below_at : (bound : ℕ) (xs : List ℕ) → AllByRecursion (λ k. k < bound) xs → (i d : ℕ)
    → i < length xs → get_or xs i d < bound
below_at bound [] all i d lt = absurd (omega (arith, lt))
below_at bound (x ∷ xs) all zero d lt = all.0
below_at bound (x ∷ xs) all (suc i) d lt = below_at bound xs all.1 i d (omega (arith, lt))

module _ {M : Type 0} (shows : M → Shown) where
  -- ---- how they go on

  pub steps_append : (xs ys : List ℕ) (a b c : Networked M) (f g h : FilesShown)
      → StepsAll shows xs a f b g → StepsAll shows ys b g c h → StepsAll shows (xs ++ ys) a f c h
  steps_append [] ys a b c f g h t u =
      subst₂ (λ (n : Networked M) (files : FilesShown). StepsAll shows ys n files c h) t.0 t.1 u
  steps_append (x ∷ xs) ys a b c f g h t u =
      (t.0, t.1, t.2, steps_append xs ys t.0 b c t.1 g h t.3 u)

  -- one step more
  pub steps_one_more : (xs : List ℕ) (k : ℕ) (a b c : Networked M) (f g h : FilesShown)
      → StepsAll shows xs a f b g → StepsOne shows k b g c h
      → StepsAll shows (xs ++ k ∷ []) a f c h
  steps_one_more xs k a b c f g h t one =
      steps_append xs (k ∷ []) a b c f g h t (c, h, one, (refl, refl))

  -- they can be cut in two
  pub steps_cut : (xs ys : List ℕ) (a c : Networked M) (f h : FilesShown)
      → StepsAll shows (xs ++ ys) a f c h
      → (b : Networked M) × (g : FilesShown) × StepsAll shows xs a f b g
      × StepsAll shows ys b g c h
  steps_cut [] ys a c f h t = (a, f, (refl, refl), t)
  steps_cut (x ∷ xs) ys a c f h t =
      let r = steps_cut xs ys t.0 c t.1 h t.3 in (r.0, r.1, (t.0, t.1, t.2, r.2), r.3)

  -- ---- what stays

  pub steps_same : (xs : List ℕ) (a b : Networked M) (f g : FilesShown) → StepsAll shows xs a f b g
      → SameNetwork a b
  steps_same [] a b f g t = subst (λ (n : Networked M). SameNetwork a n) (sym t.0) (same_refl a)
  steps_same (x ∷ xs) a b f g t =
      let one = t.2 in same_trans a t.0 b one.same (steps_same xs t.0 b t.1 g t.3)

  pub steps_right : (s : Setup) (xs : List ℕ) (a b : Networked M) (f g : FilesShown)
      → StepsAll shows xs a f b g → IsRight shows s a f → IsRight shows s b g
  steps_right s [] a b f g t right =
      subst₂ (λ (n : Networked M) (files : FilesShown). IsRight shows s n files) (sym t.0)
      (sym t.1) right
  steps_right s (x ∷ xs) a b f g t right =
      let one = t.2 in steps_right s xs t.0 b t.1 g t.3 (one.right s right)

  -- each number is that of a node
  pub steps_nodes : (s : Setup) (xs : List ℕ) (a b : Networked M) (f g : FilesShown)
      → StepsAll shows xs a f b g → IsRight shows s a f
      → AllByRecursion (λ k. IsNode s.graph k) xs
  steps_nodes s [] a b f g t right = tt
  steps_nodes s (x ∷ xs) a b f g t right =
      let one = t.2 in
      let of = right.graph in
      (omega (arith, one.within, of.count), steps_nodes s xs t.0 b t.1 g t.3 (one.right s right))

  -- ---- they are a run of the schedule

  results_of : (xs : List ℕ) (a b : Networked M) (f g : FilesShown) → StepsAll shows xs a f b g
      → List Step
  results_of [] a b f g t = []
  results_of (x ∷ xs) a b f g t =
      let one = t.2 in one.step ∷ results_of xs t.0 b t.1 g t.3

  results_count : (xs : List ℕ) (a b : Networked M) (f g : FilesShown)
      → (t : StepsAll shows xs a f b g) → length (results_of xs a b f g t) ≡ length xs
  unfolding results_of
  results_count [] a b f g t = refl
  results_count (x ∷ xs) a b f g t =
      let rest : length (results_of xs t.0 b t.1 g t.3) ≡ length xs =
      results_count xs t.0 b t.1 g t.3 in
      omega (arith, rest)

  are_scheduled : (s : Setup) (xs : List ℕ) (a b : Networked M) (f g : FilesShown)
      → (t : StepsAll shows xs a f b g) → IsRight shows s a f
      → AreScheduled s xs (network_state shows a f) (network_state shows b g) f.failures g.failures
      (results_of xs a b f g t)
  unfolding results_of
  are_scheduled s [] a b f g t right = (
    ap₂ (λ (n : Networked M) (files : FilesShown). network_state shows n files) t.0 t.1,
    ap (λ (files : FilesShown). files.failures) t.1,
  )
  are_scheduled s (x ∷ xs) a b f g t right =
      let one = t.2 in (
        network_state shows t.0 t.1,
        t.1.failures,
        one.step_is s.graph right.graph,
        one.says s right,
        are_scheduled s xs t.0 b t.1 g t.3 (one.right s right),
      )

  pub scheduled_of : (s : Setup) (xs : List ℕ) (a b : Networked M) (f g : FilesShown)
      → StepsAll shows xs a f b g → IsRight shows s a f
      → (results : List Step) × AreScheduled s xs (network_state shows a f)
      (network_state shows b g) f.failures g.failures results
  scheduled_of s xs a b f g t right =
      (results_of xs a b f g t, are_scheduled s xs a b f g t right)

  pub schedule_of : (xs : List ℕ) (a b : Networked M) (f g : FilesShown)
      → StepsAll shows xs a f b g → (moved : ℕ) × RunsSchedule shows xs a f b g moved
  schedule_of xs a b f g t =
      let results = results_of xs a b f g t in (
        count_by is_moved results,
        record {
          answers = results;
          count = results_count xs a b f g t;
          moved_are = refl;
          steps = λ s right. are_scheduled s xs a b f g t right;
        },
      )
