-- The groups of a plan: each has stages alone, and no stage is in two.
use Rattle.std.proofs.Common.{◌≡◌, ℕ, zero, suc, ◌+◌, ◌-◌, ◌%◌, ◌<◌, ◌≤◌, Bool, true, false, List}
use Rattle.std.proofs.Common.{[], ◌∷◌, length, map, Option, Some, None, inl, inr, refl, sym, subst}
use Rattle.std.proofs.Common.{◌∙◌, ⊎_elim, arith}
use Rattle.std.specs.Prelude.{◌⊎◌, slice_get, option_map}
use Rattle.std.specs.List.{AllByRecursion, filter, range_with_len}
use Rattle.std.specs.Prelude.{cond}
use Rattle.std.proofs.lemmas.List.{length-map}
use Rattle.std.proofs.lemmas.Bool.{eqb-true}
use Rattle.std.proofs.lemmas.Option.{slice_get-map, slice_get_within}
use Rattle.filters.specs.FilterShows.{filter_shows}
use Rattle.filters.specs.declared.filter.Filter.{Filter}
use Rattle.collector.specs.Files.{FilesShown}
use Rattle.graphs.specs.Graph.{GraphNode, AreDistinct, IsAmong}
use Rattle.planner.specs.declared.plan.Node.{Node}
use Rattle.planner.specs.declared.plan.Node.TheVariants as node
use Rattle.planner.specs.inner.Groups.{is_of_group, group_of, group_count, groups_of}
use Rattle.planner.specs.Planned.{Planned, graph_node}
use Rattle.openings.specs.Answers.{OpenedFiles}
use Rattle.network_nodes.specs.declared.actor.Actor.{Actor}
use Rattle.network_nodes.specs.declared.actor.Actor.TheVariants as an
use Rattle.network_nodes.specs.inner.Actors.{actor_at}
use Rattle.networks.specs.Networks.{Networked, FitsAt, IsRight, FitsStage}
use Rattle.network_laws.specs.State.{Setup}
use Rattle.step_scheduler.specs.Setups.{setup_of}
use Rattle.lending.specs.inner.Loans.{IsStageAt, AreSeparate}

abbrev holds : Bool → Type 0
holds true = ⊥
holds false = Unit {0}

-- false is not true
clash : false ≡ true → ⊥
clash e = subst holds e tt

-- ---- what passes of a list

passed_more : (P : ℕ → Type 0) (x : ℕ) (ys : List ℕ) (b : Bool) → (b ≡ true → P x)
    → AllByRecursion P ys → AllByRecursion P (cond b (x ∷ ys) ys)
passed_more P x ys true f h = (f refl, h)
passed_more P x ys false f h = h

-- all that passes has this property
all_passed : (P : ℕ → Type 0) (p : ℕ → Bool) (xs : List ℕ) → ((x : ℕ) → p x ≡ true → P x)
    → AllByRecursion P (filter p xs)
all_passed P p [] f = tt
all_passed P p (x ∷ xs) f = passed_more P x (filter p xs) (p x) (f x) (all_passed P p xs f)

among_more : (q x : ℕ) (ys : List ℕ) (b : Bool) → IsAmong q (cond b (x ∷ ys) ys)
    → ((q ≡ x) × (b ≡ true)) ⊎ IsAmong q ys
among_more q x ys true (inl e) = inl (e, refl)
among_more q x ys true (inr h) = inr h
among_more q x ys false h = inr h

-- what is among it passes, and is no less than the first number
among_passed : (p : ℕ → Bool) (a n q : ℕ) → IsAmong q (filter p (range_with_len a n))
    → (a ≤ q) × (p q ≡ true)
among_passed p a zero q h = absurd h
among_passed p a (suc n) q h = ⊎_elim
    (λ e. (omega (arith, e.0), subst (λ (x : ℕ). p x ≡ true) (sym e.0) e.1))
    (λ r. let m = among_passed p (a + 1) n q r in (omega (arith, m.0), m.1))
    (among_more q a (filter p (range_with_len (a + 1) n)) (p a) h)

distinct_more : (x : ℕ) (ys : List ℕ) (b : Bool) → (IsAmong x ys → ⊥) → AreDistinct ys
    → AreDistinct (cond b (x ∷ ys) ys)
distinct_more x ys true f h = (f, h)
distinct_more x ys false f h = h

-- no number passes twice
distinct_passed : (p : ℕ → Bool) (a n : ℕ) → AreDistinct (filter p (range_with_len a n))
distinct_passed p a zero = tt
distinct_passed p a (suc n) = distinct_more a (filter p (range_with_len (a + 1) n)) (p a)
    (λ h. let m = among_passed p (a + 1) n a h in omega (arith, m.0))
    (distinct_passed p (a + 1) n)

-- ---- no stage stands in two groups

-- a stage is of one group
one_group : (count g h : ℕ) (o : Option Node) → is_of_group count g o ≡ true
    → is_of_group count h o ≡ true → g ≡ h
one_group count g h (Some (node.Stage number spec inputs branches)) a b =
    sym (eqb-true ((number - 1) % count) g a) ∙ eqb-true ((number - 1) % count) h b
one_group count g h _ a b = absurd (clash a)

module _ (nodes : List Node) (count : ℕ) where
  -- no stage of a later group is in this one
  later_apart : (g a n : ℕ) → g < a
      → AllByRecursion (AllByRecursion (λ p. IsAmong p (group_of nodes count g) → ⊥))
      (map (group_of nodes count) (range_with_len a n))
  later_apart g a zero below = tt
  later_apart g a (suc n) below = (
    all_passed (λ p. IsAmong p (group_of nodes count g) → ⊥)
        (λ k. is_of_group count a (slice_get nodes k)) (range_with_len 0 (length nodes))
        (λ p is among.
        let m = among_passed (λ k. is_of_group count g (slice_get nodes k)) 0
        (length nodes) p among in
        let e = one_group count g a (slice_get nodes p) m.1 is in
        omega (arith, e, below)),
    later_apart g (a + 1) n (omega (arith, below)),
  )

  separate : (a n : ℕ) → AreSeparate (map (group_of nodes count) (range_with_len a n))
  separate a zero = tt
  separate a (suc n) = (
    distinct_passed (λ k. is_of_group count a (slice_get nodes k)) 0 (length nodes),
    later_apart a (a + 1) n (omega arith),
    separate (a + 1) n,
  )

  -- each group has what is of a group
  all_of_groups : (P : ℕ → Type 0)
      → ((g k : ℕ) → is_of_group count g (slice_get nodes k) ≡ true → P k) → (a n : ℕ)
      → AllByRecursion (AllByRecursion P) (map (group_of nodes count) (range_with_len a n))
  all_of_groups P f a zero = tt
  all_of_groups P f a (suc n) = (
    all_passed P (λ k. is_of_group count a (slice_get nodes k)) (range_with_len 0 (length nodes))
        (f a),
    all_of_groups P f (a + 1) n,
  )

pub groups_separate : (plan : Planned) (workers : ℕ) → AreSeparate (groups_of plan workers)
groups_separate plan workers =
    let count = group_count plan workers in
    separate plan.nodes count 0 count

-- ---- each group has stages alone

-- what fits a stage of the plan is a stage
fits_stage : (s : Setup) (files : FilesShown) (k count g : ℕ) (o : Option Node) (a : Actor Filter)
    → is_of_group count g o ≡ true → FitsAt filter_shows s files k (option_map graph_node o) a
    → (t : _) × (a ≡ an.Stage t)
fits_stage s files k count g (Some (node.Stage number spec inputs branches)) _ is
    (FitsStage {t = t} ins outs case block) = (t, refl)
fits_stage s files k count g _ a is f = absurd (clash is)

-- it is a node of the plan
of_group_within : (nodes : List Node) (count g k : ℕ) (o : Option Node) → slice_get nodes k ≡ o
    → is_of_group count g o ≡ true → k < length nodes
of_group_within nodes count g k (Some n) e is = slice_get_within nodes k n e
of_group_within nodes count g k None e is = absurd (clash is)

pub groups_staged : (plan : Planned) (opened : OpenedFiles) (most limit block workers : ℕ)
    (n : Networked Filter) (files : FilesShown)
    → IsRight filter_shows (setup_of plan opened most limit block) n files
    → AllByRecursion (AllByRecursion (IsStageAt n.nodes)) (groups_of plan workers)
groups_staged plan opened most limit block workers n files right =
    let count = group_count plan workers in
    let s = setup_of plan opened most limit block in
    let of = right.graph in
    let total : length n.nodes ≡ length plan.nodes = of.count ∙ length-map plan.nodes graph_node in
    all_of_groups plan.nodes count (IsStageAt n.nodes)
    (λ g k is. fits_stage s files k count g (slice_get plan.nodes k) (actor_at n.nodes k) is
    (subst (λ (o : Option GraphNode). FitsAt filter_shows s files k o (actor_at n.nodes k))
    (slice_get-map graph_node plan.nodes k)
    (right.fits k
    (omega (
      arith,
      total,
      of_group_within plan.nodes count g k
          (slice_get plan.nodes k) refl is,
    )))))
    0 count
