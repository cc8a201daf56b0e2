-- A turn of a group, stage by stage.
use Rattle.std.proofs.Common.{◌≡◌, ℕ, zero, suc, ◌+◌, ◌<◌, ◌≤◌, List, [], ◌∷◌, ◌++◌, get_or, set}
use Rattle.std.proofs.Common.{length, refl, sym, ap, ◌∙◌, subst, subst₂, arith}
use Rattle.std.specs.Prelude.{count_by}
use Rattle.std.specs.List.{AllZip}
use Rattle.std.proofs.lemmas.List.Sums.{count_by-le-length}
use Rattle.machine.specs.Law.{Shown}
use Rattle.run_types.specs.declared.step.Step.{Step}
use Rattle.stages.specs.inner.Staged.{Staged}
use Rattle.run_types.specs.Steps.{is_moved}
use Rattle.stages.specs.inner.Steps.{StageActs}
use Rattle.networks.proofs.Progress.{bit_of}
use Rattle.networks.proofs.ScheduleLaws.{moved_more}
use Rattle.lending.specs.inner.Loans.{EachActs, StepsEach, GoesOn, Grouped, GroupGoesOn, Turned}

module _ {M : Type 0} (shows : M → Shown) where
  -- the first of these stages, this many, made one step each, with these results, and the others
  -- are as they were
  abbrev Acted : ℕ → List (Staged M) → List (Staged M) → List Step → Type 0
  Acted zero old now answers = (now ≡ old) × (answers ≡ [])
  Acted (suc k) (t ∷ old) (u ∷ now) (step ∷ answers) = StageActs shows t u step
      × Acted k old now answers
  Acted (suc k) old now answers = ⊥

  acted_first : (xs : List (Staged M)) (d u : Staged M) (step : Step) → 0 < length xs
      → StageActs shows (get_or xs 0 d) u step → Acted 1 xs (set xs 0 u) (step ∷ [])
  acted_first [] d u step lt acts = absurd (omega (arith, lt))
  acted_first (t ∷ xs) d u step lt acts = (acts, (refl, refl))

  acted_more : (k : ℕ) (old now : List (Staged M)) (answers : List Step) (d u : Staged M)
      (step : Step) → Acted k old now answers → k < length now
      → StageActs shows (get_or now k d) u step
      → Acted (suc k) old (set now k u) (answers ++ step ∷ [])
  acted_more zero old now answers d u step h lt acts =
      subst₂ (λ (xs : List (Staged M)) (made : List Step). Acted 1 xs (set now 0 u)
      (made ++ step ∷ [])) h.0 (sym h.1) (acted_first now d u step lt acts)
  acted_more (suc k) (t ∷ old) (v ∷ now) (a ∷ answers) d u step h lt acts =
      (h.0, acted_more k old now answers d u step h.1 (omega (arith, lt)) acts)
  acted_more (suc k) _ _ _ d u step h lt acts = absurd h

  acted_all : (xs ys : List (Staged M)) (answers : List Step) → Acted (length xs) xs ys answers
      → EachActs shows xs ys answers
  acted_all [] ys answers h =
      subst₂ (λ (zs : List (Staged M)) (made : List Step). EachActs shows [] zs made) (sym h.0)
      (sym h.1) tt
  acted_all (t ∷ xs) (u ∷ ys) (a ∷ answers) h = (h.0, acted_all xs ys answers h.1)
  acted_all (t ∷ xs) _ _ h = absurd h

  -- the first of these stages, this many, made one step each, and this many steps moved something
  pub record StepsFirst (k : ℕ) (old now : List (Staged M)) (moved : ℕ) : Type 0 where
    pub answers : List Step
    pub acted : Acted k old now answers
    pub moved_are : moved ≡ count_by is_moved answers

  pub none_stepped : (xs : List (Staged M)) → StepsFirst 0 xs xs 0
  none_stepped xs = record { answers = []; acted = (refl, refl); moved_are = refl }

  -- one stage more
  pub one_stepped : (k : ℕ) (old now : List (Staged M)) (moved : ℕ) (t u : Staged M) (step : Step)
      → StepsFirst k old now moved → k < length now → StageActs shows (get_or now k t) u step
      → StepsFirst (k + 1) old (set now k u) (moved + bit_of (is_moved step))
  one_stepped k old now moved t u step h lt acts =
      let next : suc k ≡ k + 1 = omega arith in
      record {
        answers = h.answers ++ step ∷ [];
        acted = subst (λ (i : ℕ). Acted i old (set now k u) (h.answers ++ step ∷ [])) next
            (acted_more k old now h.answers t u step h.acted lt acts);
        moved_are = ap (λ (i : ℕ). i + bit_of (is_moved step)) h.moved_are
            ∙ sym (moved_more h.answers step);
      }

  pub all_stepped : (k : ℕ) (old now : List (Staged M)) (moved : ℕ) → k ≡ length old
      → StepsFirst k old now moved → StepsEach shows old now moved
  all_stepped k old now moved e h = record {
    answers = h.answers;
    each = acted_all old now h.answers (subst (λ (i : ℕ). Acted i old now h.answers) e h.acted);
    moved_are = h.moved_are;
  }

  -- ---- what follows of it

  each_goes : (xs ys : List (Staged M)) (answers : List Step) → EachActs shows xs ys answers
      → AllZip (GoesOn shows) xs ys
  each_goes [] [] answers h = tt
  each_goes (x ∷ xs) (y ∷ ys) (a ∷ answers) h = (
    record { reads = h.0.reads; writes = h.0.writes; case = h.0.case; stays = h.0.stays },
    each_goes xs ys answers h.1,
  )
  each_goes _ _ _ h = absurd h

  each_count : (xs ys : List (Staged M)) (answers : List Step) → EachActs shows xs ys answers
      → length answers ≡ length ys
  each_count [] [] [] h = refl
  each_count (x ∷ xs) (y ∷ ys) (a ∷ answers) h = ap suc (each_count xs ys answers h.1)
  each_count _ _ _ h = absurd h

  -- a turn of a group whose stages were these, and are now those of another list
  pub turned : (places : List ℕ) (stages xs ys zs : List (Staged M)) (old : Grouped M) (moved : ℕ)
      → record { places = places; stages = stages } ≡ old → xs ≡ stages → zs ≡ ys
      → StepsEach shows xs ys moved
      → Turned shows old (record { places = places; stages = zs }) moved
  turned places stages xs ys zs old moved view value items h =
      subst (λ (g : Grouped M). Turned shows g (record { places = places; stages = zs }) moved) view
      record {
        places = refl;
        steps =
            subst₂ (λ (before now : List (Staged M)). StepsEach shows before now moved) value
            (sym items) h;
      }

  pub turned_goes : (old new : Grouped M) (moved : ℕ) → Turned shows old new moved
      → GroupGoesOn shows old new
  turned_goes old new moved t = record {
    places = t.places;
    stages =
        (let h = t.steps in each_goes old.stages new.stages h.answers h.each);
  }

  pub turned_most : (old new : Grouped M) (moved : ℕ) → Turned shows old new moved
      → moved ≤ length new.stages
  turned_most old new moved t =
      let h = t.steps in
      omega (
        arith,
        h.moved_are,
        each_count old.stages new.stages h.answers h.each,
        count_by-le-length is_moved h.answers,
      )
