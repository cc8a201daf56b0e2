-- A stage that runs, over its parts: s is what its fields show, and t what the contracts speak of.
use Rattle.std.proofs.Common.{◌≡◌, ℕ, List, Bool, sym, ap, ◌∙◌, subst}
use Rattle.machine.specs.Law.{Shown}
use Rattle.machine.specs.Whole.{StreamAnswer}
use Rattle.machine.specs.declared.protocol.Want.TheVariants.{Take}
use Rattle.stages.specs.Owed.{is_finished}
use Rattle.splice_tee.specs.BranchStates.{SomeOpen}
use Rattle.stages.specs.Inlets.{Taking, ReadsGoOn}
use Rattle.stages.specs.Outlets.{Putting, WritesGoOn}
use Rattle.stages.specs.inner.Moves.{Serves, Advances, GoesOn, StateFits}
use Rattle.stages.specs.Cases.{CaseOf}
use Rattle.stages.specs.inner.Staged.{Staged}
use Rattle.stages.specs.inner.Steps.{InCase, StepSays, stage}
use Rattle.run_types.specs.declared.node_state.NodeFault.{NodeFault}
use Rattle.run_types.specs.declared.node_state.NodeState.{NodeState}
use Rattle.run_types.specs.declared.node_state.NodeState.TheVariants.{Running, Ended, Failed}
use Rattle.run_types.specs.declared.step.Step.{Step}
use Rattle.stages.proofs.lemmas.AnswerLaws.{says_advanced}
use Rattle.stages.proofs.lemmas.StepLaws.{case_served, case_advanced}

module _ {M : Type 0} (shows : M → Shown) {s t : Staged M} (is : s ≡ t) where
  -- what is so of the one is so of the other
  pub inside : (P : Shown → Taking → Putting → Type 0) → P (shows t.machine) t.inlet t.outlet
      → P (shows s.machine) s.inlet s.outlet
  inside P h = subst (λ (x : Staged M). P (shows x.machine) x.inlet x.outlet) (sym is) h

  pub outside : (P : Shown → Taking → Putting → Type 0) → P (shows s.machine) s.inlet s.outlet
      → P (shows t.machine) t.inlet t.outlet
  outside P h = subst (λ (x : Staged M). P (shows x.machine) x.inlet x.outlet) is h

  -- a change of the front item alone is no event
  pub said_advanced : (q : Putting) (new : Staged M) (step : Step) → q.ends ≡ s.outlet.ends
      → StepSays shows (record s { outlet = q }) new step → StepSays shows t new step
  said_advanced q new step e h = subst (λ (x : Staged M). StepSays shows x new step) is
      (says_advanced shows s new q step e h)

  -- the input that the machine wants
  pub wants : (k : ℕ) → (shows t.machine).wanted ≡ Take k → (shows s.machine).wanted ≡ Take k
  wants k want = inside (λ m i o. m.wanted ≡ Take k) want

  -- its case
  pub opened : (answer : StreamAnswer) → t.state ≡ Running → InCase shows answer t
      → CaseOf answer Running (shows s.machine) s.inlet s.outlet
  opened answer running k = inside (CaseOf answer Running)
      (subst (λ (x : NodeState). CaseOf answer x (shows t.machine) t.inlet t.outlet) running k)

  -- it still runs
  pub still : (answer : StreamAnswer) (m : Shown) (i : Taking) (o : Putting) → t.state ≡ Running
      → CaseOf answer Running m i o → CaseOf answer s.state m i o
  still answer m i o running k = subst (λ (x : NodeState). CaseOf answer x m i o)
      (sym (ap (λ (x : Staged M). x.state) is ∙ running)) k

  -- its ends go on, and its state fits the result
  pub goes_with : (j : Taking) (p : Putting) (state : NodeState) (step : Step) → ReadsGoOn s.inlet j
      → WritesGoOn s.outlet p → StateFits state step → (state ≡ Ended → SomeOpen p.served)
      → GoesOn t (stage s.machine j p state) step
  goes_with j p state step r w f e =
      record {
        reads_on = outside (λ m i o. ReadsGoOn i j) r;
        writes_on =
            outside (λ m i o. WritesGoOn o p) w;
        state = f;
        ended = e;
      }

  -- the same while it runs on
  pub runs_with : (j : Taking) (p : Putting) (step : Step) → t.state ≡ Running
      → (s.state ≡ Running → StateFits s.state step) → ReadsGoOn s.inlet j → WritesGoOn s.outlet p
      → GoesOn t (stage s.machine j p s.state) step
  runs_with j p step running f r w =
      let on : s.state ≡ Running = ap (λ (x : Staged M). x.state) is ∙ running in
      goes_with j p s.state step r w (f on) (λ e. let ended : Running ≡ Ended = sym on ∙ e in
      absurd (cc))

  -- offers of the front item
  pub served : (answer : StreamAnswer) (b : Bool) (p : Putting) → t.state ≡ Running
      → Serves b s.outlet p → InCase shows answer t → InCase shows answer (record s { outlet = p })
  served answer b p running serves k =
      let m = shows s.machine in
      still answer m s.inlet p running
      (case_served answer m s.inlet b s.outlet p serves (opened answer running k))

  -- a change of the front item
  pub advanced : (answer : StreamAnswer) (finished : Bool) (p : Putting) → t.state ≡ Running
      → Advances finished s.outlet p → finished ≡ is_finished (shows t.machine).wanted
      → InCase shows answer t → InCase shows answer (record s { outlet = p })
  advanced answer finished p running advances f k =
      let m = shows s.machine in
      still answer m s.inlet p running
      (case_advanced answer m s.inlet finished s.outlet p advances
      (inside (λ m i o. finished ≡ is_finished m.wanted) f) (opened answer running k))

  -- an item was taken, and the machine has it
  pub handed : (answer : StreamAnswer) (n : Shown) (j : Taking) (p : Putting) (more : List (List ℕ))
      → t.state ≡ Running → p ≡ record s.outlet { owed = more }
      → (CaseOf answer Running (shows s.machine) s.inlet s.outlet
      → CaseOf answer Running n j (record s.outlet { owed = more })) → InCase shows answer t
      → CaseOf answer s.state n j p
  handed answer n j p more running e h k =
      still answer n j p running (subst (λ (x : Putting). CaseOf answer Running n j x) (sym e)
      (h (opened answer running k)))

  -- and failed
  pub handed_failed : (answer : StreamAnswer) (n : M) (j : Taking) (p : Putting)
      (more : List (List ℕ)) (f : NodeFault) {new : Staged M} → t.state ≡ Running
      → new ≡ stage n j p (Failed f) → p ≡ record s.outlet { owed = more }
      → (CaseOf answer Running (shows s.machine) s.inlet s.outlet
      → CaseOf answer (Failed f) (shows n) j (record s.outlet { owed = more }))
      → InCase shows answer t → InCase shows answer new
  handed_failed answer n j p more f running is e h k =
      subst (λ (x : Staged M). InCase shows answer x) (sym is)
      (subst (λ (x : Putting). CaseOf answer (Failed f) (shows n) j x) (sym e)
      (h (opened answer running k)))
