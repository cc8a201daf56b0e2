-- What a step says of the states before and after it.
use Rattle.std.proofs.Common.{◌≡◌, ℕ, ◌+◌, ◌<◌, ⊎_elim, inl, inr, true, false, List, get_or, refl}
use Rattle.std.proofs.Common.{sym, subst, Option, IsSome}
use Rattle.std.specs.List.{AllZip, HoldsAt}
use Rattle.machine.specs.Law.{Shown}
use Rattle.machine.specs.declared.piece.Item.{Item}
use Rattle.machine.specs.declared.protocol.Want.TheVariants.{Take, Finished}
use Rattle.bounded_pipe.specs.Ends.{Writing}
use Rattle.bounded_pipe.specs.Events.{SameWriting}
use Rattle.splice_tee.specs.BranchStates.{IsLacking, IsFirstLacking, SomeOpen}
use Rattle.splice_tee.specs.declared.branches.Served.{Served}
use Rattle.stages.specs.Stages.{front_size}
use Rattle.stages.specs.Inlets.{Taking, SameTaking, IsDrained, reads}
use Rattle.stages.specs.Outlets.{Putting, IsRefusing, Spent, writes}
use Rattle.stages.specs.inner.Moves.{Serves}
use Rattle.stages.specs.Cases.{WaitsFull, WaitsEmpty}
use Rattle.stages.specs.inner.Staged.{Staged}
use Rattle.stages.specs.inner.Steps.{StepSays, events}
use Rattle.run_types.specs.declared.step.Step.{Step}
use Rattle.run_types.specs.declared.step.Step.TheVariants as step
use Rattle.stages.proofs.lemmas.Ends.{all_same}
use Rattle.stages.proofs.lemmas.Sameness.{same_taking}

-- a change of the front item alone is no event
full_advanced : (m : Shown) (i : Taking) (o q : Putting) (n : Shown) (j : Taking) (p : Putting)
    (k : ℕ) → q.ends ≡ o.ends → WaitsFull m i q n j p k → WaitsFull m i o n j p k
full_advanced m i o q n j p k e w =
    record {
      machine = w.machine;
      inputs = w.inputs;
      ends = subst (λ (l : List Writing). AllZip SameWriting l p.ends) e w.ends;
      front = w.front;
      first = w.first;
      refused =
          λ h lacks d. subst (λ (l : List Writing). IsRefusing (front_size p.front) (get_or l h d))
          e (w.refused h lacks d);
      hung_up = w.hung_up;
    }

empty_advanced : (m : Shown) (i : Taking) (o q : Putting) (n : Shown) (j : Taking) (p : Putting)
    (k : ℕ) → q.ends ≡ o.ends → WaitsEmpty m i q n j p k → WaitsEmpty m i o n j p k
empty_advanced m i o q n j p k e w =
    record {
      machine = w.machine;
      inputs = w.inputs;
      ends = subst (λ (l : List Writing). AllZip SameWriting l p.ends) e w.ends;
      wanted = w.wanted;
      empty = w.empty;
      spent = w.spent;
      opens = w.opens;
    }

pub says_advanced : {M : Type 0} (shows : M → Shown) (s new : Staged M) (q : Putting) (step : Step)
    → q.ends ≡ s.outlet.ends → StepSays shows (record s { outlet = q }) new step
    → StepSays shows s new step
says_advanced shows s new q step.Moved e h =
    subst (λ (l : List Writing). reads s.inlet.ends + writes l < events new) e h
says_advanced shows s new q (step.Waits pipe) e h =
    let full = full_advanced (shows s.machine) s.inlet s.outlet q
    (shows new.machine) new.inlet new.outlet in
    let empty = empty_advanced (shows s.machine) s.inlet s.outlet q
    (shows new.machine) new.inlet new.outlet in
    ⊎_elim (λ w. inl (w.0, w.1, full w.0 e w.2)) (λ w. inr (w.0, w.1, empty w.0 e w.2)) h
says_advanced shows s new q _ e h = h

-- no branch that lacks the front item took it
pub waits_full : (m : Shown) (i : Taking) (o p : Putting) (k : ℕ) → Serves false o p
    → ((h : ℕ) → IsLacking o.served h → HoldsAt (IsRefusing (front_size o.front)) o.ends h)
    → IsSome o.front → IsFirstLacking o.served k → (m.wanted ≡ Finished → i.hung_up ≡ true)
    → WaitsFull m i o m i p k
waits_full m i o p k s refused front first hung =
    let still = s.still refl in
    record {
      machine = refl;
      inputs = same_taking i;
      ends = still.ends;
      front = subst (λ (x : Option Item). IsSome x) (sym still.front) front;
      first = subst (λ (x : List Served). IsFirstLacking x k) (sym still.served) first;
      refused = λ h lacks.
          subst (λ (f : Option Item). HoldsAt (IsRefusing (front_size f)) o.ends h)
          (sym still.front)
          (refused h (subst (λ (x : List Served). IsLacking x h) still.served lacks));
      hung_up = hung;
    }

-- the input that the machine wants gave nothing
pub waits_empty : (m : Shown) (i j : Taking) (o : Putting) (k : ℕ) → SameTaking i j
    → HoldsAt IsDrained i.ends k → m.wanted ≡ Take k → Spent false o → SomeOpen o.served
    → WaitsEmpty m i o m j o k
waits_empty m i j o k same drained want spent opens =
    record {
      machine = refl;
      inputs = same;
      ends = all_same o.ends;
      wanted = want;
      empty =
          drained;
      spent = spent;
      opens = opens;
    }
