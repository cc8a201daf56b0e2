-- A stage keeps its case when one of its ends is looked at from both sides, or its pipe gets new
-- rings.
use Rattle.std.proofs.Common.{◌≡◌, ℕ, zero, suc, ◌≤◌, ◌^◌, ⊎_elim, inl, inr, true, false, List, []}
use Rattle.std.proofs.Common.{◌∷◌, map, get_or, set, refl, sym, ap, ◌∙◌, subst}
use Rattle.std.specs.List.{AllZip, HoldsAt, concat}
use mathlib.Core.List.{IsPrefix}
use Rattle.machine.specs.Items.{bytes_of, has_close, IsTidy}
use Rattle.machine.specs.Law.{Shown, IsEmptyOn}
use Rattle.machine.specs.Makes.{after}
use Rattle.machine.specs.Whole.{StreamAnswer}
use Rattle.machine.specs.declared.piece.Item.{Item}
use Rattle.bounded_pipe.specs.Ends.{Writing, Reading}
use Rattle.bounded_pipe.specs.Events.{StillWriting, StillReading}
use Rattle.bounded_pipe.specs.Pipes.{items_taken}
use Rattle.splice_tee.specs.declared.branches.Served.{Served}
use Rattle.stages.specs.Stages.{BranchFailed, StageFailed, StageKeeps, AllDropped, AllClosed}
use Rattle.stages.specs.Stages.{bytes_on}
use Rattle.stages.specs.Inlets.{Taking, StillTaking}
use Rattle.stages.specs.Outlets.{Putting}
use Rattle.stages.specs.Cases.{part_of, CaseOf}
use Rattle.run_types.specs.declared.node_state.NodeFault.{NodeFault}
use Rattle.run_types.specs.declared.node_state.NodeState.{NodeState}
use Rattle.run_types.specs.declared.node_state.NodeState.TheVariants.{Running, Ended, Broken}
use Rattle.run_types.specs.declared.node_state.NodeState.TheVariants.{Failed}
use Rattle.stages.proofs.lemmas.Ends.{still_writing, still_reading}
use Rattle.stages.proofs.Lists.{zip_refl, zip_trans, zip_flip, zip_weaker, all_carried}
use Rattle.stages.proofs.lemmas.Sameness.{branches_looked}
use Rattle.stages.proofs.lemmas.StepLaws.{keeps_from, same_taken}

-- one element changes
pub zip_at : {X : Type 0} (R : X → X → Type 0) → ((x : X) → R x x) → (xs : List X) (k : ℕ) (y : X)
    → HoldsAt (λ x. R x y) xs k → AllZip R xs (set xs k y)
zip_at R h [] k y r = tt
zip_at R h (x ∷ xs) zero y r = (r x, zip_refl R h xs)
zip_at R h (x ∷ xs) (suc k) y r = (h x, zip_at R h xs k y r)

-- the branches
dropped_still : (ws vs : List Writing) → AllZip StillWriting ws vs → AllDropped ws → AllDropped vs
dropped_still ws vs a d = all_carried StillWriting (λ w. w.noted ≡ true) (λ w. w.noted ≡ true)
    (λ w v s n. s.noted ∙ n) ws vs a d

closed_still : (ws vs : List Writing) → AllZip StillWriting ws vs → AllClosed ws → AllClosed vs
closed_still ws vs a d = all_carried StillWriting (λ w. w.noted ≡ false
    → has_close w.put ≡ true) (λ w. w.noted ≡ false → has_close w.put ≡ true)
    (λ w v s n e. ap has_close s.put ∙ n (sym s.noted ∙ e)) ws vs a d

failed_branch : (block : ℕ) (answer : StreamAnswer) (ins : List Reading) (v w : Writing)
    (s : Served) → StillWriting w v → BranchFailed block answer ins w s
    → BranchFailed block answer ins v s
failed_branch block answer ins v w s e b =
    record {
      unclosed = ap has_close e.put ∙ b.unclosed;
      bytes = λ ys h. subst (λ (l : List Item). IsPrefix (bytes_of l)
          (answer (after (bytes_on ins) ys)).out) (sym e.put) (b.bytes ys h);
      noted = e.noted ∙ b.noted;
      tidy = subst (λ l. IsTidy block l) (sym e.put) b.tidy;
    }

keeps_out : (answer : StreamAnswer) (state : NodeState) (m : Shown) (i : Taking) (o : Putting)
    (ends : List Writing) → AllZip StillWriting o.ends ends
    → StageKeeps o.block answer (part_of state m i o) i.ends o.ends
    → StageKeeps o.block answer (part_of state m i o) i.ends ends
keeps_out answer state m i o ends s k =
    record {
      made = k.made;
      makes = k.makes;
      lawful = k.lawful;
      inputs = k.inputs;
      branches = branches_looked o.block k.made
          (concat o.owed) o.front o.ends ends o.served s k.branches;
      front = k.front;
      owed = k.owed;
      together = k.together;
      hung_up = λ e. ⊎_elim inl (λ d. inr (dropped_still o.ends ends s d)) (k.hung_up e);
    }

out_by : (answer : StreamAnswer) (state : NodeState) (m : Shown) (i : Taking) (o : Putting)
    (ends : List Writing) → AllZip StillWriting o.ends ends → CaseOf answer state m i o
    → CaseOf answer state m i (record o { ends = ends })
out_by answer Running m i o ends s c = keeps_out answer Running m i o ends s c
out_by answer Ended m i o ends s c =
    (keeps_out answer Ended m i o ends s c.0, c.1, closed_still o.ends ends s c.2)
out_by answer Broken m i o ends s c =
    (keeps_out answer Broken m i o ends s c.0, c.1, dropped_still o.ends ends s c.2)
out_by answer (Failed f) m i o ends s c =
    record {
      branches =
          zip_trans (λ v w. StillWriting w v) (BranchFailed o.block answer i.ends)
          (BranchFailed o.block answer i.ends)
          (failed_branch o.block answer i.ends) ends o.ends o.served
          (zip_flip StillWriting o.ends ends s) c.branches;
      count = c.count;
    }

pub case_grown_out : (answer : StreamAnswer) (state : NodeState) (m : Shown) (i : Taking)
    (o : Putting) (k : ℕ) (end : Writing) → HoldsAt (λ w. StillWriting w end) o.ends k
    → CaseOf answer state m i o → CaseOf answer state m i (record o { ends = set o.ends k end })
case_grown_out answer state m i o k end still c =
    out_by answer state m i o (set o.ends k end)
    (zip_at StillWriting still_writing o.ends k end still) c

-- the inputs
failed_input : (block : ℕ) (answer : StreamAnswer) (f : NodeFault) (m : Shown) (i j : Taking)
    (o : Putting) → map items_taken j.ends ≡ map items_taken i.ends
    → StageFailed block answer f (part_of (Failed f) m i o) i.ends o.ends
    → StageFailed block answer f (part_of (Failed f) m j o) j.ends o.ends
failed_input block answer f m i j o e c =
    record {
      branches = zip_weaker (BranchFailed block answer i.ends) (BranchFailed block answer j.ends)
          (λ w s b. record {
            unclosed = b.unclosed;
            bytes = subst (λ (l : List (List Item)). (ys : ℕ → List ℕ)
                → IsEmptyOn (λ x. has_close (get_or l x [])) ys
                → IsPrefix (bytes_of w.put) (answer (after (λ x. bytes_of (get_or l x [])) ys)).out)
                (sym e) b.bytes;
            noted = b.noted;
            tidy = b.tidy;
          }) o.ends o.served c.branches;
      count = λ g. subst (λ (l : List (List Item)). (ys : ℕ → List ℕ)
          → IsEmptyOn (λ x. has_close (get_or l x [])) ys
          → 2 ^ 63 ≤ (answer (after (λ x. bytes_of (get_or l x [])) ys)).count) (sym e) (c.count g);
    }

in_by : (answer : StreamAnswer) (state : NodeState) (m : Shown) (i j : Taking) (o : Putting)
    → StillTaking i j → CaseOf answer state m i o → CaseOf answer state m j o
in_by answer Running m i j o s c = keeps_from answer Running m i j o s c
in_by answer Ended m i j o s c = (keeps_from answer Ended m i j o s c.0, s.hung_up ∙ c.1, c.2)
in_by answer Broken m i j o s c = (keeps_from answer Broken m i j o s c.0, s.hung_up ∙ c.1, c.2)
in_by answer (Failed f) m i j o s c = failed_input o.block answer f m i j o
    (same_taken StillReading i.ends j.ends (λ r t x. x.taken) s.ends) c

pub case_grown_in : (answer : StreamAnswer) (state : NodeState) (m : Shown) (i : Taking)
    (o : Putting) (k : ℕ) (end : Reading) → HoldsAt (λ r. StillReading r end) i.ends k
    → CaseOf answer state m i o → CaseOf answer state m (record i { ends = set i.ends k end }) o
case_grown_in answer state m i o k end still c =
    in_by answer state m i (record i { ends = set i.ends k end }) o
    (record {
      pipes = refl;
      ends =
          zip_at StillReading still_reading i.ends k end still;
      hung_up = refl;
    }) c
