-- A stage serves its branches, breaks off, hangs up, or ends: it keeps its case.
use Rattle.std.proofs.Common.{◌≡◌, ◌≢◌, ℕ, suc, ◌⊎◌, ⊎_elim, inl, inr, Bool, true, false, not, List}
use Rattle.std.proofs.Common.{[], ◌∷◌, length, map, get_or, refl, sym, ap, ◌∙◌, subst, arith}
use Rattle.std.proofs.Common.{Option, None}
use Rattle.std.proofs.lemmas.Bool.{false≢true}
use Rattle.std.specs.List.{AllZip, concat, AllByRecursion}
use Rattle.machine.specs.Law.{Shown}
use Rattle.machine.specs.Makes.{Makes}
use Rattle.machine.specs.Whole.{StreamAnswer}
use Rattle.machine.specs.Items.{has_close, bytes_of}
use Rattle.machine.specs.declared.piece.Item.{Item}
use Rattle.machine.specs.declared.protocol.Want.TheVariants.{Finished}
use Rattle.bounded_pipe.specs.Ends.{Writing, Reading, WritesOn}
use Rattle.bounded_pipe.specs.Events.{HangsUp, StillReading}
use Rattle.bounded_pipe.specs.Pipes.{items_taken}
use Rattle.splice_tee.specs.BranchStates.{is_open, NoneOpen, NoneLacks}
use Rattle.splice_tee.specs.declared.branches.Served.{Served}
use Rattle.splice_tee.specs.declared.branches.Served.TheVariants.{Lacks, Has, Gone}
use Rattle.stages.specs.Stages.{BranchKeeps, StageKeeps, AllDropped, AllClosed, is_close}
use Rattle.stages.specs.Owed.{is_finished}
use Rattle.stages.specs.Inlets.{Taking, SameTaking, StillTaking}
use Rattle.stages.specs.inner.Moves.{HangsAllUp, OutletKeeps, Serves, Advances}
use Rattle.stages.specs.Outlets.{Putting, WritesGoOn}
use Rattle.stages.specs.Cases.{part_of, CaseOf}
use Rattle.run_types.specs.declared.node_state.NodeFault.TheVariants as node
use Rattle.run_types.specs.declared.node_state.NodeState.{NodeState}
use Rattle.run_types.specs.declared.node_state.NodeState.TheVariants.{Running, Ended, Broken}
use Rattle.run_types.specs.declared.node_state.NodeState.TheVariants.{Failed}
use Rattle.stages.proofs.lemmas.FeedLaws.{branches_failed}
use Rattle.stages.proofs.lemmas.Ends.{all_still_reading}
use Rattle.stages.proofs.lemmas.GoingOn.{advanced_goes_on}
use Rattle.stages.proofs.lemmas.Inputs.{all_hung}
use Rattle.stages.proofs.Lists.{zip_length, all_carried}
use Rattle.stages.proofs.lemmas.SpentLaws.{front_ends}

-- what a stage keeps does not depend on its state
abbrev Keeps : StreamAnswer → NodeState → Shown → Taking → Putting → Type 0
Keeps answer state m i o = StageKeeps o.block answer (part_of state m i o) i.ends o.ends

restood : (answer : StreamAnswer) (m : Shown) (i : Taking) (o : Putting) (state : NodeState)
    → CaseOf answer Running m i o → Keeps answer state m i o
restood answer m i o state k =
    record {
      made = k.made;
      makes = k.makes;
      lawful = k.lawful;
      inputs = k.inputs;
      branches =
          k.branches;
      front = k.front;
      owed = k.owed;
      together = k.together;
      hung_up = k.hung_up;
    }

pub outlet_of : (answer : StreamAnswer) (m : Shown) (i : Taking) (o : Putting)
    (k : CaseOf answer Running m i o) → OutletKeeps m.wanted k.made o
outlet_of answer m i o k = record { branches = k.branches; front = k.front; owed = k.owed }

dropped_on : (xs ys : List Writing) → AllZip WritesOn xs ys → AllDropped xs → AllDropped ys
dropped_on xs ys a d = all_carried WritesOn (λ w. w.noted ≡ true) (λ w. w.noted ≡ true)
    (λ x y on h. on.noted h) xs ys a d

-- other branches that keep what was made
case_with : (answer : StreamAnswer) (m : Shown) (i : Taking) (o p : Putting) → WritesGoOn o p
    → (k : CaseOf answer Running m i o) → OutletKeeps m.wanted k.made p
    → CaseOf answer Running m i p
case_with answer m i o p on k b =
    record {
      made = k.made;
      makes = k.makes;
      lawful = k.lawful;
      inputs = k.inputs;
      branches = b.branches;
      front = b.front;
      owed = b.owed;
      together = k.together;
      hung_up = λ e. ⊎_elim inl (λ d. inr (dropped_on o.ends p.ends on.ends d)) (k.hung_up e);
    }

pub case_served : (answer : StreamAnswer) (m : Shown) (i : Taking) (b : Bool) (o p : Putting)
    → Serves b o p → CaseOf answer Running m i o → CaseOf answer Running m i p
case_served answer m i b o p s k = case_with answer m i o p s.on k
    (s.keeps m.wanted k.made (outlet_of answer m i o k))

pub case_advanced : (answer : StreamAnswer) (m : Shown) (i : Taking) (finished : Bool)
    (o p : Putting) → Advances finished o p → finished ≡ is_finished m.wanted
    → CaseOf answer Running m i o → CaseOf answer Running m i p
case_advanced answer m i finished o p a f k =
    case_with answer m i o p (advanced_goes_on finished o p a) k
    (a.keeps m.wanted k.made f (outlet_of answer m i o k))

-- memory was refused for a copy of the front piece
pub case_failed : (answer : StreamAnswer) (m : Shown) (i : Taking) (o : Putting)
    → is_close o.front ≡ false → CaseOf answer Running m i o
    → CaseOf answer (Failed node.NoMemory) m i o
case_failed answer m i o e k =
    record {
      branches =
          branches_failed answer o.block k.made (concat o.owed) o.front i.ends o.ends o.served e
          (λ ys h. (m.rest ys, sym (k.makes.splits ys (λ x c. h x (sym (k.makes.closed x) ∙ c)))))
          k.branches;
      count = λ c. absurd (cc);
    }

-- each open branch has Close
closed_at : (block : ℕ) (made owed : List ℕ) (front : Option Item) (w : Writing) (s : Served)
    → is_close front ≡ true → s ≢ Lacks → BranchKeeps block made front owed w s → w.noted ≡ false
    → has_close w.put ≡ true
closed_at block made owed front w Lacks e n b h = absurd (n refl)
closed_at block made owed front w Has e n b h = b.close ∙ e
closed_at block made owed front w Gone e n b h = absurd (false≢true (sym h ∙ b.noted))

all_closed : (block : ℕ) (made owed : List ℕ) (front : Option Item) (ws : List Writing)
    (ss : List Served) → is_close front ≡ true → NoneLacks ss
    → AllZip (BranchKeeps block made front owed) ws ss → AllClosed ws
all_closed block made owed front [] [] e n a = tt
all_closed block made owed front (w ∷ ws) (s ∷ ss) e n a = (
  closed_at block made owed front w s e (n 0) a.0,
  all_closed block made owed front ws ss e (λ k. n (suc k)) a.1,
)
all_closed block made owed front _ _ e n a = absurd a

pub case_over : (answer : StreamAnswer) (m : Shown) (i : Taking) (o : Putting)
    → is_close o.front ≡ true → NoneLacks o.served → (m.wanted ≡ Finished → i.hung_up ≡ true)
    → CaseOf answer Running m i o → CaseOf answer Ended m i o
case_over answer m i o e n h k = (
  restood answer m i o Ended k,
  h (front_ends o.front o.block m.wanted o.owed e k.front),
  all_closed o.block k.made (concat o.owed) o.front o.ends o.served e n k.branches,
)

-- hanging up takes nothing, and neither does a look
pub same_taken : (R : Reading → Reading → Type 0) (rs ss : List Reading)
    → ((r s : Reading) → R r s → s.taken ≡ r.taken) → AllZip R rs ss
    → map items_taken ss ≡ map items_taken rs
same_taken R [] [] h a = refl
same_taken R (r ∷ rs) (s ∷ ss) h a = λ i. h r s a.0 i ∷ same_taken R rs ss h a.1 i
same_taken R _ _ h a = absurd a

-- other inputs from which the same was taken
pub case_from : (answer : StreamAnswer) (state : NodeState) (m : Shown) (i j : Taking) (o : Putting)
    → map items_taken j.ends ≡ map items_taken i.ends → length i.ends ≡ length j.ends
    → AllByRecursion (λ r. r.hung_up ≡ j.hung_up) j.ends
    → (j.hung_up ≡ true → (m.wanted ≡ Finished) ⊎ AllDropped o.ends) → Keeps answer state m i o
    → Keeps answer state m j o
case_from answer state m i j o taken count together why k =
    record {
      made = k.made;
      makes = subst (λ (l : List (List Item)). Makes answer m (λ x. has_close (get_or l x []))
          (λ x. bytes_of (get_or l x [])) k.made) (sym taken) k.makes;
      lawful = k.lawful;
      inputs = k.inputs ∙ count;
      branches = k.branches;
      front = k.front;
      owed = k.owed;
      together = together;
      hung_up = why;
    }

pub case_hung : (answer : StreamAnswer) (m : Shown) (i j : Taking) (o : Putting) → HangsAllUp i j
    → (m.wanted ≡ Finished) ⊎ AllDropped o.ends → CaseOf answer Running m i o
    → CaseOf answer Running m j o
case_hung answer m i j o h why k =
    case_from answer Running m i j o (same_taken HangsUp i.ends j.ends (λ r s x. x.taken) h.ends)
    (zip_length HangsUp i.ends j.ends h.ends)
    (subst (λ (b : Bool). AllByRecursion (λ r. r.hung_up ≡ b) j.ends) (sym h.hung_up)
    (all_hung i.ends j.ends h.ends)) (λ _. why) k

pub still_taking : (i j : Taking) → SameTaking i j → StillTaking i j
still_taking i j s = record {
  pipes = s.pipes;
  ends =
      all_still_reading i.ends j.ends s.ends;
  hung_up = s.hung_up;
}

pub looked_together : (i j : Taking) → StillTaking i j
    → AllByRecursion (λ r. r.hung_up ≡ i.hung_up) i.ends
    → AllByRecursion (λ r. r.hung_up ≡ j.hung_up) j.ends
looked_together i j s a = all_carried StillReading (λ r. r.hung_up ≡ i.hung_up)
    (λ r. r.hung_up ≡ j.hung_up) (λ r t x h. x.hung_up ∙ (h ∙ sym s.hung_up)) i.ends j.ends s.ends a

pub keeps_from : (answer : StreamAnswer) (state : NodeState) (m : Shown) (i j : Taking)
    (o : Putting) → StillTaking i j → Keeps answer state m i o → Keeps answer state m j o
keeps_from answer state m i j o s k =
    case_from answer state m i j o (same_taken StillReading i.ends j.ends (λ r t x. x.taken) s.ends)
    (zip_length StillReading i.ends j.ends s.ends) (looked_together i j s k.together)
    (λ e. k.hung_up (sym s.hung_up ∙ e)) k

-- no branch is open
none_keeps : (block : ℕ) (made owed more : List ℕ) (front : Option Item) (ws : List Writing)
    (ss : List Served) → NoneOpen ss → AllZip (BranchKeeps block made front owed) ws ss
    → AllZip (BranchKeeps block made None more) ws ss
none_keeps block made owed more front [] [] n a = tt
none_keeps block made owed more front (w ∷ ws) (Gone ∷ ss) n a =
    let b = a.0 in (
      record { bytes = b.bytes; noted = b.noted; close = b.close; tidy = b.tidy },
      none_keeps block made owed more front ws ss (λ k. n (suc k)) a.1,
    )
none_keeps block made owed more front (w ∷ ws) (s ∷ ss) n a = let e = n 0 in absurd (cc)
none_keeps block made owed more front _ _ n a = absurd a

none_dropped : (block : ℕ) (made owed : List ℕ) (front : Option Item) (ws : List Writing)
    (ss : List Served) → NoneOpen ss → AllZip (BranchKeeps block made front owed) ws ss
    → AllDropped ws
none_dropped block made owed front [] [] n a = tt
none_dropped block made owed front (w ∷ ws) (s ∷ ss) n a = (
  a.0.noted ∙ ap (λ x. not (is_open x)) (n 0),
  none_dropped block made owed front ws ss
      (λ k. n (suc k)) a.1,
)
none_dropped block made owed front _ _ n a = absurd a

-- the branches with nothing owed
abbrev pub cleared : Putting → Putting
cleared o = record o { front = None; owed = [] }

case_cleared : (answer : StreamAnswer) (m : Shown) (i : Taking) (o : Putting) → NoneOpen o.served
    → CaseOf answer Running m i o → CaseOf answer Running m i (cleared o)
case_cleared answer m i o none k =
    record {
      made = k.made;
      makes = k.makes;
      lawful = k.lawful;
      inputs = k.inputs;
      branches = none_keeps o.block k.made (concat o.owed)
          [] o.front o.ends o.served none k.branches;
      front = tt;
      owed = λ x d l. absurd (omega (arith, l));
      together = k.together;
      hung_up = k.hung_up;
    }

pub case_broken : (answer : StreamAnswer) (m : Shown) (i j : Taking) (o : Putting)
    → NoneOpen o.served → HangsAllUp i j → CaseOf answer Running m i o
    → CaseOf answer Broken m j (cleared o)
case_broken answer m i j o none hung k =
    let d : AllDropped o.ends = none_dropped o.block k.made
    (concat o.owed) o.front o.ends o.served none k.branches in (
      restood answer m j (cleared o) Broken
          (case_hung answer m i j (cleared o) hung (inr d) (case_cleared answer m i o none k)),
      hung.hung_up,
      d,
    )
