-- An item was taken of an input: the stage keeps its case.
use Rattle.std.proofs.Common.{◌≡◌, ◌≢◌, ℕ, ◌<◌, ◌≤◌, ◌^◌, ⊎_elim, inr, Bool, true, false, cond, eqb}
use Rattle.std.proofs.Common.{List, [], ◌∷◌, ◌++◌, length, map, get_or, refl, sym, ap, ◌∙◌, subst}
use Rattle.std.proofs.Common.{subst₂, append_assoc, arith, Option, Some, None}
use Rattle.std.specs.Prelude.{◌||◌}
use Rattle.std.proofs.lemmas.Bool.{eqb-true, eqb-false}
use Rattle.std.proofs.lemmas.List.{append-nil, get_or-set_same, get_or-set_other, length-map}
use Rattle.std.specs.List.{All, AllZip, concat}
use mathlib.Core.List.{IsPrefix}
use Rattle.machine.specs.Pieces.{IsPieceLong, queued}
use Rattle.machine.specs.Law.{Shown, IsLawful, IsEmptyOn, Feeds, Closes, IsTooLarge, before}
use Rattle.machine.specs.Law.{with_closed}
use Rattle.machine.specs.Makes.{Makes, after, with_taken}
use Rattle.machine.specs.Whole.{StreamAnswer}
use Rattle.machine.proofs.MakesLaws.{fun_ext, makes_fed, makes_closed, taken_before, empty_before}
use Rattle.machine.proofs.MakesLaws.{too_large_fed, too_large_closed}
use Rattle.machine.specs.Items.{bytes_of, has_close}
use Rattle.machine.specs.declared.piece.Item.{Item}
use Rattle.machine.specs.declared.piece.Item.TheVariants.{Bytes, Close}
use Rattle.machine.specs.declared.protocol.Want.{Want}
use Rattle.machine.specs.declared.protocol.Want.TheVariants.{Take}
use Rattle.machine.specs.declared.protocol.StageFault.{StageFault}
use Rattle.machine.specs.declared.protocol.StageFault.TheVariants as fault
use Rattle.bounded_pipe.specs.Ends.{Writing, Reading, ReadsOn}
use Rattle.bounded_pipe.proofs.Records.{prefix_transitive}
use Rattle.bounded_pipe.specs.Pipes.{items_taken, bytes_put}
use Rattle.splice_tee.specs.declared.branches.Served.{Served}
use Rattle.splice_tee.specs.declared.branches.Served.TheVariants.{Lacks, Has, Gone}
use Rattle.stages.specs.Stages.{BranchKeeps, BranchFailed, FrontIs, is_close, front_bytes, taken_on}
use Rattle.stages.specs.Stages.{bytes_on, ended_on}
use Rattle.stages.specs.Inlets.{Taking}
use Rattle.stages.specs.inner.Moves.{TakesOne, Hands, IsTooLargeWith, node_fault}
use Rattle.stages.specs.Outlets.{Putting}
use Rattle.stages.specs.Cases.{CaseOf}
use Rattle.run_types.specs.declared.node_state.NodeFault.TheVariants as node
use Rattle.run_types.specs.declared.node_state.NodeState.TheVariants.{Running, Failed}
use Rattle.stages.proofs.lemmas.Items.{bytes_push, close_push}
use Rattle.stages.proofs.Lists.{zip_weaker, zip_length}

-- what is on a branch is a prefix of what was made
pub branch_front : (block : ℕ) (made owed : List ℕ) (front : Option Item) (w : Writing) (s : Served)
    → BranchKeeps block made front owed w s → IsPrefix (bytes_put w) made
branch_front block made owed front w Lacks b = (front_bytes front ++ owed, b.bytes)
branch_front block made owed None w Has b = absurd b.bytes
branch_front block made owed (Some item) w Has b = (owed, b.bytes)
branch_front block made owed front w Gone b = b.bytes

-- no Close is on it if Close is not the front item
branch_unclosed : (block : ℕ) (made owed : List ℕ) (front : Option Item) (w : Writing) (s : Served)
    → is_close front ≡ false → BranchKeeps block made front owed w s → has_close w.put ≡ false
branch_unclosed block made owed front w Lacks e b = b.close
branch_unclosed block made owed front w Has e b = b.close ∙ e
branch_unclosed block made owed front w Gone e b = b.close

pub branches_failed : (answer : StreamAnswer) (block : ℕ) (made owed : List ℕ) (front : Option Item)
    (ins : List Reading) (ws : List Writing) (ss : List Served) → is_close front ≡ false
    → ((ys : ℕ → List ℕ) → IsEmptyOn (ended_on ins) ys
    → IsPrefix made (answer (after (bytes_on ins) ys)).out)
    → AllZip (BranchKeeps block made front owed) ws ss
    → AllZip (BranchFailed block answer ins) ws ss
branches_failed answer block made owed front ins ws ss e fronts a =
    zip_weaker (BranchKeeps block made front owed) (BranchFailed block answer ins)
    (λ w s b.
    record {
      unclosed = branch_unclosed block made owed front w s e b;
      bytes = λ ys h. prefix_transitive (bytes_put w) made (answer (after (bytes_on ins) ys)).out
          (branch_front block made owed front w s b) (fronts ys h);
      noted = b.noted;
      tidy = b.tidy;
    })
    ws ss a

-- the machine put out more
branch_fed : (block : ℕ) (made owed more out : List ℕ) (front : Option Item) (w : Writing)
    (s : Served) → more ≡ owed ++ out → BranchKeeps block made front owed w s
    → BranchKeeps block (made ++ out) front more w s
branch_fed block made owed more out front w Lacks e b =
    record {
      bytes = ap (λ l. bytes_of w.put ++ (front_bytes front ++ l)) e
          ∙ (ap (λ l. bytes_of w.put ++ l) (sym (append_assoc (front_bytes front) owed out))
          ∙ (sym (append_assoc (bytes_of w.put) (front_bytes front ++ owed) out)
          ∙ ap (λ l. l ++ out) b.bytes));
      noted = b.noted;
      close = b.close;
      tidy = b.tidy;
    }
branch_fed block made owed more out None w Has e b = absurd b.bytes
branch_fed block made owed more out (Some item) w Has e b =
    record {
      bytes = ap (λ l. bytes_of w.put ++ l) e
          ∙ (sym (append_assoc (bytes_of w.put) owed out) ∙ ap (λ l. l ++ out) b.bytes);
      noted = b.noted;
      close = b.close;
      tidy = b.tidy;
    }
branch_fed block made owed more out front w Gone e b =
    record {
      bytes = prefix_transitive (bytes_of w.put) made (made ++ out) b.bytes
          (out, refl);
      noted = b.noted;
      close = b.close;
      tidy = b.tidy;
    }

front_fed : (block : ℕ) (want want' : Want) (k : ℕ) (owed more : List (List ℕ))
    (front : Option Item) → want ≡ Take k → FrontIs block want owed front
    → FrontIs block want' more front
front_fed block want want' k owed more None e f = tt
front_fed block want want' k owed more (Some (Bytes p)) e f = f
front_fed block want want' k owed more (Some Close) e f = absurd (cc (e, f.0))

front_open : (block : ℕ) (want : Want) (k : ℕ) (owed : List (List ℕ)) (front : Option Item)
    → want ≡ Take k → FrontIs block want owed front → is_close front ≡ false
front_open block want k owed None e f = refl
front_open block want k owed (Some (Bytes p)) e f = refl
front_open block want k owed (Some Close) e f = absurd (cc (e, f.0))

-- what was taken, once an item more was taken
module _ (k : ℕ) (item : Item) (i j : Taking) (l : k < length i.ends)
    (t : TakesOne k item i j) where
  at_same : taken_on j.ends k ≡ taken_on i.ends k ++ item ∷ []
  at_same =
      let n : k < length (map items_taken i.ends) =
      omega (arith, l, length-map i.ends items_taken) in
      ap (λ x. get_or x k []) t.taken
      ∙ get_or-set_same (map items_taken i.ends) k (taken_on i.ends k ++ item ∷ []) [] n

  at_other : (h : ℕ) → h ≢ k → taken_on j.ends h ≡ taken_on i.ends h
  at_other h ne = ap (λ x. get_or x h []) t.taken
      ∙ get_or-set_other (map items_taken i.ends) k h (taken_on i.ends k ++ item ∷ []) [] ne

took_bytes_by : (b : Bool) (k : ℕ) (piece : List ℕ) (i j : Taking) (l : k < length i.ends)
    (t : TakesOne k (Bytes piece) i j) (h : ℕ) → eqb h k ≡ b
    → bytes_on j.ends h ≡ cond b (bytes_on i.ends h ++ piece) (bytes_on i.ends h)
took_bytes_by true k piece i j l t h e =
    let s = eqb-true h k e in
    subst (λ (n : ℕ). bytes_on j.ends n ≡ bytes_on i.ends n ++ piece) (sym s)
    (ap bytes_of (at_same k (Bytes piece) i j l t)
    ∙ bytes_push (taken_on i.ends k) (Bytes piece))
took_bytes_by false k piece i j l t h e =
    ap bytes_of (at_other k (Bytes piece) i j l t h (eqb-false h k e))

took_bytes : (k : ℕ) (piece : List ℕ) (i j : Taking) → k < length i.ends
    → TakesOne k (Bytes piece) i j → bytes_on j.ends ≡ with_taken k piece (bytes_on i.ends)
took_bytes k piece i j l t = fun_ext (λ h. took_bytes_by (eqb h k) k piece i j l t h refl)

took_ends_by : (b : Bool) (k : ℕ) (piece : List ℕ) (i j : Taking) (l : k < length i.ends)
    (t : TakesOne k (Bytes piece) i j) (h : ℕ) → eqb h k ≡ b → ended_on i.ends k ≡ false
    → ended_on j.ends h ≡ ended_on i.ends h
took_ends_by true k piece i j l t h e n =
    let s = eqb-true h k e in
    subst (λ (m : ℕ). ended_on j.ends m ≡ ended_on i.ends m) (sym s)
    (ap has_close (at_same k (Bytes piece) i j l t)
    ∙ (close_push (taken_on i.ends k) (Bytes piece) n ∙ sym n))
took_ends_by false k piece i j l t h e n =
    ap has_close (at_other k (Bytes piece) i j l t h (eqb-false h k e))

took_ends : (k : ℕ) (piece : List ℕ) (i j : Taking) → k < length i.ends
    → TakesOne k (Bytes piece) i j → ended_on i.ends k ≡ false → ended_on j.ends ≡ ended_on i.ends
took_ends k piece i j l t n = fun_ext (λ h. took_ends_by (eqb h k) k piece i j l t h refl n)

ended_bytes_by : (b : Bool) (k : ℕ) (i j : Taking) (l : k < length i.ends)
    (t : TakesOne k Close i j) (h : ℕ) → eqb h k ≡ b → bytes_on j.ends h ≡ bytes_on i.ends h
ended_bytes_by true k i j l t h e =
    let s = eqb-true h k e in
    subst (λ (n : ℕ). bytes_on j.ends n ≡ bytes_on i.ends n) (sym s)
    (ap bytes_of (at_same k Close i j l t)
    ∙ (bytes_push (taken_on i.ends k) Close ∙ append-nil (bytes_on i.ends k)))
ended_bytes_by false k i j l t h e = ap bytes_of (at_other k Close i j l t h (eqb-false h k e))

ended_bytes : (k : ℕ) (i j : Taking) → k < length i.ends → TakesOne k Close i j
    → bytes_on j.ends ≡ bytes_on i.ends
ended_bytes k i j l t = fun_ext (λ h. ended_bytes_by (eqb h k) k i j l t h refl)

ended_ends_by : (b : Bool) (k : ℕ) (i j : Taking) (l : k < length i.ends) (t : TakesOne k Close i j)
    (h : ℕ) → eqb h k ≡ b → ended_on i.ends k ≡ false → ended_on j.ends h ≡ (b || ended_on i.ends h)
ended_ends_by true k i j l t h e n =
    let s = eqb-true h k e in
    subst (λ (m : ℕ). ended_on j.ends m ≡ true) (sym s) (ap has_close (at_same k Close i j l t)
    ∙ close_push (taken_on i.ends k) Close n)
ended_ends_by false k i j l t h e n = ap has_close (at_other k Close i j l t h (eqb-false h k e))

ended_ends : (k : ℕ) (i j : Taking) → k < length i.ends → TakesOne k Close i j
    → ended_on i.ends k ≡ false → ended_on j.ends ≡ with_closed k (ended_on i.ends)
ended_ends k i j l t n = fun_ext (λ h. ended_ends_by (eqb h k) k i j l t h refl n)

-- what is owed once the machine has put out more
abbrev pub with_owed : Putting → List (List ℕ) → Putting
with_owed o more = record o { owed = more }

large_by : (f : StageFault) → node_fault f ≡ node.CountTooLarge → f ≡ fault.CountTooLarge
large_by fault.CountTooLarge e = refl
large_by fault.NoMemory e = absurd (cc)

-- the machine wants one of its inputs
pub input_within : (m : Shown) (i : Taking) (k : ℕ) → IsLawful m → m.wanted ≡ Take k
    → m.inputs ≡ length i.ends → k < length i.ends
input_within m i k lawful want wired =
    let within = (lawful.wants k want).0 in
    omega (arith, within, wired)

-- that input has not ended
live_at : (answer : StreamAnswer) (m : Shown) (i : Taking) (o : Putting) (k : ℕ) → m.wanted ≡ Take k
    → CaseOf answer Running m i o → (m.closed k ≡ false) × (ended_on i.ends k ≡ false)
live_at answer m i o k w s =
    let live = (s.lawful.wants k w).1 in
    (live, sym (s.makes.closed k) ∙ live)

-- the machine was fed a piece
case_fed : (answer : StreamAnswer) (m n : Shown) (i j : Taking) (o : Putting) (more : List (List ℕ))
    (k : ℕ) (piece : List ℕ) → TakesOne k (Bytes piece) i j → m.wanted ≡ Take k
    → Feeds k piece m n (queued o.block o.owed) (queued o.block more)
    → All (IsPieceLong o.block) more → IsLawful n → n.inputs ≡ m.inputs
    → CaseOf answer Running m i o → CaseOf answer Running n j (with_owed o more)
case_fed answer m n i j o more k piece t w g long lawful inputs s =
    let live = live_at answer m i o k w s in
    let l = input_within m i k s.lawful w s.inputs in
    record {
      made = s.made ++ g.made;
      makes =
          subst₂ (λ (c : ℕ → Bool) (b : ℕ → List ℕ). Makes answer n c b (s.made ++ g.made))
          (sym (took_ends k piece i j l t live.1)) (sym (took_bytes k piece i j l t))
          (makes_fed answer m n (ended_on i.ends) (bytes_on i.ends) s.made (queued o.block o.owed)
          (queued o.block more) k piece live.0 g s.makes);
      lawful = lawful;
      inputs = inputs ∙ (s.inputs ∙ zip_length ReadsOn i.ends j.ends t.on);
      branches = zip_weaker (BranchKeeps o.block s.made o.front (concat o.owed))
          (BranchKeeps o.block (s.made ++ g.made) o.front (concat more))
          (λ v x b. branch_fed o.block s.made (concat o.owed)
          (concat more) g.made o.front v x g.added b) o.ends o.served s.branches;
      front = front_fed o.block m.wanted n.wanted k o.owed more o.front w s.front;
      owed = long;
      together = t.together s.together;
      hung_up =
          λ e. inr (⊎_elim (λ f. absurd (cc (w, f))) (λ d. d) (s.hung_up (sym t.hung_up ∙ e)));
    }

case_fed_failed : (answer : StreamAnswer) (m n : Shown) (i j : Taking) (o : Putting)
    (more : List (List ℕ)) (k : ℕ) (piece : List ℕ) (f : StageFault) → TakesOne k (Bytes piece) i j
    → m.wanted ≡ Take k → (f ≡ fault.CountTooLarge → IsTooLarge m m.closed (before k piece))
    → CaseOf answer Running m i o → CaseOf answer (Failed (node_fault f)) n j (with_owed o more)
case_fed_failed answer m n i j o more k piece f t w large s =
    let live = live_at answer m i o k w s in
    let l = input_within m i k s.lawful w s.inputs in
    let empty : (ys : ℕ → List ℕ) → IsEmptyOn (ended_on j.ends) ys
    → IsEmptyOn m.closed ys =
    λ ys h x e. h x (ap (λ (c : ℕ → Bool). c x) (took_ends k piece i j l t live.1)
    ∙ (sym (s.makes.closed x) ∙ e)) in
    record {
      branches =
          branches_failed answer o.block s.made (concat o.owed) o.front j.ends o.ends o.served
          (front_open o.block m.wanted k o.owed o.front w s.front)
          (λ ys h. (
            m.rest (before k piece ys),
            sym (ap (λ (b : ℕ → List ℕ). (answer (after b ys)).out) (took_bytes k piece i j l t)
                ∙ (ap (λ (b : ℕ → List ℕ). (answer b).out)
                (taken_before k piece (bytes_on i.ends) ys)
                ∙ s.makes.splits (before k piece ys)
                (empty_before k piece m.closed ys live.0 (empty ys h)))),
          ))
          s.branches;
      count = λ c ys h.
          subst (λ (b : ℕ → List ℕ). 2 ^ 63 ≤ (answer (after b ys)).count)
          (sym (took_bytes k piece i j l t))
          (too_large_fed answer m (ended_on i.ends) (bytes_on i.ends) s.made k piece live.0
          (large (large_by f c)) s.makes ys (empty ys h));
    }

-- the machine was told of the end of an input
case_closed : (answer : StreamAnswer) (m n : Shown) (i j : Taking) (o : Putting)
    (more : List (List ℕ)) (k : ℕ) → TakesOne k Close i j → m.wanted ≡ Take k
    → Closes k m n (queued o.block o.owed) (queued o.block more) → All (IsPieceLong o.block) more
    → IsLawful n → n.inputs ≡ m.inputs → CaseOf answer Running m i o
    → CaseOf answer Running n j (with_owed o more)
case_closed answer m n i j o more k t w g long lawful inputs s =
    let live = live_at answer m i o k w s in
    let l = input_within m i k s.lawful w s.inputs in
    record {
      made = s.made ++ g.made;
      makes =
          subst₂ (λ (c : ℕ → Bool) (b : ℕ → List ℕ). Makes answer n c b (s.made ++ g.made))
          (sym (ended_ends k i j l t live.1)) (sym (ended_bytes k i j l t))
          (makes_closed answer m n (ended_on i.ends) (bytes_on i.ends) s.made
          (queued o.block o.owed) (queued o.block more) k g s.makes);
      lawful = lawful;
      inputs = inputs ∙ (s.inputs ∙ zip_length ReadsOn i.ends j.ends t.on);
      branches = zip_weaker (BranchKeeps o.block s.made o.front (concat o.owed))
          (BranchKeeps o.block (s.made ++ g.made) o.front (concat more))
          (λ v x b. branch_fed o.block s.made (concat o.owed)
          (concat more) g.made o.front v x g.added b) o.ends o.served s.branches;
      front = front_fed o.block m.wanted n.wanted k o.owed more o.front w s.front;
      owed = long;
      together = t.together s.together;
      hung_up =
          λ e. inr (⊎_elim (λ f. absurd (cc (w, f))) (λ d. d) (s.hung_up (sym t.hung_up ∙ e)));
    }

or_true : (a b : Bool) → b ≡ true → (a || b) ≡ true
or_true true b h = refl
or_true false b h = h

case_closed_failed : (answer : StreamAnswer) (m n : Shown) (i j : Taking) (o : Putting)
    (more : List (List ℕ)) (k : ℕ) (f : StageFault) → TakesOne k Close i j → m.wanted ≡ Take k
    → (f ≡ fault.CountTooLarge → IsTooLarge m (with_closed k m.closed) (λ ys. ys))
    → CaseOf answer Running m i o → CaseOf answer (Failed (node_fault f)) n j (with_owed o more)
case_closed_failed answer m n i j o more k f t w large s =
    let live = live_at answer m i o k w s in
    let l = input_within m i k s.lawful w s.inputs in
    let same : with_closed k (ended_on i.ends) ≡ with_closed k m.closed =
    fun_ext (λ x. ap (λ (b : Bool). eqb x k || b) (sym (s.makes.closed x))) in
    let shut : (ys : ℕ → List ℕ) → IsEmptyOn (ended_on j.ends) ys
    → IsEmptyOn (with_closed k m.closed) ys =
    λ ys h. subst (λ (c : ℕ → Bool). IsEmptyOn c ys) (ended_ends k i j l t live.1 ∙ same) h in
    record {
      branches =
          branches_failed answer o.block s.made (concat o.owed) o.front j.ends o.ends o.served
          (front_open o.block m.wanted k o.owed o.front w s.front)
          (λ ys h. (
            m.rest ys,
            sym (ap (λ (b : ℕ → List ℕ). (answer (after b ys)).out) (ended_bytes k i j l t)
                ∙ s.makes.splits ys (λ x e. shut ys h x (or_true (eqb x k) (m.closed x) e))),
          ))
          s.branches;
      count = λ c ys h.
          subst (λ (b : ℕ → List ℕ). 2 ^ 63 ≤ (answer (after b ys)).count)
          (sym (ended_bytes k i j l t))
          (too_large_closed answer m (ended_on i.ends) (bytes_on i.ends) s.made k
          (large (large_by f c)) s.makes ys (shut ys h));
    }

-- the machine was handed an item
pub case_handed : (answer : StreamAnswer) (m n : Shown) (i j : Taking) (o : Putting)
    (more : List (List ℕ))
    (k : ℕ) (item : Item) → TakesOne k item i j → m.wanted ≡ Take k
    → Hands k item m n (queued o.block o.owed) (queued o.block more)
    → All (IsPieceLong o.block) more
    → IsLawful n → n.inputs ≡ m.inputs → CaseOf answer Running m i o
    → CaseOf answer Running n j (with_owed o more)
case_handed answer m n i j o more k (Bytes piece) t w g long lawful inputs s =
    case_fed answer m n i j o more k piece t w g long lawful inputs s
case_handed answer m n i j o more k Close t w g long lawful inputs s =
    case_closed answer m n i j o more k t w g long lawful inputs s

-- and failed
pub case_handed_failed : (answer : StreamAnswer) (m n : Shown) (i j : Taking) (o : Putting)
    (more : List (List ℕ)) (k : ℕ) (item : Item) (f : StageFault) → TakesOne k item i j
    → m.wanted ≡ Take k
    → (f ≡ fault.CountTooLarge → IsTooLargeWith k item m) → CaseOf answer Running m i o
    → CaseOf answer (Failed (node_fault f)) n j (with_owed o more)
case_handed_failed answer m n i j o more k (Bytes piece) f t w large s =
    case_fed_failed answer m n i j o more k piece f t w large s
case_handed_failed answer m n i j o more k Close f t w large s =
    case_closed_failed answer m n i j o more k f t w large s
