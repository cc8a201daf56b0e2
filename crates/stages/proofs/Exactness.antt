-- The waits of a stage are exact if its ends were looked at from both sides.
use Rattle.std.proofs.Common.{◌≡◌, ◌≢◌, ⊎_elim, inl, inr, subst, ℕ, zero, suc, ◌<◌, Bool, true}
use Rattle.std.proofs.Common.{false, not, cond, List, [], ◌∷◌, length, refl, sym, ap, ◌∙◌, arith}
use Rattle.std.proofs.Common.{Option, None, is_some}
use Rattle.std.specs.Prelude.{◌&&◌, ◌||◌}
use Rattle.std.proofs.lemmas.Bool.{false≢true}
use Rattle.std.specs.List.{AllZip, HoldsAt, concat, list_any}
use Rattle.machine.specs.Items.{has_close}
use Rattle.machine.specs.Law.{Shown}
use Rattle.machine.specs.declared.piece.Item.{Item}
use Rattle.machine.specs.declared.protocol.Want.{Want}
use Rattle.machine.specs.declared.protocol.Want.TheVariants.{Take}
use Rattle.bounded_pipe.specs.Sizes.{size_of}
use Rattle.bounded_pipe.specs.Ends.{Writing, Reading, Beside}
use Rattle.bounded_pipe.specs.Events.{SameWriting, SameReading}
use Rattle.bounded_pipe.proofs.Records.{beside_sees}
use Rattle.bounded_pipe.specs.Pipes.{IsFull, is_closed}
use Rattle.splice_tee.specs.BranchStates.{is_open, is_lacking, IsLacking, IsFirstLacking, SomeOpen}
use Rattle.splice_tee.specs.declared.branches.Served.{Served}
use Rattle.splice_tee.specs.declared.branches.Served.TheVariants.{Lacks, Has, Gone}
use Rattle.stages.specs.Stages.{StagePart, BranchKeeps, AllDropped, ended_on, front_size}
use Rattle.stages.specs.Owed.{branch_owed, is_front_owed, is_finished, is_some_owed, first_size}
use Rattle.stages.specs.Owed.{owed_size}
use Rattle.stages.specs.Inlets.{IsDrained}
use Rattle.stages.specs.Outlets.{IsRefusing}
use Rattle.stages.specs.Cases.{part_of}
use Rattle.stages.specs.Waits.{OwedAreFull, IsFirstFull, NothingIsOwed, IsBareInput}
use Rattle.stages.specs.Waits.{FullWaitsAreExact, EmptyWaitsAreExact}
use Rattle.run_types.specs.declared.node_state.NodeState.TheVariants.{Running}
use Rattle.stages.proofs.Lists.{zip_length}

-- a full pipe stays full if nothing was put and nothing taken
full_still : (size : ℕ) (w v : Writing) (r : Reading) → SameWriting w v → IsFull size w r
    → IsFull size v r
full_still size w v r s f =
    let n = ap (λ (l : List Item). length l) s.put in
    let b = ap (λ (l : List Item). size_of l) s.put in
    let c = s.capacity in
    let l = s.limit in
    record {
      full = ⊎_elim (λ e. inl (omega (arith, e, n, c)))
          (λ h. inr (omega (arith, h, b, l))) f.full;
      reader = f.reader;
    }

-- if some branch lacks the front item, an item is owed just to those that lack it
front_owed : (x : StagePart) (w : Writing) (s : Served) → is_front_owed x ≡ true
    → branch_owed x w s ≡ is_lacking s
front_owed x w s e =
    ap (λ b. cond b (is_lacking s)
    (is_open s && (is_some_owed x.owed || (is_finished x.machine.wanted && not (is_closed w))))) e

lacking_is : (s : Served) → is_lacking s ≡ true → s ≡ Lacks
lacking_is Lacks e = refl
lacking_is _ e = absurd (false≢true e)

not_lacking : (s : Served) → s ≢ Lacks → is_lacking s ≡ false
not_lacking Lacks n = absurd (n refl)
not_lacking Has n = refl
not_lacking Gone n = refl

or_true : (a b : Bool) → b ≡ true → (a || b) ≡ true
or_true true b e = refl
or_true false b e = e

some_lacks : (ss : List Served) (k : ℕ) → IsLacking ss k → list_any is_lacking ss ≡ true
some_lacks [] k l = absurd (omega (arith, l.0))
some_lacks (s ∷ ss) zero l = ap (λ (x : Served). is_lacking x || list_any is_lacking ss) l.1
some_lacks (s ∷ ss) (suc k) l = or_true (is_lacking s) (list_any is_lacking ss)
    (some_lacks ss k (omega (arith, l.0), l.1))

both_true : (a b : Bool) → a ≡ true → b ≡ true → (a && b) ≡ true
both_true true b e f = f
both_true false b e f = absurd (false≢true e)

-- the branches that lack the item refuse it
owed_full : (x : StagePart) (ws vs : List Writing) (ss : List Served) (rs : List Reading)
    → is_front_owed x ≡ true → AllZip Beside ws rs → AllZip SameWriting ws vs
    → length vs ≡ length ss → ((h : ℕ) → IsLacking ss h → HoldsAt (IsRefusing (owed_size x)) ws h)
    → OwedAreFull x vs ss rs
owed_full x [] [] [] [] e b s n refused = tt
owed_full x [] [] [] (r ∷ rs) e b s n refused = absurd b
owed_full x [] [] (t ∷ ss) rs e b s n refused = absurd (omega (arith, n))
owed_full x (w ∷ ws) (v ∷ vs) [] rs e b s n refused = absurd (omega (arith, n))
owed_full x (w ∷ ws) (v ∷ vs) (t ∷ ss) [] e b s n refused = absurd b
owed_full x (w ∷ ws) (v ∷ vs) (t ∷ ss) (r ∷ rs) e b s n refused = (
  (λ owed. full_still (owed_size x) w v r s.0
      (refused 0 (omega (arith), lacking_is t (sym (front_owed x v t e) ∙ owed)) w r
      (beside_sees w r b.0))),
  owed_full x ws vs ss rs e b.1 s.1 (omega (arith, n))
      (λ h l. refused (suc h) (omega (arith, l.0), l.1)),
)
owed_full x _ _ ss rs e b s n refused = absurd s

first_full : (x : StagePart) (ws vs : List Writing) (ss : List Served) (rs : List Reading) (k : ℕ)
    → is_front_owed x ≡ true → AllZip Beside ws rs → AllZip SameWriting ws vs
    → length vs ≡ length ss → IsFirstLacking ss k
    → ((h : ℕ) → IsLacking ss h → HoldsAt (IsRefusing (owed_size x)) ws h)
    → IsFirstFull x vs ss rs k
first_full x [] [] [] rs k e b s n f refused = absurd (omega (arith, f.lacks.0))
first_full x [] [] (t ∷ ss) rs k e b s n f refused = absurd (omega (arith, n))
first_full x (w ∷ ws) (v ∷ vs) [] rs k e b s n f refused = absurd (omega (arith, n))
first_full x (w ∷ ws) (v ∷ vs) (t ∷ ss) [] k e b s n f refused = absurd b
first_full x (w ∷ ws) (v ∷ vs) (t ∷ ss) (r ∷ rs) zero e b s n f refused = (
  front_owed x v t e ∙ ap is_lacking f.lacks.1,
  full_still (owed_size x) w v r s.0
      (refused 0 f.lacks w r (beside_sees w r b.0)),
  owed_full x ws vs ss rs e b.1 s.1 (omega (arith, n))
      (λ h l. refused (suc h) (omega (arith, l.0), l.1)),
)
first_full x (w ∷ ws) (v ∷ vs) (t ∷ ss) (r ∷ rs) (suc k) e b s n f refused = (
  front_owed x v t e ∙ not_lacking t (f.first 0 (omega arith)),
  first_full x ws vs ss rs k e b.1 s.1 (omega (arith, n))
      (record {
        lacks = (omega (arith, f.lacks.0), f.lacks.1);
        first =
            λ j l. f.first (suc j) (omega (arith, l));
      })
      (λ h l. refused (suc h) (omega (arith, l.0), l.1)),
)
first_full x _ _ ss rs k e b s n f refused = absurd s

pub full_exact : FullWaitsAreExact
full_exact answer m i o n j p k readers c w b =
    let e : is_front_owed (part_of Running n j p) ≡ true =
    both_true (is_some p.front) (list_any is_lacking p.served) w.front
    (some_lacks p.served k w.first.lacks) in
    let count : length p.ends ≡ length p.served =
    zip_length (BranchKeeps p.block c.made p.front (concat p.owed)) p.ends p.served
    c.branches in
    let refused : (h : ℕ) → IsLacking p.served h
    → HoldsAt (IsRefusing (owed_size (part_of Running n j p))) o.ends h =
    λ h l. subst (λ (size : ℕ). HoldsAt (IsRefusing size) o.ends h)
    (sym (ap (λ q. cond q (front_size p.front) (first_size p.owed)) e)) (w.refused h l) in (
      first_full (part_of Running n j p) o.ends p.ends p.served readers k e b w.ends count w.first
          refused,
      λ f. w.hung_up (ap (λ (x : Shown). x.wanted) (sym w.machine) ∙ f),
    )

-- nothing is owed if there is no front item, no piece, and the machine has not finished
none_owed : (x : StagePart) (w : Writing) (s : Served) (k : ℕ) → x.front ≡ None → x.owed ≡ []
    → x.machine.wanted ≡ Take k → branch_owed x w s ≡ false
none_owed x w s k front owed want =
    let f : is_front_owed x ≡ false =
    ap (λ (y : Option Item). is_some y && list_any is_lacking x.served) front in
    let g : (is_some_owed x.owed || (is_finished x.machine.wanted && not (is_closed w))) ≡ false =
    ap
    (λ (l : List (List ℕ)). is_some_owed l || (is_finished x.machine.wanted && not
    (is_closed w))) owed ∙ ap (λ (y : Want). is_finished y && not (is_closed w)) want in
    ap (λ b. cond b (is_lacking s)
    (is_open s && (is_some_owed x.owed || (is_finished x.machine.wanted && not (is_closed w)))))
    f ∙ (ap (λ b. is_open s && b) g ∙ never (is_open s))
  where
    never : (b : Bool) → (b && false) ≡ false
    never true = refl
    never false = refl

all_none_owed : (x : StagePart) (ws : List Writing) (ss : List Served) (k : ℕ)
    → length ws ≡ length ss → x.front ≡ None → x.owed ≡ [] → x.machine.wanted ≡ Take k
    → NothingIsOwed x ws ss
all_none_owed x [] [] k n front owed want = tt
all_none_owed x (w ∷ ws) (s ∷ ss) k n front owed want =
    (none_owed x w s k front owed want, all_none_owed x ws ss k (omega (arith, n)) front owed want)
all_none_owed x _ _ k n front owed want = absurd (omega (arith, n))

-- an open branch is not dropped
open_undropped : (block : ℕ) (made owed : List ℕ) (front : Option Item) (ws : List Writing)
    (ss : List Served) → SomeOpen ss → AllZip (BranchKeeps block made front owed) ws ss
    → AllDropped ws → ⊥
open_undropped block made owed front [] [] o a d = false≢true o.1
open_undropped block made owed front (w ∷ ws) (s ∷ ss) (zero, e) a d =
    false≢true (sym (a.0.noted ∙ ap not e) ∙ d.0)
open_undropped block made owed front (w ∷ ws) (s ∷ ss) (suc k, e) a d =
    open_undropped block made owed front ws ss (k, e) a.1 d.1
open_undropped block made owed front _ _ o a d = absurd a

-- a drained input that did not end is empty and not closed
bare_at : (vs : List Writing) (rs ts : List Reading) (k : ℕ) → AllZip Beside vs rs
    → AllZip SameReading rs ts → k < length rs → HoldsAt IsDrained rs k → ended_on ts k ≡ false
    → IsBareInput vs ts k
bare_at [] [] ts k b s l drained e = absurd (omega (arith, l))
bare_at (v ∷ vs) (r ∷ rs) [] k b s l drained e = absurd s
bare_at (v ∷ vs) (r ∷ rs) (t ∷ ts) zero b s l drained e =
    let empty : t.taken ≡ v.put = s.0.taken ∙ sym (drained r v (beside_sees v r b.0)) in
    record { bare = empty; unclosed = ap has_close (sym empty) ∙ e }
bare_at (v ∷ vs) (r ∷ rs) (t ∷ ts) (suc k) b s l drained e =
    bare_at vs rs ts k b.1 s.1 (omega (arith, l)) drained e
bare_at _ _ ts k b s l drained e = absurd b

pub empty_exact : EmptyWaitsAreExact
empty_exact answer m i o n j p k writers c w b =
    let want : n.wanted ≡ Take k = ap (λ (x : Shown). x.wanted) w.machine ∙ w.wanted in
    let count : length p.ends ≡ length p.served =
    zip_length (BranchKeeps p.block c.made p.front (concat p.owed)) p.ends p.served
    c.branches in
    let live = c.lawful.wants k want in
    let within : k < length i.ends =
    omega (arith, live.0, c.inputs, zip_length SameReading i.ends j.ends w.inputs.ends) in (
      all_none_owed (part_of Running n j p) p.ends p.served k count w.spent.0 w.spent.1 want,
      open_undropped p.block c.made (concat p.owed) p.front p.ends p.served w.opens c.branches,
      want,
      bare_at writers i.ends j.ends k b w.inputs.ends within w.empty (sym (c.makes.closed k)
          ∙ live.1),
    )
