-- The branches are offered the front item.
use Rattle.std.proofs.Common.{◌≡◌, ◌≢◌, ℕ, zero, suc, ◌+◌, ◌<◌, ◌≤◌, ⊎_elim, Bool, true, false}
use Rattle.std.proofs.Common.{List, [], ◌∷◌, ◌++◌, length, map, get_or, set, refl, sym, ap, ◌∙◌}
use Rattle.std.proofs.Common.{subst, append_assoc, arith, Option, Some}
use Rattle.std.proofs.lemmas.Bool.{false≢true, cases_order}
use Rattle.std.proofs.lemmas.List.Sums.{sum_by-set}
use Rattle.std.specs.List.{HoldsAt, concat}
use Rattle.machine.specs.Items.{bytes_of, has_close, IsTidy}
use Rattle.machine.specs.declared.piece.Item.{Item}
use Rattle.machine.specs.declared.piece.Item.TheVariants.{Bytes, Close}
use Rattle.machine.specs.declared.protocol.Want.{Want}
use Rattle.bounded_pipe.specs.Ends.{Writing, WritesOn}
use Rattle.bounded_pipe.specs.Events.{Puts, Notes, SameWriting}
use Rattle.bounded_pipe.proofs.Records.{writes_on_reflexive}
use Rattle.bounded_pipe.specs.Pipes.{events_of_writing}
use Rattle.splice_tee.specs.BranchStates.{served_at, IsLacking, NoOtherLacks, NoneLacks}
use Rattle.splice_tee.specs.BranchStates.{lacking_again}
use Rattle.splice_tee.specs.declared.branches.Served.{Served}
use Rattle.splice_tee.specs.declared.branches.Served.TheVariants.{Lacks, Has, Gone}
use Rattle.stages.specs.Stages.{BranchKeeps, FrontIs, front_bytes, front_size}
use Rattle.stages.specs.Owed.{is_finished}
use Rattle.stages.specs.Outlets.{Putting, IsRefusing, writes}
use Rattle.stages.specs.inner.Moves.{OutletKeeps, Serves, SamePutting, is_piece}
use Rattle.stages.proofs.lemmas.Ends.{puts_on, notes_on, same_writes_on, same_writing, all_write_on}
use Rattle.stages.proofs.lemmas.Ends.{all_no_fewer, put_is_more, note_is_more}
use Rattle.stages.proofs.lemmas.Fronts.{turned_over, turned_to}
use Rattle.stages.proofs.lemmas.GoingOn.{writes_go_on_on}
use Rattle.stages.proofs.lemmas.Items.{bytes_push, close_push, tidy_push, IsItemLong}
use Rattle.stages.proofs.Lists.{zip_get, zip_set, zip_step, below_or_not}
use Rattle.stages.proofs.lemmas.Sameness.{outlet_looked, same_putting, same_putting_trans}

-- The same of the branches below the number n; the others are as they were. If nothing moved, each
-- branch below n that lacks the front item refuses it.
pub record ServesUpTo (n : ℕ) (moved : Bool) (old new : Putting) : Type 0 where
  pub serves : Serves moved old new
  pub front : new.front ≡ old.front
  pub later : (k : ℕ) (w : Writing) → n ≤ k → get_or new.ends k w ≡ get_or old.ends k w
  pub refused : moved ≡ false → (k : ℕ) → k < n → IsLacking old.served k
      → HoldsAt (IsRefusing (front_size old.front)) old.ends k

item_long : (block : ℕ) (want : Want) (owed : List (List ℕ)) (item : Item)
    → FrontIs block want owed (Some item) → IsItemLong block item
item_long block want owed (Bytes piece) f = f
item_long block want owed Close f = tt

branch_put : (block : ℕ) (made owed : List ℕ) (item : Item) (w v : Writing) → IsItemLong block item
    → Puts item w v → BranchKeeps block made (Some item) owed w Lacks
    → BranchKeeps block made (Some item) owed v Has
branch_put block made owed item w v long p b =
    record {
      bytes = ap (λ l. bytes_of l ++ owed) p.put
          ∙ (ap (λ l. l ++ owed) (bytes_push w.put item)
          ∙ (append_assoc (bytes_of w.put) (front_bytes (Some item)) owed ∙ b.bytes));
      noted = p.noted ∙ b.noted;
      close = ap has_close p.put ∙ close_push w.put item b.close;
      tidy = subst (λ l. IsTidy block l) (sym p.put)
          (tidy_push block w.put item b.close long b.tidy);
    }

branch_gone : (block : ℕ) (made owed : List ℕ) (front : Option Item) (w v : Writing) → Notes w v
    → BranchKeeps block made front owed w Lacks → BranchKeeps block made front owed v Gone
branch_gone block made owed front w v n b =
    record {
      bytes = (
        front_bytes front ++ owed,
        ap (λ l. bytes_of l ++ (front_bytes front ++ owed)) n.put
            ∙ b.bytes,
      );
      noted = n.noted;
      close = ap has_close n.put ∙ b.close;
      tidy = subst (λ l. IsTidy block l) (sym n.put) b.tidy;
    }

-- the branch k, whose end was w, is offered the front item; its end is v then
module _ (o : Putting) (k : ℕ) (w v : Writing) (same : length o.ends ≡ length o.served)
    (lacks : IsLacking o.served k) (read : w ≡ get_or o.ends k w) where
  abbrev pub changed : List Served → Putting
  changed served = record {
    pipes = o.pipes;
    ends = set o.ends k v;
    served = served;
    front =
        o.front;
    block = o.block;
    owed = o.owed;
  }

  old_branch : (want : Want) (made : List ℕ) → OutletKeeps want made o
      → BranchKeeps o.block made o.front (concat o.owed) w Lacks
  old_branch want made keeps =
      let R = BranchKeeps o.block made o.front (concat o.owed) in
      let a = zip_get R o.ends o.served k w Gone keeps.branches lacks.0 in
      subst (λ x. R w x) lacks.1 (subst (λ x. R x (get_or o.served k Gone)) (sym read) a)

  keeps_one : (want : Want) (made : List ℕ) (s : Served)
      → BranchKeeps o.block made o.front (concat o.owed) v s → OutletKeeps want made o
      → OutletKeeps want made (changed (set o.served k s))
  keeps_one want made s b keeps =
      record {
        branches = zip_set (BranchKeeps o.block made o.front (concat o.owed)) o.ends o.served k v s
            keeps.branches b;
        front = keeps.front;
        owed = keeps.owed;
      }

  more_events : events_of_writing w < events_of_writing v → writes o.ends < writes (set o.ends k v)
  more_events h =
      let l : k < length o.ends = omega (arith, lacks.0, same) in
      omega (arith, sum_by-set events_of_writing o.ends k v w l, ap events_of_writing read, h)

  pub serves_put : (item : Item) (served : List Served) → o.front ≡ Some item
      → served ≡ set o.served k Has → Puts item w v → Serves true o (changed served)
  serves_put item served f is p =
      subst (λ (l : List Served). Serves true o (changed l)) (sym is)
      (record {
        on = record {
          pipes = refl;
          block = refl;
          ends =
              zip_step WritesOn writes_on_reflexive o.ends k w v read (puts_on item w v p);
        };
        keeps = λ want made keeps.
            keeps_one want made Has
            (subst (λ x. BranchKeeps o.block made x (concat o.owed) v Has) (sym f)
            (branch_put o.block made (concat o.owed) item w v
            (item_long o.block want o.owed item
            (subst (λ x. FrontIs o.block want o.owed x) f keeps.front)) p
            (subst (λ x. BranchKeeps o.block made x (concat o.owed) w Lacks) f
            (old_branch want made keeps))))
            keeps;
        event = λ _ want made keeps. more_events (put_is_more item w v p);
        still = λ e. absurd (false≢true (sym e));
      })

  pub serves_gone : (served : List Served) → served ≡ set o.served k Gone → Notes w v
      → Serves true o (changed served)
  serves_gone served is n =
      subst (λ (l : List Served). Serves true o (changed l)) (sym is)
      (record {
        on = record {
          pipes = refl;
          block = refl;
          ends =
              zip_step WritesOn writes_on_reflexive o.ends k w v read (notes_on w v n);
        };
        keeps = λ want made keeps. keeps_one want made Gone
            (branch_gone o.block made (concat o.owed) o.front w v n (old_branch want made keeps))
            keeps;
        event = λ _ want made keeps. more_events
            (note_is_more w v (old_branch want made keeps).noted n);
        still = λ e. absurd (false≢true (sym e));
      })

  pub serves_full : SameWriting w v → Serves false o (changed o.served)
  serves_full s =
      let still : SamePutting o (changed o.served) =
      record {
        pipes = refl;
        ends =
            zip_step SameWriting same_writing o.ends k w v read s;
        served = refl;
        front =
            refl;
        block = refl;
        owed = refl;
      } in
      record {
        on = record {
          pipes = refl;
          block = refl;
          ends =
              zip_step WritesOn writes_on_reflexive o.ends k w v read (same_writes_on w v s);
        };
        keeps = λ want made keeps. outlet_looked want made o (changed o.served) still keeps;
        event = λ e. absurd (false≢true e);
        still = λ _. still;
      }

-- one offer after others
pub serves_none : (o : Putting) → Serves false o o
serves_none o =
    record {
      on = record { pipes = refl; block = refl; ends = all_write_on o.ends };
      keeps =
          λ want made keeps. keeps;
      event = λ e. absurd (false≢true e);
      still = λ _. same_putting o;
    }

pub serves_more : (m : Bool) (a b c : Putting) → Serves m a b → Serves true b c → Serves true a c
serves_more m a b c h k =
    record {
      on = writes_go_on_on a b c h.on k.on;
      keeps = λ want made x. k.keeps want made (h.keeps want made x);
      event = λ _ want made x. let e = k.event refl want made (h.keeps want made x) in
          omega (arith, all_no_fewer a.ends b.ends h.on.ends, e);
      still = λ e. absurd (false≢true (sym e));
    }

pub serves_same : (m : Bool) (a b c : Putting) → Serves m a b → Serves false b c → Serves m a c
serves_same m a b c h k =
    record {
      on = writes_go_on_on a b c h.on k.on;
      keeps = λ want made x. k.keeps want made (h.keeps want made x);
      event = λ e want made x. let f = h.event e want made x in
          omega (arith, f, all_no_fewer b.ends c.ends k.on.ends);
      still = λ e. same_putting_trans a b c (h.still e) (k.still refl);
    }

-- the branches below n were offered it
pub up_to_none : (o : Putting) → ServesUpTo 0 false o o
up_to_none o = record {
  serves = serves_none o;
  front = refl;
  later = λ k w l. refl;
  refused =
      λ _ k h. absurd (omega (arith, h));
}

-- those from n to k do not lack it
pub up_to_skipped : (n k : ℕ) (m : Bool) (old mid : Putting) → n ≤ k
    → ((j : ℕ) → n ≤ j → j < k → served_at mid.served j ≢ Lacks) → ServesUpTo n m old mid
    → ServesUpTo k m old mid
up_to_skipped n k m old mid l none u =
    record {
      serves = u.serves;
      front = u.front;
      later = λ j w h. u.later j w (omega (arith, l, h));
      refused = λ e j h lacks.
          ⊎_elim (λ below. u.refused e j below lacks)
          (λ above. absurd (none j above h
          (ap (λ (x : List Served). served_at x j) (u.serves.still e).served ∙ lacks.1)))
          (below_or_not j n);
    }

pub all_skipped : (n : ℕ) (old mid : Putting) → ((j : ℕ) → n ≤ j → served_at mid.served j ≢ Lacks)
    → ServesUpTo n false old mid → (k : ℕ) → IsLacking old.served k
    → HoldsAt (IsRefusing (front_size old.front)) old.ends k
all_skipped n old mid none u k lacks =
    ⊎_elim (λ below. u.refused refl k below lacks)
    (λ above. absurd (none k above
    (ap (λ (x : List Served). served_at x k) (u.serves.still refl).served ∙ lacks.1)))
    (below_or_not k n)

-- the branch n is offered it too
pub up_to_moved : (n : ℕ) (m : Bool) (old mid new : Putting)
    → ((j : ℕ) (w : Writing) → j ≢ n → get_or new.ends j w ≡ get_or mid.ends j w)
    → new.front ≡ mid.front → ServesUpTo n m old mid → Serves true mid new
    → ServesUpTo (n + 1) true old new
up_to_moved n m old mid new others front u s =
    record {
      serves = serves_more m old mid new u.serves s;
      front = front ∙ u.front;
      later = λ j w h. others j w (omega (arith, h)) ∙ u.later j w (omega (arith, h));
      refused = λ e. absurd (false≢true (sym e));
    }

-- what the branch n refused then, it refused before
refused_then : (n : ℕ) (m : Bool) (old mid : Putting) → ServesUpTo n m old mid
    → HoldsAt (IsRefusing (front_size mid.front)) mid.ends n
    → HoldsAt (IsRefusing (front_size old.front)) old.ends n
refused_then n m old mid u refusing d =
    subst (λ (w : Writing). IsRefusing (front_size old.front) w) (u.later n d (omega arith))
    (subst (λ (f : Option Item). IsRefusing (front_size f) (get_or mid.ends n d)) u.front
    (refusing d))

pub up_to_refused : (n : ℕ) (m : Bool) (old mid new : Putting)
    → ((j : ℕ) (w : Writing) → j ≢ n → get_or new.ends j w ≡ get_or mid.ends j w)
    → new.front ≡ mid.front → HoldsAt (IsRefusing (front_size mid.front)) mid.ends n
    → ServesUpTo n m old mid → Serves false mid new → ServesUpTo (n + 1) m old new
up_to_refused n m old mid new others front refusing u s =
    record {
      serves = serves_same m old mid new u.serves s;
      front = front ∙ u.front;
      later = λ j w h. others j w (omega (arith, h)) ∙ u.later j w (omega (arith, h));
      refused = λ e k h lacks.
          ⊎_elim (λ below. u.refused e k below lacks)
          (λ above. let same : n ≡ k = omega (arith, above, h) in
          subst (λ j. HoldsAt (IsRefusing (front_size old.front)) old.ends j) same
          (refused_then n m old mid u refusing))
          (below_or_not k n);
    }

-- the last branch that lacked the front piece refused it
pub last_refused : (n : ℕ) (old mid : Putting) → NoOtherLacks mid.served n
    → HoldsAt (IsRefusing (front_size mid.front)) mid.ends n → ServesUpTo n false old mid → (k : ℕ)
    → IsLacking old.served k → HoldsAt (IsRefusing (front_size old.front)) old.ends k
last_refused n old mid alone refusing u k lacks =
    let lacks_now : served_at mid.served k ≡ Lacks =
    ap (λ (x : List Served). served_at x k) (u.serves.still refl).served ∙ lacks.1 in
    ⊎_elim
    (λ (is : k ≡ n). subst (λ j. HoldsAt (IsRefusing (front_size old.front)) old.ends j) (sym is)
    (refused_then n false old mid u refusing))
    (⊎_elim (λ (h : k < n). absurd (alone k (λ e. absurd (omega (arith, e, h))) lacks_now))
    (λ (h : n < k). absurd (alone k (λ e. absurd (omega (arith, e, h))) lacks_now)))
    (cases_order k n)

-- once no branch lacks the front piece, the next item can come
pub serves_turned : (o p : Putting) (served : List Served) → Serves true o p
    → is_piece p.front ≡ true → NoneLacks p.served → served ≡ map lacking_again p.served
    → Serves true o (turned_to p served)
serves_turned o p served s piece none is =
    record {
      on = record { pipes = s.on.pipes; block = s.on.block; ends = s.on.ends };
      keeps = λ want made k. (turned_over (is_finished want) p served piece none is).keeps want made
          refl (s.keeps want made k);
      event = s.event;
      still = λ e. absurd (false≢true (sym e));
    }

-- if no other branch lacked the front item, none lacks it once k has it or is gone
pub none_left : (ss : List Served) (k : ℕ) (s : Served) → s ≢ Lacks → NoOtherLacks ss k
    → NoneLacks (set ss k s)
none_left [] k s n alone j e = absurd (cc)
none_left (t ∷ ss) zero s n alone zero e = n e
none_left (t ∷ ss) zero s n alone (suc j) e = alone (suc j) (λ f. absurd (omega (arith, f))) e
none_left (t ∷ ss) (suc k) s n alone zero e = alone 0 (λ f. absurd (omega (arith, f))) e
none_left (t ∷ ss) (suc k) s n alone (suc j) e =
    none_left ss k s n (λ i ne. alone (suc i) (λ f. ne (omega (arith, f)))) j e

pub has_not_lacks : Has ≢ Lacks
has_not_lacks e = absurd (cc)

pub closed_not_lacks : Gone ≢ Lacks
closed_not_lacks e = absurd (cc)
