-- An item is taken on one input, or all are hung up.
use Rattle.std.proofs.Common.{◌≡◌, ℕ, zero, suc, ◌<◌, ◌≤◌, Bool, true, false, ◌&&◌, cond, List, []}
use Rattle.std.proofs.Common.{◌∷◌, ◌++◌, length, map, get_or, set, refl, sym, ap, ◌∙◌, subst, arith}
use Rattle.std.proofs.Common.{Option, Some, None, IfSome}
use Rattle.std.proofs.lemmas.List.{map-set, get_or-map}
use Rattle.std.proofs.lemmas.List.Sums.{sum_by-set, sum_by-cons}
use Rattle.std.specs.List.{AllZip, AllByRecursion, HoldsAt, list_all}
use Rattle.machine.specs.declared.piece.Item.{Item}
use Rattle.bounded_pipe.specs.Ends.{Reading, ReadsOn}
use Rattle.bounded_pipe.specs.Events.{Takes, HangsUp, SameReading}
use Rattle.bounded_pipe.proofs.Records.{reads_on_reflexive}
use Rattle.bounded_pipe.specs.Pipes.{items_taken, events_of_reading}
use Rattle.stages.specs.Stages.{taken_on}
use Rattle.stages.specs.Inlets.{Taking, SameTaking, IsDrained, reads}
use Rattle.stages.specs.inner.Moves.{TakesOne}
use Rattle.stages.proofs.lemmas.Ends.{takes_on, take_is_more, same_reading}
use Rattle.stages.proofs.Lists.{zip_step, zip_flip, zip_all}

pub if_some_as : {X : Type 0} (P Q : X → Type 0) (o : Option X) → ((x : X) → P x → Q x) → IfSome o P
    → IfSome o Q
if_some_as P Q None h p = tt
if_some_as P Q (Some x) h p = h x p

-- one element changes
pub all_set : {X : Type 0} (P : X → Type 0) (xs : List X) (k : ℕ) (y : X) → P y
    → AllByRecursion P xs → AllByRecursion P (set xs k y)
all_set P [] k y p a = tt
all_set P (x ∷ xs) zero y p a = (p, a.1)
all_set P (x ∷ xs) (suc k) y p a = (a.0, all_set P xs k y p a.1)

pub all_get : {X : Type 0} (P : X → Type 0) (xs : List X) (k : ℕ) (d : X) → k < length xs
    → AllByRecursion P xs → P (get_or xs k d)
all_get P [] k d l a = absurd (omega arith)
all_get P (x ∷ xs) zero d l a = a.0
all_get P (x ∷ xs) (suc k) d l a = all_get P xs k d (omega arith) a.1

-- the inputs once the end k is s
abbrev pub with_end : Taking → ℕ → Reading → Taking
with_end i k s = record { pipes = i.pipes; ends = set i.ends k s; hung_up = i.hung_up }

pub takes_one : (i : Taking) (k : ℕ) (r s : Reading) (item : Item) → k < length i.ends
    → r ≡ get_or i.ends k r → Takes item r s → TakesOne k item i (with_end i k s)
takes_one i k r s item l read t =
    let was : taken_on i.ends k ≡ r.taken = get_or-map items_taken i.ends k r [] l
    ∙ sym (ap items_taken read) in
    record {
      pipes = refl;
      on = zip_step ReadsOn reads_on_reflexive i.ends k r s read (takes_on item r s t);
      taken = map-set items_taken i.ends k s
          ∙ ap (λ x. set (map items_taken i.ends) k x) (t.taken
          ∙ ap (λ x. x ++ item ∷ []) (sym was));
      hung_up = refl;
      together = λ together. all_set (λ (x : Reading). x.hung_up ≡ i.hung_up) i.ends k s (t.hung_up
          ∙ (ap (λ (x : Reading). x.hung_up) read
          ∙ all_get (λ (x : Reading). x.hung_up ≡ i.hung_up) i.ends k r l together)) together;
      event = omega (
        arith,
        sum_by-set events_of_reading i.ends k s r l,
        ap events_of_reading read,
        take_is_more item r s t,
      );
    }

pub takes_none : (i : Taking) (k : ℕ) (r s : Reading) → r ≡ get_or i.ends k r → SameReading r s
    → SameTaking i (with_end i k s)
takes_none i k r s read t = record {
  pipes = refl;
  ends =
      zip_step SameReading same_reading i.ends k r s read t;
  hung_up = refl;
}

pub drained_at : (rs : List Reading) (k : ℕ) (r : Reading) → k < length rs → r ≡ get_or rs k r
    → IsDrained r → HoldsAt IsDrained rs k
drained_at rs k r l read drained d = subst IsDrained (read ∙ get_or_any rs k r d l) drained
  where
    get_or_any : (rs : List Reading) (k : ℕ) (r d : Reading) → k < length rs
        → get_or rs k r ≡ get_or rs k d
    get_or_any [] k r d l = absurd (omega arith)
    get_or_any (x ∷ rs) zero r d l = refl
    get_or_any (x ∷ rs) (suc k) r d l = get_or_any rs k r d (omega arith)

-- all inputs are hung up
pub all_hung : (rs ss : List Reading) → AllZip HangsUp rs ss
    → AllByRecursion (λ (r : Reading). r.hung_up ≡ true) ss
all_hung rs ss a = zip_all (λ s r. HangsUp r s) (λ (r : Reading). r.hung_up ≡ true)
    (λ s r h. h.hung_up) ss rs (zip_flip HangsUp rs ss a)

-- whether each is hung up
pub each_hung : (rs : List Reading) → list_all (λ r. r.hung_up) rs ≡ true
    → AllByRecursion (λ r. r.hung_up ≡ true) rs
each_hung [] e = tt
each_hung (r ∷ rs) e =
    let both = both_true r.hung_up (list_all (λ x. x.hung_up) rs) e in
    (both.0, each_hung rs both.1)
  where
    both_true : (a b : Bool) → (a && b) ≡ true → (a ≡ true) × (b ≡ true)
    both_true true b e = (refl, e)
    both_true false b e = absurd (cc e)

pub hung_each : (rs : List Reading) → AllByRecursion (λ r. r.hung_up ≡ true) rs
    → list_all (λ r. r.hung_up) rs ≡ true
hung_each [] a = refl
hung_each (r ∷ rs) a = ap (λ b. b && list_all (λ x. x.hung_up) rs) a.0 ∙ hung_each rs a.1

hang_up_more : (r s : Reading) → HangsUp r s → events_of_reading r ≤ events_of_reading s
hang_up_more r s h =
    let e = ap (λ l. length l) h.taken in
    let n = ap {B = ℕ} (λ b. cond b 1 0) h.hung_up in
    omega (arith, e, n, one r.hung_up)
  where
    one : (b : Bool) → cond b 1 0 ≤ 1
    one true = omega arith
    one false = omega arith

reads_hung_more : (rs ss : List Reading) → AllZip HangsUp rs ss → reads rs ≤ reads ss
reads_hung_more [] [] a = omega arith
reads_hung_more (r ∷ rs) (s ∷ ss) a =
    omega (
      arith,
      sum_by-cons events_of_reading r rs,
      sum_by-cons events_of_reading s ss,
      reads_hung_more rs ss a.1,
      hang_up_more r s a.0,
    )
reads_hung_more _ _ a = absurd a

-- a first hang-up is an event
pub reads_hung : (rs ss : List Reading) → 0 < length rs
    → AllByRecursion (λ (r : Reading). r.hung_up ≡ false) rs → AllZip HangsUp rs ss
    → reads rs < reads ss
reads_hung [] ss l a h = absurd (omega arith)
reads_hung (r ∷ rs) [] l a h = absurd h
reads_hung (r ∷ rs) (s ∷ ss) l a h =
    let e = ap (λ x. length x) h.0.taken in
    let n = ap {B = ℕ} (λ b. cond b 1 0) h.0.hung_up in
    let m = ap {B = ℕ} (λ b. cond b 1 0) a.0 in
    omega (
      arith,
      sum_by-cons events_of_reading r rs,
      sum_by-cons events_of_reading s ss,
      reads_hung_more rs ss h.1,
      e,
      n,
      m,
    )
