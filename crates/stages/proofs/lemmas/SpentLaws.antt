-- No branch lacks an item.
use Rattle.std.proofs.Common.{◌≡◌, ◌≢◌, ℕ, zero, suc, Bool, true, false, cond, List, [], ◌∷◌, map}
use Rattle.std.proofs.Common.{get_or, refl, sym, ap, ◌∙◌, subst, arith, Option, Some, None, IsSome}
use Rattle.std.proofs.Common.{count_by}
use Rattle.std.proofs.lemmas.Bool.{false≢true}
use Rattle.std.proofs.lemmas.List.Sums.{sum_by-cons}
use Rattle.std.specs.List.{AllZip, concat}
use Rattle.machine.specs.declared.piece.Item.{Item}
use Rattle.machine.specs.declared.piece.Item.TheVariants.{Close}
use Rattle.machine.specs.declared.protocol.Want.{Want}
use Rattle.machine.specs.declared.protocol.Want.TheVariants.{Finished}
use Rattle.bounded_pipe.specs.Ends.{Writing}
use Rattle.splice_tee.specs.BranchStates.{is_open, served_at, NoneLacks, SomeOpen, NoneOpen}
use Rattle.splice_tee.specs.declared.branches.Served.{Served}
use Rattle.splice_tee.specs.declared.branches.Served.TheVariants.{Lacks, Has, Gone}
use Rattle.stages.specs.Stages.{BranchKeeps, FrontIs, is_close}
use Rattle.stages.specs.Owed.{is_finished}
use Rattle.stages.specs.Outlets.{Putting, Spent}
use Rattle.stages.specs.inner.Moves.{OutletKeeps, Advances}

at_map : {X Y : Type 0} (f : X → Y) (xs : List X) (k : ℕ) (d : X)
    → get_or (map f xs) k (f d) ≡ f (get_or xs k d)
at_map f [] k d = refl
at_map f (x ∷ xs) zero d = refl
at_map f (x ∷ xs) (suc k) d = at_map f xs k d

pub some_open_on : (ss ts : List Served) → map is_open ts ≡ map is_open ss → SomeOpen ss
    → SomeOpen ts
some_open_on ss ts e s = (
  s.0,
  sym (at_map is_open ts s.0 Gone)
      ∙ (ap (λ l. get_or l s.0 false) e ∙ (at_map is_open ss s.0 Gone ∙ s.1)),
)

-- if there is no front item, each open branch lacks the next one
open_lacks : (block : ℕ) (made owed : List ℕ) (ws : List Writing) (ss : List Served) (k : ℕ)
    → AllZip (BranchKeeps block made None owed) ws ss → is_open (served_at ss k) ≡ true
    → served_at ss k ≡ Lacks
open_lacks block made owed [] [] k a e = absurd (false≢true e)
open_lacks block made owed (w ∷ ws) (Lacks ∷ ss) zero a e = refl
open_lacks block made owed (w ∷ ws) (Has ∷ ss) zero a e = absurd a.0.bytes
open_lacks block made owed (w ∷ ws) (Gone ∷ ss) zero a e = absurd (false≢true e)
open_lacks block made owed (w ∷ ws) (s ∷ ss) (suc k) a e = open_lacks block made owed ws ss k a.1 e
open_lacks block made owed _ _ k a e = absurd a

close_is : (f : Option Item) → is_close f ≡ true → f ≡ Some Close
close_is (Some Close) e = refl
close_is _ e = absurd (false≢true e)

-- Close becomes the front item only once the machine has finished
pub front_ends : (f : Option Item) (block : ℕ) (want : Want) (owed : List (List ℕ))
    → is_close f ≡ true → FrontIs block want owed f → want ≡ Finished
front_ends (Some Close) block want owed e h = h.0
front_ends _ block want owed e h = absurd (false≢true e)

spent_closed : (finished : Bool) (want : Want) (made : List ℕ) (o : Putting)
    → finished ≡ is_finished want → OutletKeeps want made o → is_close o.front ≡ true
    → NoneLacks o.served → Spent finished o
spent_closed finished want made o f keeps e none =
    let t : finished ≡ true = f
    ∙ ap is_finished (front_ends o.front o.block want o.owed e keeps.front) in
    subst (λ (b : Bool). Spent b o) (sym t) (close_is o.front e, none)

spent_by : (f : Option Item) (finished : Bool) (want : Want) (made : List ℕ) (old mid new : Putting)
    → mid.front ≡ f → Advances finished old mid → Advances finished mid new
    → (IsSome mid.front → NoneLacks mid.served → is_close mid.front ≡ true)
    → new.served ≡ mid.served → (IsSome mid.front → new.front ≡ mid.front) → NoneLacks new.served
    → finished ≡ is_finished want → OutletKeeps want made old → SomeOpen old.served
    → Spent finished new
spent_by None finished want made old mid new e a b turned served kept none f keeps opens =
    let k = a.keeps want made f keeps in
    let s = some_open_on old.served mid.served a.opens opens in
    let z =
    subst (λ (x : Option Item). AllZip
    (BranchKeeps mid.block made x (concat mid.owed)) mid.ends mid.served) e k.branches in
    absurd (none s.0 (ap (λ (l : List Served). served_at l s.0) served
    ∙ open_lacks mid.block made (concat mid.owed) mid.ends mid.served s.0 z s.1))
spent_by (Some item) finished want made old mid new e a b turned served kept none f keeps opens =
    let some : IsSome mid.front = subst (λ (x : Option Item). IsSome x) (sym e) refl in
    let c : is_close new.front ≡ true = ap is_close (kept some)
    ∙ turned some (subst (λ (l : List Served). NoneLacks l) served none) in
    spent_closed finished want made new f (b.keeps want made f (a.keeps want made f keeps)) c none

-- after the front item was dropped, if it could be, and the next one was loaded, if there was none
pub spent : (finished : Bool) (want : Want) (made : List ℕ) (old mid new : Putting)
    → Advances finished old mid → Advances finished mid new
    → (IsSome mid.front → NoneLacks mid.served → is_close mid.front ≡ true)
    → new.served ≡ mid.served → (IsSome mid.front → new.front ≡ mid.front) → NoneLacks new.served
    → finished ≡ is_finished want → OutletKeeps want made old → SomeOpen old.served
    → Spent finished new
spent finished want made old mid new = spent_by mid.front finished want made old mid new refl

pub some_open : (ss : List Served) → count_by is_open ss ≢ 0 → SomeOpen ss
some_open [] n = absurd (n refl)
some_open (Lacks ∷ ss) n = (0, refl)
some_open (Has ∷ ss) n = (0, refl)
some_open (Gone ∷ ss) n =
    let f = sum_by-cons (λ x. cond (is_open x) 1 0) Gone ss in
    let s = some_open ss (λ e. n (omega (arith, e, f))) in
    (suc s.0, s.1)

-- it cannot be that some branches are open and none is
pub some_or_none : {P : Type 0} (n : ℕ) (ss : List Served) → n ≡ count_by is_open ss → n ≢ 0
    → NoneOpen ss → P
some_or_none n ss e some none =
    let s = some_open ss (λ z. some (e ∙ z)) in
    absurd (false≢true (sym (ap is_open (none s.0)) ∙ s.1))
