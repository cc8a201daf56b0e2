-- The names of outputs, and what a rename does to each.
use Rattle.std.proofs.Common.{◌≡◌, ◌≢◌, inl, inr, ⊎_elim, ◌⊎◌, ℕ, zero, suc, ◌+◌, Bool, true, false, cond, List, [], ◌∷◌, take, Some, None, refl, sym, ◌∙◌, ap, subst, arith}
use Rattle.std.specs.Prelude.{slice_get, All, bytes_eq}
use Rattle.std.proofs.lemmas.Bool.{cases_Bool}
use Rattle.std.proofs.lemmas.Slice.Eq.{bytes_eq-Decides}
use Rattle.std.proofs.lemmas.List.Elements.{All-cons}
use Rattle.std.proofs.Math.Numerals.{suc-eq-add-one}
use Rattle.folders.specs.inner.Folder.{View, FolderShown, Renames}
use Rattle.folders.specs.inner.Outputs.{IsNoNew, IsNoPlace, AreApart, renamed, placed}
use Rattle.folders.specs.declared.output.Output.{Output}
use Rattle.folders.proofs.Lists.{all_at}

-- ---- two names

pub name_cases : (a b : List ℕ) → (a ≡ b) ⊎ (a ≢ b)
name_cases a b = ⊎_elim
    (λ t. inl ((bytes_eq-Decides a b).0 t))
    (λ f. inr (λ e. absurd (cc (sym f ∙ (bytes_eq-Decides a b).1 e))))
    (cases_Bool (bytes_eq a b))

same_name : (a : List ℕ) → bytes_eq a a ≡ true
same_name a = (bytes_eq-Decides a a).1 refl

differ : (a b : List ℕ) → a ≢ b → bytes_eq a b ≡ false
differ a b ne = ⊎_elim (λ t. absurd (ne ((bytes_eq-Decides a b).0 t))) (λ f. f) (cases_Bool (bytes_eq a b))

-- ---- one rename

pub renamed_to : (from to : List ℕ) (view : View) → renamed from to view to ≡ view from
renamed_to from to view =
    ap (λ (b : Bool). cond b (view from) (cond (bytes_eq to from) None (view to))) (same_name to)

pub renamed_from : (from to : List ℕ) (view : View) → from ≢ to → renamed from to view from ≡ None
renamed_from from to view apart =
    ap (λ (b : Bool). cond b (view from) (cond (bytes_eq from from) None (view from))) (differ from to apart)
    ∙ ap (λ (b : Bool). cond b None (view from)) (same_name from)

pub renamed_other : (from to n : List ℕ) (view : View) → n ≢ from → n ≢ to → renamed from to view n ≡ view n
renamed_other from to n view nof not =
    ap (λ (b : Bool). cond b (view from) (cond (bytes_eq n from) None (view n))) (differ n to not)
    ∙ ap (λ (b : Bool). cond b None (view n)) (differ n from nof)

renamed_at : (from to : List ℕ) (s s' : FolderShown) → from ≢ to → Renames from to s s' → (n : List ℕ) → s'.seen n ≡ renamed from to s.seen n
renamed_at from to s s' apart r n = ⊎_elim
    (λ is. ap s'.seen is ∙ r.moved ∙ sym (renamed_to from to s.seen) ∙ ap (renamed from to s.seen) (sym is))
    (λ not. ⊎_elim
    (λ is. ap s'.seen is ∙ r.free ∙ sym (renamed_from from to s.seen apart) ∙ ap (renamed from to s.seen) (sym is))
    (λ nof. r.others n nof not ∙ sym (renamed_other from to n s.seen nof not))
    (name_cases n from))
    (name_cases n to)

pub renamed_is : (from to : List ℕ) (s s' : FolderShown) → from ≢ to → Renames from to s s' → s'.seen ≡ renamed from to s.seen
renamed_is from to s s' apart r = λ i n. renamed_at from to s s' apart r n i

-- ---- several

pub all_head : {X : Type 0} (P : X → Type 0) (x : X) (xs : List X) → All P (x ∷ xs) → P x
all_head P x xs all = all 0 x (omega arith)

pub all_tail : {X : Type 0} (P : X → Type 0) (x : X) (xs : List X) → All P (x ∷ xs) → All P xs
all_tail P x xs all = λ k d within. all (suc k) d (omega (arith, within))

-- the names that no output has are as they were
pub placed_other : (os : List Output) (n : List ℕ) (view : View) → IsNoNew os n → IsNoPlace os n → placed os view n ≡ view n
placed_other [] n view nof not = refl
placed_other (o ∷ os) n view nof not =
    placed_other os n (renamed o.new o.place view) (all_tail (λ p. n ≢ p.new) o os nof) (all_tail (λ p. n ≢ p.place) o os not)
    ∙ renamed_other o.new o.place n view (all_head (λ p. n ≢ p.new) o os nof) (all_head (λ p. n ≢ p.place) o os not)

placed_suc : (os : List Output) (i : ℕ) (o : Output) (view : View) → slice_get os i ≡ Some o
    → placed (take (suc i) os) view ≡ renamed o.new o.place (placed (take i os) view)
placed_suc [] i o view at = absurd (cc at)
placed_suc (p ∷ os) zero o view at =
    let is : p ≡ o = cc at in
    ap (λ (q : Output). renamed q.new q.place view) is
placed_suc (p ∷ os) (suc i) o view at = placed_suc os i o (renamed p.new p.place view) at

pub placed_more : (os : List Output) (i : ℕ) (o : Output) (view : View) → slice_get os i ≡ Some o
    → placed (take (i + 1) os) view ≡ renamed o.new o.place (placed (take i os) view)
placed_more os i o view at =
    subst (λ (k : ℕ). placed (take k os) view ≡ renamed o.new o.place (placed (take i os) view)) (suc-eq-add-one i) (placed_suc os i o view at)

-- a name that is none of theirs
pub record IsOther (os : List Output) (n : List ℕ) : Type 0 where
  pub new : IsNoNew os n
  pub place : IsNoPlace os n

-- the two names of an output are two
pub own_apart : (os : List Output) (i : ℕ) (o : Output) → slice_get os i ≡ Some o → AreApart os → o.new ≢ o.place
own_apart [] i o at apart = absurd (cc at)
own_apart (p ∷ os) zero o at apart =
    let is : p ≡ o = cc at in
    subst (λ (q : Output). q.new ≢ q.place) is apart.0
own_apart (p ∷ os) (suc i) o at apart = own_apart os i o at apart.3

-- its new name is the place of none
pub new_apart : (os : List Output) (i : ℕ) (o : Output) → slice_get os i ≡ Some o → AreApart os → IsNoPlace os o.new
new_apart [] i o at apart = absurd (cc at)
new_apart (p ∷ os) zero o at apart =
    let is : p ≡ o = cc at in
    subst (λ (q : Output). IsNoPlace (p ∷ os) q.new) is (All-cons (λ q. p.new ≢ q.place) p os apart.0 apart.1.1)
new_apart (p ∷ os) (suc i) o at apart =
    All-cons (λ q. o.new ≢ q.place) p os (λ e. all_at (λ q. p.place ≢ q.new) os i o at apart.2.0 (sym e)) (new_apart os i o at apart.3)

-- they are none of those before
pub new_before : (os : List Output) (i : ℕ) (o : Output) → slice_get os i ≡ Some o → AreApart os → IsOther (take i os) o.new
new_before [] i o at apart = absurd (cc at)
new_before (p ∷ os) zero o at apart = record { new = λ k d within. absurd (omega (arith, within)); place = λ k d within. absurd (omega (arith, within)) }
new_before (p ∷ os) (suc i) o at apart =
    let before = new_before os i o at apart.3 in record {
      new = All-cons (λ q. o.new ≢ q.new) p (take i os) (λ e. all_at (λ q. p.new ≢ q.new) os i o at apart.1.0 (sym e)) before.new;
      place = All-cons (λ q. o.new ≢ q.place) p (take i os) (λ e. all_at (λ q. p.place ≢ q.new) os i o at apart.2.0 (sym e)) before.place;
    }

pub place_before : (os : List Output) (i : ℕ) (o : Output) → slice_get os i ≡ Some o → AreApart os → IsOther (take i os) o.place
place_before [] i o at apart = absurd (cc at)
place_before (p ∷ os) zero o at apart = record { new = λ k d within. absurd (omega (arith, within)); place = λ k d within. absurd (omega (arith, within)) }
place_before (p ∷ os) (suc i) o at apart =
    let before = place_before os i o at apart.3 in record {
      new = All-cons (λ q. o.place ≢ q.new) p (take i os) (λ e. all_at (λ q. p.new ≢ q.place) os i o at apart.1.1 (sym e)) before.new;
      place = All-cons (λ q. o.place ≢ q.place) p (take i os) (λ e. all_at (λ q. p.place ≢ q.place) os i o at apart.2.1 (sym e)) before.place;
    }

-- ---- all of them in their places

pub placed_whole : (os : List Output) (i : ℕ) (o : Output) (view : View) → slice_get os i ≡ Some o → AreApart os → placed os view o.place ≡ view o.new
placed_whole [] i o view at apart = absurd (cc at)
placed_whole (p ∷ os) zero o view at apart =
    let is : p ≡ o = cc at in
    subst (λ (q : Output). placed (p ∷ os) view q.place ≡ view q.new) is
    (placed_other os p.place (renamed p.new p.place view) apart.2.0 apart.2.1 ∙ renamed_to p.new p.place view)
placed_whole (p ∷ os) (suc i) o view at apart =
    placed_whole os i o (renamed p.new p.place view) at apart.3
    ∙ renamed_other p.new p.place o.new view
    (λ e. all_at (λ q. p.new ≢ q.new) os i o at apart.1.0 (sym e))
    (λ e. all_at (λ q. p.place ≢ q.new) os i o at apart.2.0 (sym e))

pub placed_gone : (os : List Output) (i : ℕ) (o : Output) (view : View) → slice_get os i ≡ Some o → AreApart os → placed os view o.new ≡ None
placed_gone [] i o view at apart = absurd (cc at)
placed_gone (p ∷ os) zero o view at apart =
    let is : p ≡ o = cc at in
    subst (λ (q : Output). placed (p ∷ os) view q.new ≡ None) is
    (placed_other os p.new (renamed p.new p.place view) apart.1.0 apart.1.1 ∙ renamed_from p.new p.place view apart.0)
placed_gone (p ∷ os) (suc i) o view at apart = placed_gone os i o (renamed p.new p.place view) at apart.3
