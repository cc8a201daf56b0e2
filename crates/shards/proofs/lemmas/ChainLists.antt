-- The lists of a chain: its nodes and its pipes, by number.
use Rattle.std.proofs.Common.{◌≡◌, ℕ, zero, suc, ◌+◌, ◌<◌, List, [], ◌∷◌, ◌++◌, length, map, take}
use Rattle.std.proofs.Common.{drop, get_or, Bool, true, false, Some, slice_get, slice_index_or}
use Rattle.std.proofs.Common.{refl, ap, ◌∙◌, sym, subst, arith, length-append, ◌≤◌}
use Rattle.std.proofs.lemmas.Option.{none-some, same_Some}
use Rattle.commands.specs.declared.spec.FilterSpec.{FilterSpec}
use Rattle.planner.specs.declared.plan.Node.{Node}
use Rattle.planner.specs.declared.plan.Node.TheVariants.{Stage}
use Rattle.shards.specs.Chains.{chained, filters_of, joints}
use Rattle.shards.specs.inner.Links.{IsLink}

-- the stage of a filter after this many others
abbrev pub link : ℕ → FilterSpec → Node
link before f = Stage (suc before) f (before ∷ []) (Some (suc before) ∷ [])

-- ---- what is at a place

pub front_at : {A : Type 0} (xs ys : List A) (k : ℕ) (x : A) → slice_get xs k ≡ Some x
    → slice_get (xs ++ ys) k ≡ Some x
front_at [] ys k x e = absurd (none-some x e)
front_at (y ∷ xs) ys zero x e = e
front_at (y ∷ xs) ys (suc k) x e = front_at xs ys k x e

pub mapped_at : {A B : Type 0} (f : A → B) (xs : List A) (k : ℕ) (x : A) → slice_get xs k ≡ Some x
    → slice_get (map f xs) k ≡ Some (f x)
mapped_at f [] k x e = absurd (none-some x e)
mapped_at f (y ∷ xs) zero x e = ap (λ z. Some (f z)) (same_Some y x e)
mapped_at f (y ∷ xs) (suc k) x e = mapped_at f xs k x e

-- a number below the length is a place
pub there_is : {A : Type 0} (xs : List A) (k : ℕ) → k < length xs
    → (x : A) × (slice_get xs k ≡ Some x)
there_is [] k l = absurd (omega (arith, l))
there_is (x ∷ xs) zero l = (x, refl)
there_is (x ∷ xs) (suc k) l = there_is xs k (omega (arith, l))

pub chained_at : (b : ℕ) (fs : List FilterSpec) (k : ℕ) (f : FilterSpec) → slice_get fs k ≡ Some f
    → slice_get (chained b fs) k ≡ Some (link (b + k) f)
chained_at b [] k f e = absurd (none-some f e)
chained_at b (g ∷ fs) zero f e =
    let z : b + 0 ≡ b = omega arith in
    ap (λ (h : FilterSpec). Some (link b h)) (same_Some g f e)
    ∙ ap (λ (k : ℕ). Some (link k f)) (sym z)
chained_at b (g ∷ fs) (suc k) f e =
    let z : b + suc k ≡ suc b + k = omega arith in
    chained_at (suc b) fs k f e ∙ ap (λ (m : ℕ). Some (link m f)) (sym z)

pub joint_at : (node count p : ℕ) → p < count
    → slice_index_or (joints node count) p (0, 0) ≡ (node + p, suc (node + p))
joint_at node zero p l = absurd (omega (arith, l))
joint_at node (suc count) zero l =
    let z : node + 0 ≡ node = omega arith in
    ap (λ (k : ℕ). (k, suc k)) (sym z)
joint_at node (suc count) (suc p) l =
    let z : node + suc p ≡ suc node + p = omega arith in
    joint_at (suc node) count p (omega (arith, l)) ∙ ap (λ (k : ℕ). (k, suc k)) (sym z)

pub joints_length : (node count : ℕ) → length (joints node count) ≡ count
joints_length node zero = refl
joints_length node (suc count) = ap suc (joints_length (suc node) count)

pub joints_counted : (pipes : List (ℕ × ℕ)) (count : ℕ) → pipes ≡ joints 0 count
    → length pipes ≡ count
joints_counted pipes count e = ap length e ∙ joints_length 0 count

pub chained_length : (b : ℕ) (fs : List FilterSpec) → length (chained b fs) ≡ length fs
chained_length b [] = refl
chained_length b (f ∷ fs) = ap suc (chained_length (suc b) fs)

-- ---- the filters of stages

pub filters_chained : (b : ℕ) (fs : List FilterSpec) → filters_of (chained b fs) ≡ fs
filters_chained b [] = refl
filters_chained b (f ∷ fs) = ap (λ (gs : List FilterSpec). f ∷ gs) (filters_chained (suc b) fs)

pub filters_taken : (b n : ℕ) (fs : List FilterSpec)
    → filters_of (take n (chained b fs)) ≡ take n fs
filters_taken b zero fs = refl
filters_taken b (suc n) [] = refl
filters_taken b (suc n) (f ∷ fs) = ap (λ (gs : List FilterSpec). f ∷ gs)
    (filters_taken (suc b) n fs)

pub filters_dropped : (b n : ℕ) (fs : List FilterSpec)
    → filters_of (drop n (chained b fs)) ≡ drop n fs
filters_dropped b zero fs = filters_chained b fs
filters_dropped b (suc n) [] = refl
filters_dropped b (suc n) (f ∷ fs) = filters_dropped (suc b) n fs

-- ---- the first stage of a chain

first_is : (n m : Node) (ns ms : List Node) → n ∷ ns ≡ m ∷ ms → n ≡ m
first_is n m ns ms e = ap (λ (l : List Node). get_or l 0 n) e

-- the first node of a chain is a link
pub first_link : (before : ℕ) (node : Node) (nodes : List Node) (fs : List FilterSpec)
    → node ∷ nodes ≡ chained before fs → IsLink before node
first_link before node nodes [] e = absurd (cc)
first_link before node nodes (f ∷ fs) e =
    (f, first_is node (link before f) nodes (chained (suc before) fs) e)

-- the same of the first of some nodes
pub first_link_of : (before : ℕ) (nodes : List Node) (node : Node) → node ≡ get_or nodes 0 node
    → 1 ≤ length nodes → (fs : List FilterSpec)
    → nodes ≡ chained before fs → IsLink before node
first_link_of before [] node is some fs e = absurd (omega (arith, some))
first_link_of before (n ∷ nodes) node is some fs e =
    subst (IsLink before) (sym is) (first_link before n nodes fs e)

-- ---- a list before its last member

front_taken : {A : Type 0} (xs ys : List A) → take (length xs) (xs ++ ys) ≡ xs
front_taken [] ys = refl
front_taken (x ∷ xs) ys = ap (λ zs. x ∷ zs) (front_taken xs ys)

-- lists that are the same with a last member are the same without it
pub same_front : {A : Type 0} (xs ys : List A) (a b : A) → xs ++ a ∷ [] ≡ ys ++ b ∷ [] → xs ≡ ys
same_front xs ys a b e =
    let one = length-append xs (a ∷ []) in
    let other = length-append ys (b ∷ []) in
    let counts : length xs ≡ length ys = omega (arith, ap length e, one, other) in
    sym (front_taken xs (a ∷ []))
    ∙ (ap (take (length xs)) e
    ∙ (ap (λ (n : ℕ). take n (ys ++ b ∷ [])) counts ∙ front_taken ys (b ∷ [])))

-- what is true is not false
pub not_both : (b : Bool) → b ≡ false → b ≡ true → ⊥
not_both true f t = absurd (cc)
not_both false f t = absurd (cc)
