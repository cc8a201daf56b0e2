-- What the plain program computes.
use Rattle.std.proofs.Common.{◌≡◌, ℕ, zero, suc, ◌+◌, ◌<◌, ◌≤◌, ◌||◌, Bool, true, false, cond, List}
use Rattle.std.proofs.Common.{[], ◌∷◌, ◌++◌, length, map, take, get_or, set, Option, Some, None}
use Rattle.std.proofs.Common.{is_none, refl, sym, ap, ap₂, ◌∙◌, subst, inl, inr, ⊎_elim, ne_eqb}
use Rattle.std.proofs.Common.{eq-eqb, arith, slice_get, slice_index_or, length-set, take-suc}
use Rattle.std.specs.Prelude.{if◌then◌else◌, ◌==◌}
use Rattle.std.specs.List.{AllByRecursion, list_any}
use Rattle.std.specs.Global.{Vec}
use Rattle.std.proofs.lemmas.Bool.{cases_eq}
use Rattle.std.proofs.Math.Seq.{take_all}
use Rattle.machine.specs.Whole.{is_some_missing, status_of, WholeAnswer}
use Rattle.graphs.specs.Graph.{Graph, GraphNode, Source, Stage, Sink, node_at, writer, IsPipe}
use Rattle.graphs.specs.Graph.{IsAmong, IsPlan}
use Rattle.network_laws.specs.Sequential.{Contents, is_missing, missing_in, inputs_at, output_of}
use Rattle.network_laws.specs.Sequential.{held_after, answer, status_at}
use Rattle.network_tests.specs.inner.Plans.{graph_node, graph_of, list_at}
use Rattle.network_tests.specs.declared.plan.SmallNode.{SmallNode}
use Rattle.network_tests.specs.declared.plan.SmallNode.TheVariants as is
use Rattle.network_tests.specs.declared.plan.SmallPlan.{SmallPlan}
use Rattle.network_laws.proofs.AnswerLaws.{AgreeOn, output_agree}

-- the output of a node was given to each of its pipes below the number n, and the others are as
-- they were
pub record GivenUpTo (n : ℕ) (pipes : List (ℕ × ℕ)) (node : ℕ) (out : List ℕ)
    (old now : List (Vec ℕ)) : Type 0 where
  pub count : length now ≡ length pipes
  pub below : (p : ℕ) → p < n
      → list_at now p ≡ (if (slice_index_or pipes p (0, 0)).0 == node then out else list_at old p)
  pub above : (p : ℕ) → n ≤ p → list_at now p ≡ list_at old p

-- each pipe holds what it holds after the first n nodes have run
pub record HoldsAfter (n : ℕ) (g : Graph) (contents : Contents) (held : List (Vec ℕ)) : Type 0 where
  pub count : length held ≡ length g.pipes
  pub lists : (p : ℕ) → IsPipe g p → list_at held p ≡ held_after g contents n p

-- the list at one place is another one
set_same : (xs : List (Vec ℕ)) (i : ℕ) (v : Vec ℕ) → i < length xs
    → list_at (set xs i v) i ≡ v.items
set_same [] i v lt = absurd (omega arith)
set_same (x ∷ xs) zero v lt = refl
set_same (x ∷ xs) (suc i) v lt = set_same xs i v (let l : i < length xs = omega arith in l)

set_other : (xs : List (Vec ℕ)) (i p : ℕ) (v : Vec ℕ) → (p ≡ i → ⊥)
    → list_at (set xs i v) p ≡ list_at xs p
set_other [] i p v ne = refl
set_other (x ∷ xs) zero zero v ne = absurd (ne refl)
set_other (x ∷ xs) zero (suc p) v ne = refl
set_other (x ∷ xs) (suc i) zero v ne = refl
set_other (x ∷ xs) (suc i) (suc p) v ne = set_other xs i p v (λ e. ne (ap (λ n. suc n) e))

-- one pipe more was given the output
pub given_more : (n : ℕ) (pipes : List (ℕ × ℕ)) (node : ℕ) (out : List ℕ)
    (old now now' : List (Vec ℕ)) (v : Vec ℕ) → GivenUpTo n pipes node out old now
    → n < length pipes → (get_or pipes n (0, 0)).0 ≡ node → now' ≡ set now n v → v.items ≡ out
    → GivenUpTo (n + 1) pipes node out old now'
given_more n pipes node out old now now' v given lt own e f =
    let long : length now' ≡ length now = ap length e ∙ length-set now n v in
    let lt' : n < length now = omega (arith, given.count) in
    let here : list_at now' n ≡ out = ap (λ (l : List (Vec ℕ)). list_at l n) e
    ∙ set_same now n v lt' ∙ f in
    let elsewhere : (p : ℕ) → (p ≡ n → ⊥) → list_at now' p ≡ list_at now p =
    λ p ne. ap (λ (l : List (Vec ℕ)). list_at l p) e ∙ set_other now n p v ne in
    record {
      count = long ∙ given.count;
      below = λ p l. ⊎_elim
          (λ same. ap (λ (q : ℕ). list_at now' q) same ∙ here
          ∙ sym (ap (λ (t : Bool). cond t out (list_at old p))
          (eq-eqb (get_or pipes p (0, 0)).0 node (ap (λ (q : ℕ). (get_or pipes q (0, 0)).0) same
          ∙ own))))
          (λ ne. let l' : p < n = omega arith in elsewhere p ne ∙ given.below p l')
          (cases_eq p n);
      above = λ p l. let ne : p ≡ n → ⊥ = λ same. omega arith in let l' : n ≤ p = omega arith in
          elsewhere p ne ∙ given.above p l';
    }

-- a pipe that is another node's was left alone
pub given_same : (n : ℕ) (pipes : List (ℕ × ℕ)) (node : ℕ) (out : List ℕ)
    (old now now' : List (Vec ℕ)) → GivenUpTo n pipes node out old now
    → ((get_or pipes n (0, 0)).0 ≡ node → ⊥) → now' ≡ now
    → GivenUpTo (n + 1) pipes node out old now'
given_same n pipes node out old now now' given other e =
    subst (λ (l : List (Vec ℕ)). GivenUpTo (n + 1) pipes node out old l) (sym e) (record {
      count = given.count;
      below = λ p l. ⊎_elim
          (λ same. let l' : n ≤ p = omega arith in given.above p l'
          ∙ sym (ap (λ (t : Bool). cond t out (list_at old p))
          (ne_eqb (get_or pipes p (0, 0)).0 node
          (λ own. other (ap (λ (q : ℕ). (get_or pipes q (0, 0)).0) (sym same) ∙ own)))))
          (λ ne. let l' : p < n = omega arith in given.below p l')
          (cases_eq p n);
      above = λ p l. let l' : n ≤ p = omega arith in given.above p l';
    })

or_parts : (a b : Bool) → (a || b) ≡ false → (a ≡ false) × (b ≡ false)
or_parts true b e = absurd (cc e)
or_parts false b e = (refl, e)

or_true : (a : Bool) → (a || true) ≡ true
or_true true = refl
or_true false = refl

map_any : {A B : Type 0} (t : B → Bool) (f : A → B) (xs : List A)
    → list_any t (map f xs) ≡ list_any (λ x. t (f x)) xs
map_any t f [] = refl
map_any t f (x ∷ xs) = ap (λ (b : Bool). t (f x) || b) (map_any t f xs)

any_snoc : {A : Type 0} (t : A → Bool) (xs : List A) (x : A) → list_any t xs ≡ false → t x ≡ false
    → list_any t (xs ++ x ∷ []) ≡ false
any_snoc t [] x a b = ap (λ (y : Bool). y || false) b
any_snoc t (y ∷ xs) x a b =
    let d = or_parts (t y) (list_any t xs) a in
    ap₂ (λ (u v : Bool). u || v) d.0 (any_snoc t xs x d.1 b)

any_at : {A : Type 0} (t : A → Bool) (xs : List A) (i : ℕ) (d : A) → i < length xs
    → t (get_or xs i d) ≡ true → list_any t xs ≡ true
any_at t [] i d lt e = absurd (omega arith)
any_at t (x ∷ xs) zero d lt e = ap (λ (y : Bool). y || list_any t xs) e
any_at t (x ∷ xs) (suc i) d lt e = ap (λ (y : Bool). t x || y)
    (any_at t xs i d (let l : i < length xs = omega arith in l) e) ∙ or_true (t x)

module _ (g : Graph) (m : ℕ → Bool) (held : ℕ → List ℕ) where
  -- the input that a pipe is
  abbrev input_at : ℕ → Option (List ℕ)
  input_at p = if is_missing g m (writer g p) then None else Some (held p)

  is_none_at : (p : ℕ) (b : Bool) → is_missing g m (writer g p) ≡ b → is_none (input_at p) ≡ b
  is_none_at p b e = go (is_missing g m (writer g p)) ∙ e
    where
      go : (t : Bool) → is_none (if t then None else Some (held p)) ≡ t
      go true = refl
      go false = refl

  pub one_missing : (inputs : List ℕ) (i : ℕ) → i < length inputs
      → is_missing g m (writer g (get_or inputs i 0)) ≡ true
      → is_some_missing (inputs_at g m held inputs) ≡ true
  one_missing inputs i lt e = map_any is_none input_at inputs
      ∙ any_at (λ p. is_none (input_at p)) inputs i 0 lt (is_none_at (get_or inputs i 0) true e)

  pub none_missing_more : (inputs : List ℕ) (i : ℕ) → i < length inputs
      → is_some_missing (inputs_at g m held (take i inputs)) ≡ false
      → is_missing g m (writer g (get_or inputs i 0)) ≡ false
      → is_some_missing (inputs_at g m held (take (i + 1) inputs)) ≡ false
  none_missing_more inputs i lt before e =
      map_any is_none input_at (take (i + 1) inputs)
      ∙ ap (λ (l : List ℕ). list_any (λ p. is_none (input_at p)) l)
      (ap (λ (n : ℕ). take n inputs) (let o : i + 1 ≡ suc i = omega arith in o)
      ∙ take-suc inputs i 0 lt)
      ∙ any_snoc (λ p. is_none (input_at p)) (take i inputs) (get_or inputs i 0)
      (sym (map_any is_none input_at (take i inputs)) ∙ before)
      (is_none_at (get_or inputs i 0) false e)

  pub none_missing_all : (inputs : List ℕ) (i : ℕ) → length inputs ≤ i
      → is_some_missing (inputs_at g m held (take i inputs)) ≡ false
      → is_some_missing (inputs_at g m held inputs) ≡ false
  none_missing_all inputs i le e = ap (λ (l : List ℕ). is_some_missing (inputs_at g m held l))
      (sym (take_all i inputs le)) ∙ e

pub map_long : {A B : Type 0} (f : A → B) (xs : List A) → length xs ≡ length (map f xs)
map_long f [] = refl
map_long f (x ∷ xs) = ap (λ n. suc n) (map_long f xs)

-- the node k of a plan, in its graph
node_found : {A B : Type 0} (f : A → B) (xs : List A) (k : ℕ) (d : A) → k < length xs
    → slice_get (map f xs) k ≡ Some (f (get_or xs k d))
node_found f [] k d lt = absurd (omega arith)
node_found f (x ∷ xs) zero d lt = refl
node_found f (x ∷ xs) (suc k) d lt = node_found f xs k d (let l : k < length xs = omega arith in l)

pub node_is : {F : Type 0} (whole : F → WholeAnswer) (plan : SmallPlan F) (k : ℕ)
    (n m : SmallNode F) → k < length plan.nodes.items → n ≡ get_or plan.nodes.items k n → n ≡ m
    → node_at (graph_of whole plan) k ≡ Some (graph_node whole m)
node_is {F} whole plan k n m lt e f = node_found (graph_node whole) plan.nodes.items k n lt
    ∙ ap (λ (x : SmallNode F). Some (graph_node whole x)) (sym e ∙ f)

all_from : (n : ℕ) (xs : List ℕ) → ((p : ℕ) → IsAmong p xs → p < n) → AllByRecursion (λ p. p < n) xs
all_from n [] h = tt
all_from n (x ∷ xs) h = (h x (inl refl), all_from n xs (λ p i. h p (inr i)))

-- the inputs of a stage are pipes
pub inputs_are_pipes : (g : Graph) (k : ℕ) (filter : WholeAnswer) (inputs : List ℕ)
    (branches : List (Option ℕ)) → IsPlan g → node_at g k ≡ Some (Stage filter inputs branches)
    → AllByRecursion (λ p. p < length g.pipes) inputs
inputs_are_pipes g k filter inputs branches plan e =
    all_from (length g.pipes) inputs
    (λ p i. (((plan.wired k (Stage filter inputs branches) e).0.each p).1 i).0)

module _ (g : Graph) (contents : Contents) (plan : IsPlan g) where
  agree_at : (n : ℕ) (held : List (Vec ℕ)) → HoldsAfter n g contents held
      → (node : Option GraphNode) → node_at g n ≡ node
      → AgreeOn g contents (list_at held) (held_after g contents n) node
  agree_at n held h (Some (Stage filter inputs branches)) e =
      λ q i. h.lists q (((plan.wired n (Stage filter inputs branches) e).0.each q).1 i).0
  agree_at n held h _ e = tt

  -- one node more has run
  pub holds_more : (n : ℕ) (held new : List (Vec ℕ)) (out : List ℕ) → HoldsAfter n g contents held
      → out ≡ output_of g contents (list_at held) n (node_at g n) → length new ≡ length g.pipes →
      ((p : ℕ) → p < length g.pipes
      → list_at new p ≡ (if writer g p == n then out else list_at held p))
      → HoldsAfter (n + 1) g contents new
  holds_more n held new out h e count given = record {
    count = count;
    lists = λ p is.
        let o : n + 1 ≡ suc n = omega arith in
        let out_is : out ≡ output_of g contents (held_after g contents n) n (node_at g n) = e
        ∙ output_agree g contents (list_at held) (held_after g contents n) n (node_at g n)
        (agree_at n held h (node_at g n) refl) in
        given p is
        ∙ ap₂ (λ (a b : List ℕ). if writer g p == n then a else b) out_is (h.lists p is)
        ∙ sym (ap (λ (m : ℕ). held_after g contents m p) o);
  }

  -- all nodes have run
  pub holds_all : (n : ℕ) (held : List (Vec ℕ)) → HoldsAfter n g contents held → n ≡ length g.nodes
      → (p : ℕ) → IsPipe g p → list_at held p ≡ answer g contents p
  unfolding answer
  holds_all n held h e p is = h.lists p is ∙ ap (λ (m : ℕ). held_after g contents m p) e

-- a node that is no stage has status 0
pub no_stage : {F : Type 0} (whole : F → WholeAnswer) (g : Graph) (contents : Contents) (held : ℕ
    → List ℕ) (n : SmallNode F) → ((filter : F) (inputs : Vec ℕ) (branches : Vec (Option ℕ))
    → n ≡ is.Stage filter inputs branches → ⊥)
    → status_at g contents held (Some (graph_node whole n)) ≡ 0
no_stage whole g contents held (is.Stage filter inputs branches) h =
    absurd (h filter inputs branches refl)
no_stage whole g contents held _ h = refl

module _ (g : Graph) (contents : Contents) (held : ℕ → List ℕ) (k : ℕ) (filter : WholeAnswer)
    (inputs : List ℕ) (branches : List (Option ℕ))
    (stage : node_at g k ≡ Some (Stage filter inputs branches)) where
  -- what a stage makes is its filter's answer to its inputs
  pub stage_gives : (pipes : List ℕ) (ins whole : List (Option (List ℕ))) → pipes ≡ inputs
      → whole ≡ inputs_at g (missing_in contents) held pipes → ins ≡ whole
      → (filter ins).out ≡ output_of g contents held k (node_at g k)
  stage_gives pipes ins whole e f h =
      ap (λ (l : List (Option (List ℕ))). (filter l).out) (h
      ∙ (f ∙ ap (inputs_at g (missing_in contents) held) e))
      ∙ sym (ap (output_of g contents held k) stage)

  -- its exit status is 1 if one of its inputs is missing
  pub stage_status : (pipes : List ℕ) (missing : Bool) → pipes ≡ inputs
      → missing ≡ is_some_missing (inputs_at g (missing_in contents) held pipes)
      → status_at g contents held (node_at g k) ≡ (if missing then 1 else 0)
  stage_status pipes missing e f =
      ap (status_at g contents held) stage
      ∙ (ap (λ (l : List ℕ). status_of (inputs_at g (missing_in contents) held l)) (sym e)
      ∙ ap (λ (b : Bool). if b then 1 else 0) (sym f))

-- the output of a node that was given to the pipes of this list was given to those of the plan
pub given_all : (node : ℕ) (pipes pipes' : List (ℕ × ℕ)) (out out' : List ℕ)
    (old new : List (Vec ℕ)) → pipes ≡ pipes' → out ≡ out' →
    ((p : ℕ) → p < length pipes
    → list_at new p
    ≡ (if (slice_index_or pipes p (0, 0)).0 == node then out else list_at old p)) →
    (p : ℕ) → p < length pipes'
    → list_at new p
    ≡ (if (slice_index_or pipes' p (0, 0)).0 == node then out' else list_at old p)
given_all node pipes pipes' out out' old new e f given p lt =
    given p (subst (λ (l : List (ℕ × ℕ)). p < length l) (sym e) lt)
    ∙ ap₂ (λ (l : List (ℕ × ℕ)) (o : List ℕ). if
    (slice_index_or l p (0, 0)).0 == node then o else list_at old p) e f

-- what is given of these lists is given of the lists that they are
pub output_held : (g : Graph) (contents : Contents) (n : ℕ) (slice held : List (Vec ℕ))
    (out : List ℕ) → slice ≡ held → out ≡ output_of g contents (list_at slice) n (node_at g n)
    → out ≡ output_of g contents (list_at held) n (node_at g n)
output_held g contents n slice held out e f = f
    ∙ ap (λ (l : List (Vec ℕ)). output_of g contents (list_at l) n (node_at g n)) e
