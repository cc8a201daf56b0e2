-- The nodes of a network as they are made, one after another.
use Rattle.std.proofs.Common.{◌≡◌, ℕ, ◌+◌, ◌<◌, ◌≤◌, ⊎_elim, List, [], ◌∷◌, ◌++◌, length, get_or}
use Rattle.std.proofs.Common.{Option, Some, refl, sym, ap, ◌∙◌, subst, subst₂, arith}
use Rattle.std.specs.Prelude.{slice_get}
use Rattle.std.proofs.lemmas.Bool.{cases_lt}
use Rattle.std.proofs.lemmas.List.{length_push}
use Rattle.std.proofs.lemmas.Option.{none-some, same_Some, slice_get_within, slice_get_read}
use Rattle.filters.specs.declared.filter.Filter.{Filter}
use Rattle.network_nodes.specs.declared.making.NodeSpec as made
use Rattle.openings.specs.Answers.{OpenedFiles, own_file}
use Rattle.openings.proofs.AnswerLaws.{slice_get_last, slice_get_others}
use Rattle.planner.specs.declared.plan.Node.{Node}
use Rattle.planner.specs.Planned.{Planned}
use Rattle.step_scheduler.specs.inner.Nodes.{presences_of, CanBeNode, CanBeNodes, IsMadeOf}
use Rattle.step_scheduler.specs.inner.Nodes.{AreMadeOf}

-- the first nodes were made, this many
pub record AreFirst (plan : Planned) (o : OpenedFiles) (nodes : List (made.NodeSpec Filter))
    (count : ℕ) : Type 0 where
  pub count_is : length nodes ≡ count
  pub each : (k : ℕ) (n : Node) (m : made.NodeSpec Filter) → slice_get plan.nodes k ≡ Some n
      → slice_get nodes k ≡ Some m
      → IsMadeOf (presences_of plan o) (own_file o k) n m

-- none was made yet
pub none_made : (plan : Planned) (o : OpenedFiles) (nodes : List (made.NodeSpec Filter))
    → nodes ≡ [] → AreFirst plan o nodes 0
none_made plan o nodes e = subst (λ (xs : List (made.NodeSpec Filter)). AreFirst plan o xs 0)
    (sym e) (record { count_is = refl; each = λ k n m a b. absurd (none-some m b) })

-- one more was made
one_made : (plan : Planned) (o : OpenedFiles) (nodes now : List (made.NodeSpec Filter)) (i : ℕ)
    (n : Node) (m : made.NodeSpec Filter) → AreFirst plan o nodes i
    → slice_get plan.nodes i ≡ Some n → IsMadeOf (presences_of plan o) (own_file o i) n m
    → now ≡ nodes ++ m ∷ [] → AreFirst plan o now (i + 1)
one_made plan o nodes now i n m first there is more =
    subst (λ (xs : List (made.NodeSpec Filter)). AreFirst plan o xs (i + 1)) (sym more) (record {
      count_is = (let l = length_push nodes m in let c = first.count_is in omega (arith, l, c));
      each = λ k a b at made_at. ⊎_elim
          (λ l. first.each k a b at (sym (slice_get_others nodes m k (omega (arith, l))) ∙ made_at))
          (λ g.
          let here : k ≡ length nodes = (let w = slice_get_within (nodes ++ m ∷ []) k b made_at in
          let l = length_push nodes m in omega (arith, g, w, l)) in
          let same : k ≡ i = here ∙ first.count_is in
          let b_is : m ≡ b = same_Some m b (sym (slice_get_last nodes m)
          ∙ (ap (λ (j : ℕ). slice_get (nodes ++ m ∷ []) j) (sym here) ∙ made_at)) in
          let a_is : n ≡ a = same_Some n a (sym there
          ∙ (ap (λ (j : ℕ). slice_get plan.nodes j) (sym same) ∙ at)) in
          subst (λ (j : ℕ). IsMadeOf (presences_of plan o) (own_file o j) a b) (sym same)
          (subst₂ (λ (x : Node) (y : made.NodeSpec Filter). IsMadeOf (presences_of plan o)
          (own_file o i) x y) a_is b_is is))
          (cases_lt k (length nodes));
    })

-- the node that a loop over the plan's nodes is at
pub node_here : (plan : Planned) (bound nodes : List Node) (i : ℕ) (n : Node) → bound ≡ plan.nodes
    → nodes ≡ plan.nodes → i < length bound → n ≡ get_or nodes i n → slice_get plan.nodes i ≡ Some n
node_here plan bound nodes i n one two lt is =
    slice_get_read plan.nodes (length plan.nodes) i n refl (let l = ap length one in
    omega (arith, lt, l)) (is ∙ ap (λ (xs : List Node). get_or xs i n) two)

-- it can be made
pub can_here : (plan : Planned) (o : OpenedFiles) (i : ℕ) (n : Node) (file : Option ℕ)
    → CanBeNodes plan o → slice_get plan.nodes i ≡ Some n → file ≡ own_file o i → CanBeNode n file
can_here plan o i n file can there e = subst (λ (x : Option ℕ). CanBeNode n x) (sym e)
    (can i n there)

-- it was made
pub one_made_here : (plan : Planned) (o : OpenedFiles) (nodes now : List (made.NodeSpec Filter))
    (i : ℕ) (n : Node) (m : made.NodeSpec Filter) (file : Option ℕ) → AreFirst plan o nodes i
    → slice_get plan.nodes i ≡ Some n → file ≡ own_file o i
    → IsMadeOf (presences_of plan o) file n m → now ≡ nodes ++ m ∷ []
    → AreFirst plan o now (i + 1)
one_made_here plan o nodes now i n m file first there e is more =
    one_made plan o nodes now i n m first there
    (subst (λ (x : Option ℕ). IsMadeOf (presences_of plan o) x n m) e is) more

-- all were made
pub all_made : (plan : Planned) (o : OpenedFiles) (nodes : List (made.NodeSpec Filter)) (count : ℕ)
    (bound : List Node) → AreFirst plan o nodes count → bound ≡ plan.nodes → count ≤ length bound
    → length bound ≤ count → AreMadeOf plan o nodes
all_made plan o nodes count bound first e within end =
    record {
      count = (let c = first.count_is in let l = ap length e in
          omega (arith, c, l, within, end));
      each = first.each;
    }
