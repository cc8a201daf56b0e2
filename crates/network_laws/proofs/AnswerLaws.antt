-- The sequential answer: each pipe has what its writer makes of the answer's own lists.
use Rattle.std.proofs.Common.{◌≡◌, ℕ, zero, suc, ◌<◌, ◌≤◌, Bool, cond, eqb, List, [], ◌∷◌, length}
use Rattle.std.proofs.Common.{Option, Some, None, refl, sym, ap, ap₂, ◌∙◌, subst, inl, inr, ⊎_elim}
use Rattle.std.proofs.Common.{ne_eqb, eq-eqb, arith}
use Rattle.std.specs.Prelude.{if◌then◌else◌}
use Rattle.std.proofs.lemmas.Bool.{cases_lt}
use Rattle.graphs.specs.Graph.{Graph, GraphNode, Stage, node_at, writer, IsPipe, IsAmong, IsPlan}
use Rattle.network_laws.specs.Sequential.{Contents, is_missing, missing_in, inputs_at, output_of}
use Rattle.network_laws.specs.Sequential.{held_after, answer}
use Rattle.network_laws.specs.Laws.{AnswersAreOutputs}

other : {A : Type 0} (a b : ℕ) (x y : A) → (a ≡ b → ⊥) → cond (eqb a b) x y ≡ y
other a b x y ne = ap (λ t. cond t x y) (ne_eqb a b ne)

same : {A : Type 0} (a : ℕ) (x y : A) → cond (eqb a a) x y ≡ x
same a x y = ap (λ t. cond t x y) (eq-eqb a a refl)

-- the inputs of a stage depend on the lists of its own pipes alone, and on which of their writers
-- are missing
pub inputs_agree : (g : Graph) (m n : ℕ → Bool) (f h : ℕ → List ℕ) (inputs : List ℕ)
    → ((q : ℕ) → IsAmong q inputs → is_missing g m (writer g q) ≡ is_missing g n (writer g q))
    → ((q : ℕ) → IsAmong q inputs → f q ≡ h q) → inputs_at g m f inputs ≡ inputs_at g n h inputs
inputs_agree g m n f h [] same_missing same_lists = refl
inputs_agree g m n f h (q ∷ inputs) same_missing same_lists =
    ap₂ (λ (x : Option (List ℕ)) (xs : List (Option (List ℕ))). x ∷ xs)
    (ap₂ (λ (b : Bool) (l : List ℕ). if b then None else Some l) (same_missing q (inl refl))
    (same_lists q (inl refl)))
    (inputs_agree g m n f h inputs (λ p i. same_missing p (inr i)) (λ p i. same_lists p (inr i)))

module _ (g : Graph) (contents : Contents) where
  -- a list is final once its writer has run
  pub held_stable : (n k p : ℕ) → writer g p < k → k ≤ n
      → held_after g contents n p ≡ held_after g contents k p
  held_stable zero k p lt le = absurd (omega arith)
  held_stable (suc n) k p lt le = ⊎_elim
      (λ below. let e : k ≡ suc n = omega arith in
      subst (λ m. held_after g contents (suc n) p ≡ held_after g contents m p) (sym e) refl)
      (λ above. let ne : writer g p ≡ n → ⊥ = λ e. absurd (omega arith) in
      other (writer g p) n _ _ ne ∙ held_stable n k p lt above)
      (cases_lt n k)

  abbrev pub AgreeOn : (ℕ → List ℕ) → (ℕ → List ℕ) → Option GraphNode → Type 0
  AgreeOn f h (Some (Stage filter inputs branches)) = (q : ℕ) → IsAmong q inputs → f q ≡ h q
  AgreeOn f h _ = Unit {0}

  pub output_agree : (f h : ℕ → List ℕ) (k : ℕ) (node : Option GraphNode) → AgreeOn f h node
      → output_of g contents f k node ≡ output_of g contents h k node
  output_agree f h k (Some (Stage filter inputs branches)) a =
      ap (λ (l : List (Option (List ℕ))). (filter l).out)
      (inputs_agree g (missing_in contents) (missing_in contents) f h inputs (λ q i. refl) a)
  output_agree f h k _ a = refl

  module _ (plan : IsPlan g) where
    agree_on : (k : ℕ) → k ≤ length g.nodes → (node : Option GraphNode) → node_at g k ≡ node
        → AgreeOn (held_after g contents k) (held_after g contents (length g.nodes)) node
    agree_on k le (Some (Stage filter inputs branches)) e = λ q i.
        let r = ((plan.wired k (Stage filter inputs branches) e).0.each q).1 i in
        let lt : writer g q < k = omega (arith, plan.before q r.0, r.1) in
        sym (held_stable (length g.nodes) k q lt le)
    agree_on k le _ e = tt

    pub answer_is : (p : ℕ) → IsPipe g p → answer g contents p
        ≡ output_of g contents (answer g contents) (writer g p) (node_at g (writer g p))
    unfolding answer
    answer_is p is =
        let n = length g.nodes in
        let k = writer g p in
        let lt : k < n = omega (arith, plan.before p is, plan.within p is) in
        let lt' : k < suc k = omega arith in
        let le' : suc k ≤ n = omega arith in
        let le : k ≤ n = omega arith in
        held_stable n (suc k) p lt' le'
        ∙ same k (output_of g contents (held_after g contents k) k (node_at g k))
        (held_after g contents k p)
        ∙ output_agree (held_after g contents k) (held_after g contents n) k (node_at g k)
        (agree_on k le (node_at g k) refl)

pub answers_are_outputs : AnswersAreOutputs
answers_are_outputs = answer_is
