-- If a table has for each node the one that it waits for, walks by the table follow the waits.
use Rattle.std.proofs.Common.{◌≡◌, ℕ, zero, suc, ◌+◌, ◌-◌, ◌<◌, ◌≤◌, Bool, true, false, cond, List}
use Rattle.std.proofs.Common.{[], ◌∷◌, map, length, take, get_or, set, Option, Some, None, refl}
use Rattle.std.proofs.Common.{sym, ap, ◌∙◌, subst, inl, inr, ⊎_elim, arith}
use Rattle.std.specs.Global.{Vec}
use Rattle.std.specs.Prelude.{IsSome}
use Rattle.std.specs.List.{Contains}
use Rattle.std.proofs.lemmas.Bool.{cases_eq, cases_lt}
use Rattle.std.proofs.lemmas.List.{get_or-set_same, get_or-set_other, take_more}
use Rattle.std.proofs.lemmas.List.Elements.{All-contains, Contains-append_left, Contains-push}
use Rattle.std.proofs.lemmas.List.Elements.{Contains-push_cases}
use Rattle.graphs.specs.inner.Circles.{next_of, stepped, walk, ComesToEnd, IsCircle}
use Rattle.graphs.specs.inner.Circles as tables
use Rattle.graphs.specs.Graph.{Graph, writer, reader, IsPipe, IsAmong, AreDistinct}
use Rattle.network_laws.specs.Outcome.{IsNamed, other_end}
use Rattle.network_laws.specs.Circles.{own_end, AreOwnWaits, WaitsOn, LeadTo, IsLowestNamed}
use Rattle.network_laws.specs.Circles.{IsWaitCircle, LeadOut, MeetsCircle}
use Rattle.network_laws.specs.declared.outcome.Waiting.{Waiting}
use Rattle.step_scheduler.specs.inner.Follows.{Follows}

-- a node that is named has a wait
named_wait : (k : ℕ) (waits : List Waiting) → IsNamed k waits
    → (w : Waiting) × Contains waits w × (w.node ≡ k)
named_wait k [] named = absurd named
named_wait k (w ∷ waits) (inl e) = (w, (0, omega arith, refl), e)
named_wait k (w ∷ waits) (inr n) =
    let r = named_wait k waits n in
    (r.0, (suc r.1.0, (let l = r.1.1 in omega arith), r.1.2), r.2)

-- ---- the table, wait by wait

-- a node that is among these
occurs_among : (xs : List Waiting) (i : ℕ) (d : Waiting) → i < length xs
    → IsAmong (get_or xs i d).node (map (λ w. w.node) xs)
occurs_among [] i d l = absurd (omega arith)
occurs_among (x ∷ xs) zero d l = inl refl
occurs_among (x ∷ xs) (suc i) d l = inr (occurs_among xs i d (omega arith))

-- the node of one more wait is none of the nodes before
pub is_new : (xs : List Waiting) (i : ℕ) (d : Waiting) → i < length xs
    → AreDistinct (map (λ w. w.node) xs) → (v : Waiting) → Contains (take i xs) v
    → v.node ≡ (get_or xs i d).node → ⊥
is_new [] i d l once v in' e = absurd (omega arith)
is_new (x ∷ xs) zero d l once v (k, m, s) e = absurd (omega arith)
is_new (x ∷ xs) (suc i) d l once v (zero, m, s) e =
    once.0 (subst (λ n. IsAmong n (map (λ w. w.node) xs)) (sym (ap (λ w. w.node) s ∙ e))
    (occurs_among xs i d (omega arith)))
is_new (x ∷ xs) (suc i) d l once v (suc k, m, s) e =
    is_new xs i d (omega arith) once.1 v (k, omega arith, s) e

module _ (g : Graph) (waits : List Waiting) where
  -- one wait more
  pub follows_more : (i : ℕ) (d : Waiting) (next : List (Option ℕ)) (o : ℕ) → i < length waits
      → AreDistinct (map (λ w. w.node) waits) → (get_or waits i d).node < length next
      → o ≡ other_end g (get_or waits i d)
      → Follows g (take i waits) next
      → Follows g (take (i + 1) waits) (set next (get_or waits i d).node (Some o))
  follows_more i d next o l once inside is was k j = (to, from)
    where
      to : next_of (set next (get_or waits i d).node (Some o)) k ≡ Some j
          → WaitsOn g (take (i + 1) waits) k j
      to e = subst (λ xs. WaitsOn g xs k j) (sym (take_more waits i d l)) (⊎_elim
          (λ (h : k ≡ (get_or waits i d).node).
          let same : next_of (set next (get_or waits i d).node (Some o)) k ≡ Some o =
          ap (λ n. next_of (set next (get_or waits i d).node (Some o)) n) h
          ∙ get_or-set_same next (get_or waits i d).node (Some o) None inside in
          let oj : o ≡ j = cc (sym same ∙ e) in
          (get_or waits i d, Contains-push (take i waits) (get_or waits i d), sym h, sym is ∙ oj))
          (λ (h : k ≡ (get_or waits i d).node → ⊥).
          let r = (was k j).0 (sym (get_or-set_other next (get_or waits i d).node k (Some o) None h)
          ∙ e) in
          (r.0, Contains-append_left (take i waits) (get_or waits i d ∷ []) r.0 r.1, r.2, r.3))
          (cases_eq k (get_or waits i d).node))

      from : WaitsOn g (take (i + 1) waits) k j
          → next_of (set next (get_or waits i d).node (Some o)) k ≡ Some j
      from (v, in', node, other) = ⊎_elim
          (λ (h : Contains (take i waits) v).
          let ne : k ≡ (get_or waits i d).node → ⊥ = λ e. is_new waits i d l once v h (node ∙ e) in
          get_or-set_other next (get_or waits i d).node k (Some o) None ne
          ∙ (was k j).1 (v, h, node, other))
          (λ (h : get_or waits i d ≡ v).
          let at : (get_or waits i d).node ≡ k = ap (λ u. u.node) h ∙ node in
          let oj : o ≡ j = is ∙ (ap (λ u. other_end g u) h ∙ other) in
          ap (λ n. next_of (set next (get_or waits i d).node (Some o)) n) (sym at)
          ∙ (get_or-set_same next (get_or waits i d).node (Some o) None inside ∙ ap Some oj))
          (Contains-push_cases (take i waits) (get_or waits i d) v
          (subst (λ xs. Contains xs v) (take_more waits i d l) in'))

  -- ---- walks by it

  module _ (next : List (Option ℕ)) (follows : Follows g waits next) where
    leads : (n k j : ℕ) → walk next k n ≡ Some j → LeadTo g waits n k j
    leads zero k j e = cc e
    leads (suc n) k j e = by_case (walk next k n) refl e (leads n k)
      where
        by_case : (o : Option ℕ) → walk next k n ≡ o → stepped next o ≡ Some j
            → ((i : ℕ) → walk next k n ≡ Some i → LeadTo g waits n k i) → LeadTo g waits (suc n) k j
        by_case None is f ih = absurd (cc f)
        by_case (Some i) is f ih = (i, ih i is, (follows i j).0 f)

    -- what has nothing after it in the table does not wait
    waits_not : (k : ℕ) → next_of next k ≡ None → IsNamed k waits → ⊥
    waits_not k none named =
        let w = named_wait k waits named in
        let at = (follows k (other_end g w.0)).1 (w.0, w.1, w.2, refl) in
        absurd (cc (sym none ∙ at))

    leads_out : (k n : ℕ) → IsLowestNamed waits k → walk next k n ≡ None → LeadOut g waits
    leads_out k zero first e = absurd (cc e)
    leads_out k (suc n) first e = by_case (walk next k n) refl e (leads_out k n first)
      where
        by_case : (o : Option ℕ) → walk next k n ≡ o → stepped next o ≡ None
            → (walk next k n ≡ None → LeadOut g waits) → LeadOut g waits
        by_case None is f ih = ih is
        by_case (Some j) is f ih = (k, n, j, first, leads n k j is, waits_not j f)

    -- no node waits for itself
    pub waits_apart : ((p : ℕ) → IsPipe g p → writer g p < reader g p) → AreOwnWaits g waits
        → (k : ℕ) → WaitsOn g waits k k → ⊥
    waits_apart up own k (w, here, node, other) = by_case w.full (own_is ∙ node) other
      where
        own_is : own_end g w ≡ w.node
        own_is = All-contains (λ w. own_end g w ≡ w.node) waits w own.own here

        less : writer g w.pipe < reader g w.pipe
        less = up w.pipe (All-contains (λ w. IsPipe g w.pipe) waits w own.pipes here)

        by_case : (b : Bool) → cond b (writer g w.pipe) (reader g w.pipe) ≡ k
            → cond b (reader g w.pipe) (writer g w.pipe) ≡ k → ⊥
        by_case true a b = omega (arith, less, a, b)
        by_case false a b = omega (arith, less, a, b)

    circles : ((k : ℕ) → next_of next k ≡ Some k → ⊥) → (nodes : List ℕ) → IsCircle next nodes
        → IsWaitCircle g waits nodes
    circles others nodes c = record {
      several = ⊎_elim
          (λ (h : 1 < length nodes). omega arith)
          (λ (h : length nodes ≤ 1).
          let last : length nodes - 1 ≡ 0 = omega arith in
          absurd (others (get_or nodes 0 0) (ap (λ i. next_of next (get_or nodes i 0)) (sym last)
          ∙ c.closed)))
          (cases_lt 1 (length nodes));
      once = c.once;
      each = λ i l. (follows (get_or nodes i 0) (get_or nodes (i + 1) 0)).0 (c.each i l);
      closed = (follows (get_or nodes (length nodes - 1) 0) (get_or nodes 0 0)).0 c.closed;
    }

    -- what a walk by the table reaches is what the waits reach
    pub meets : ((k : ℕ) → next_of next k ≡ Some k → ⊥) → (k : ℕ) → IsLowestNamed waits k
        → (found : Option (Vec ℕ)) → tables.MeetsCircle next k found → MeetsCircle g waits found
    meets others k first None (n, e) = inr (leads_out k n first e)
    meets others k first (Some nodes) m = record {
      circle = circles others nodes.items m.circle;
      lowest = m.lowest;
      met = (k, m.met.0, first, leads m.met.0 k (get_or nodes.items 0 0) m.met.1);
    }

-- if the waits do not lead out, a circle is found
pub some_met : (g : Graph) (waits : List Waiting) → (MeetsCircle g waits None → ⊥)
    → (found : Option (Vec ℕ)) → MeetsCircle g waits found → IsSome found
some_met g waits never None m = absurd (never m)
some_met g waits never (Some nodes) m = refl
