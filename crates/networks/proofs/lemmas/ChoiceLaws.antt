-- Of the full pipes that may grow, the one that grows first.
use Rattle.std.proofs.Common.{◌≡◌, ℕ, ◌+◌, ◌<◌, ◌≤◌, List, length, Option, Some, None, sym, ap, ◌∙◌}
use Rattle.std.proofs.Common.{subst, arith, inl, inr, ⊎_elim}
use Rattle.std.specs.Prelude.{◌↔◌, IfSome, unwrap_or, slice_get, slice_index_or}
use Rattle.std.proofs.lemmas.Bool.{cases_lt}
use Rattle.std.proofs.lemmas.Option.{slice_get-get_or}
use Rattle.bounded_pipe.specs.Ends.{Beside, HoldsCapacity}
use Rattle.graphs.specs.Graph.{IsNode}
use Rattle.network_laws.specs.State.{Setup, State}
use Rattle.network_nodes.specs.declared.actor.Actor.{Actor}
use Rattle.network_nodes.specs.declared.actor.Link.{Link}
use Rattle.network_nodes.specs.inner.Actors.{out_at, in_at, HasEnds}
use Rattle.networks.specs.Networks.{AreWired, AreBeside, writing_by, reading_by}
use Rattle.networks.specs.NodeWaits.{WaitsFull}
use Rattle.networks.specs.Growth.{MayGrow, GrowsBefore, IsNext}
use Rattle.networks.specs.inner.Candidates.{NodeMayGrow, IsCandidate, IsFirst, IsSooner}
use Rattle.networks.specs.declared.choosing.Candidate.{Candidate}
use Rattle.networks.proofs.SightLaws.{has_ends}

before_trans : (a i b j c k : ℕ) → GrowsBefore a i b j → GrowsBefore b j c k → GrowsBefore a i c k
before_trans a i b j c k g h = ⊎_elim
    (λ (less : a < b). ⊎_elim (λ (more : b < c). inl (omega (arith, less, more)))
    (λ h'. inl (let e : b ≡ c = h'.0 in omega (arith, less, e))) h)
    (λ g'. ⊎_elim
    (λ (more : b < c). inl (let e : a ≡ b = g'.0 in omega (arith, more, e)))
    (λ h'. inr (g'.0 ∙ h'.0, (let x : i ≤ j = g'.1 in let y : j ≤ k = h'.1 in omega (arith, x, y))))
    h)
    g

-- what is so of two candidates is so of the sooner one
pub sooner_within : (P : ℕ → Type 0) (first next found : Option Candidate)
    → IfSome first (λ c. P c.pipe) → IfSome next (λ c. P c.pipe) → IsSooner first next found
    → IfSome found (λ c. P c.pipe)
sooner_within P None next found h n is = subst (λ (o : Option Candidate). IfSome o (λ c. P c.pipe))
    (sym is) n
sooner_within P (Some c) None found h n is =
    subst (λ (o : Option Candidate). IfSome o (λ c. P c.pipe)) (sym is) h
sooner_within P (Some c) (Some d) found h n is = ⊎_elim
    (λ one. subst (λ (o : Option Candidate). IfSome o (λ c. P c.pipe)) (sym one.1) h)
    (λ other. subst (λ (o : Option Candidate). IfSome o (λ c. P c.pipe)) (sym other.1) n)
    is

module _ (s : Setup) (st : State) where
  abbrev room : ℕ → ℕ
  room p = (st.writing p).capacity

  may_grow : (k p : ℕ) → NodeMayGrow s st k p → MayGrow s st p
  may_grow k p h = record { node = k; waits = h.0; holds = h.1; less = h.2 }

  -- ---- one node more

  -- what is so of the nodes below a number and of the one with this number is so of those below the
  -- next
  each_below : (k : ℕ) (P : ℕ → ℕ → Type 0) → ((j p : ℕ) → j < k → NodeMayGrow s st j p → P j p)
      → ((p : ℕ) → NodeMayGrow s st k p → P k p) → (j p : ℕ) → j < k + 1 → NodeMayGrow s st j p
      → P j p
  each_below k P below here j p lt h = ⊎_elim
      (λ (l : j < k). below j p l h)
      (λ (g : k ≤ j). let same : k ≡ j = omega (arith, lt, g) in
      subst (λ (i : ℕ). P i p) same
      (here p (subst (λ (i : ℕ). NodeMayGrow s st i p) (sym same) h)))
      (cases_lt j k)

  -- the candidate of a node is no later than any pipe of the node that may grow
  no_later : (k : ℕ) (c : Candidate) → IsCandidate s st k (Some c) → (p : ℕ) → NodeMayGrow s st k p
      → GrowsBefore c.capacity c.pipe (room p) p
  no_later k c h p may =
      let same : p ≡ c.pipe = h.2 p may in
      inr (h.1 ∙ ap room (sym same), (let w : c.pipe ≤ p = omega (arith, same) in w))

  take_first : (k : ℕ) (c : Candidate) → IsFirst s st k (Some c)
      → ((p : ℕ) → NodeMayGrow s st k p → GrowsBefore c.capacity c.pipe (room p) p)
      → IsFirst s st (k + 1) (Some c)
  take_first k c h here =
      (h.0, h.1, each_below k (λ j p. GrowsBefore c.capacity c.pipe (room p) p) h.2 here)

  take_next : (k : ℕ) (c : Candidate) → IsCandidate s st k (Some c)
      → ((j p : ℕ) → j < k → NodeMayGrow s st j p → GrowsBefore c.capacity c.pipe (room p) p)
      → IsFirst s st (k + 1) (Some c)
  take_next k c h below = (
    may_grow k c.pipe h.0,
    h.1,
    each_below k
        (λ j p. GrowsBefore c.capacity c.pipe (room p) p) below (no_later k c h),
  )

  pub sooner_first : (k : ℕ) (first next found : Option Candidate) → IsFirst s st k first
      → IsCandidate s st k next → IsSooner first next found → IsFirst s st (k + 1) found
  sooner_first k None None found h n is =
      subst (IsFirst s st (k + 1)) (sym is) (each_below k (λ j p. ⊥) h n)
  sooner_first k None (Some d) found h n is =
      subst (IsFirst s st (k + 1)) (sym is) (take_next k d n (λ j p lt may. absurd (h j p lt may)))
  sooner_first k (Some c) None found h n is =
      subst (IsFirst s st (k + 1)) (sym is) (take_first k c h (λ p may. absurd (n p may)))
  sooner_first k (Some c) (Some d) found h n is = ⊎_elim
      (λ one. subst (IsFirst s st (k + 1)) (sym one.1)
      (take_first k c h (λ p may. before_trans c.capacity c.pipe d.capacity d.pipe (room p) p one.0
      (no_later k d n p may))))
      (λ other. subst (IsFirst s st (k + 1)) (sym other.1)
      (take_next k d n (λ j p lt may. before_trans d.capacity d.pipe c.capacity c.pipe
      (room p) p other.0 (h.2 j p lt may))))
      is

  -- ---- all nodes

  -- a node that waits is below the number of nodes
  all_within : (count : ℕ) → count ≡ (let g = s.graph in length g.nodes) → (p : ℕ)
      → (may : MayGrow s st p) → may.node < count
  all_within count all p may =
      let w = may.waits in
      let r = w.0 in
      let l : IsNode s.graph may.node = r.0 in
      omega (arith, l, all)

  pub next_none : (count : ℕ) → count ≡ (let g = s.graph in length g.nodes)
      → IsFirst s st count None → IsNext s st None
  next_none count all h p may = h may.node p (all_within count all p may)
      (may.waits, may.holds, may.less)

  pub next_some : (count : ℕ) → count ≡ (let g = s.graph in length g.nodes) → (c : Candidate)
      → IsFirst s st count (Some c) → IsNext s st (Some c.pipe)
  next_some count all c h = (
    h.0,
    λ q may. subst (λ (m : ℕ). GrowsBefore m c.pipe (room q) q) h.1
        (h.2 may.node q (all_within count all q may) (may.waits, may.holds, may.less)),
  )

  -- ---- the candidate of one node

  module _ (k : ℕ) (wait : Option ℕ) (exact : (p : ℕ) → (wait ≡ Some p) ↔ WaitsFull s st k p)
      (q : ℕ) (is : wait ≡ Some q) where
    its_own : (p : ℕ) → NodeMayGrow s st k p → p ≡ q
    its_own p may = ap (λ (o : Option ℕ). unwrap_or o q) (sym ((exact p).1 may.0) ∙ is)

    pub candidate_some : (capacity : ℕ) → HoldsCapacity (st.writing q) (st.reading q)
        → room q < s.most → capacity ≡ room q
        → IsCandidate s st k (Some (record { pipe = q; capacity = capacity }))
    candidate_some capacity holds less e = (((exact q).0 is, holds, less), e, its_own)

    pub candidate_none : (HoldsCapacity (st.writing q) (st.reading q) → room q < s.most → ⊥)
        → IsCandidate s st k None
    candidate_none never p may =
        let e : p ≡ q = its_own p may in
        never (subst (λ (i : ℕ). HoldsCapacity (st.writing i) (st.reading i)) e may.1)
        (subst (λ (i : ℕ). room i < s.most) e may.2)

-- ---- a pipe by its number

module _ {M : Type 0} (nodes : List (Actor M)) (pipes : List Link) (wired : AreWired nodes pipes)
    (all : AreBeside nodes pipes) (p : ℕ) (within : p < length pipes) (d : Link) where
  abbrev link : Link
  link = slice_index_or pipes p d

  link_at : slice_get pipes p ≡ Some link
  link_at = slice_get-get_or pipes p d within

  pub link_beside : Beside (out_at nodes link) (in_at nodes link)
  link_beside = all p link link_at

  pub link_ends : HasEnds link nodes
  link_ends = has_ends pipes nodes wired (λ q l e. let b = all q l e in let s = b.sees in
      s.ends) p link link_at

  pub link_room : (writing_by nodes (slice_get pipes p)).capacity ≡ (out_at nodes link).capacity
  link_room = ap (λ (o : Option Link). (writing_by nodes o).capacity) link_at

  pub link_holds : HoldsCapacity (out_at nodes link) (in_at nodes link)
      ↔ HoldsCapacity (writing_by nodes (slice_get pipes p)) (reading_by nodes (slice_get pipes p))
  link_holds = (
    λ h. subst (λ (o : Option Link). HoldsCapacity (writing_by nodes o) (reading_by nodes o))
        (sym link_at) h,
    λ h. subst (λ (o : Option Link). HoldsCapacity (writing_by nodes o) (reading_by nodes o))
        link_at h,
  )
