-- How much of each node is needed, found pipe by pipe.
use Rattle.std.proofs.Common.{◌≡◌, ◌≢◌, ℕ, ◌+◌, ◌<◌, ◌≤◌, ◌⊎◌, inl, inr, List, length, get_or, Option, Some}
use Rattle.std.proofs.Common.{None, refl, sym, ap, ◌∙◌, subst, arith, Bool, true, false, ltb, eqb}
use Rattle.std.specs.List.{slice_get}
use Rattle.std.specs.Prelude.{slice_set, replicate, All}
use Rattle.std.proofs.lemmas.Option.{same_Some, none-some, slice_get-get_or, slice_get_past}
use Rattle.std.proofs.lemmas.Option.{slice_get_within}
use Rattle.std.proofs.lemmas.List.{get_or-set_same, get_or-set_other, length-set}
use Rattle.std.proofs.lemmas.List.{get_or-replicate, length-replicate}
use Rattle.std.proofs.lemmas.Bool.{eqb-true, eqb-false, ltb-true, ltb-false}
use Rattle.collector.specs.declared.needed.NeededEnd.{NeededEnd}
use Rattle.commands.specs.declared.spec.FilterSpec.{FilterSpec}
use Rattle.commands.specs.declared.spec.FilterSpec.TheVariants as spec
use Rattle.planner.specs.Planned.{Planned}
use Rattle.planner.specs.declared.plan.Node.{Node}
use Rattle.planner.specs.declared.plan.Node.TheVariants as node
use Rattle.openings.specs.Needs.{end_for, front_for, HasNoHead, IsReadByHead}
use Rattle.openings.specs.Needs.{NeedsOnly, TakesFirst}
use Rattle.openings.specs.declared.needs.Need.{Need}
use Rattle.openings.specs.declared.needs.Need.TheVariants as need
use Rattle.openings.specs.inner.Needs.{AreNeeds, CoversFirst, IsNeedFor, IsNeedOf}
use Rattle.openings.specs.inner.Needs.{Joins}
use Rattle.openings.specs.inner.Needs.{then_need}

-- ---- a tail and a head

-- a tail is no head
filters_apart : (f : FilterSpec) (e : NeededEnd) (n : ℕ) → end_for f ≡ Some e
    → front_for f ≡ Some n → ⊥
filters_apart (spec.Tail s) e n end front = none-some n front
filters_apart (spec.Head s) e n end front = none-some e end
filters_apart (spec.Cat s) e n end front = none-some e end
filters_apart (spec.Cut s) e n end front = none-some e end
filters_apart (spec.Fold s) e n end front = none-some e end
filters_apart (spec.Paste s) e n end front = none-some e end
filters_apart (spec.Tee s) e n end front = none-some e end
filters_apart (spec.Tr s) e n end front = none-some e end
filters_apart (spec.Uniq s) e n end front = none-some e end
filters_apart (spec.Wc s) e n end front = none-some e end

pub needs_apart : (m : Node) (e : NeededEnd) (n p q : ℕ) → NeedsOnly e p m → TakesFirst n q m → ⊥
needs_apart (node.Stage number f inputs branches) e n p q end front =
    filters_apart f e n end.1 front.1
needs_apart (node.Source name) e n p q end front = end
needs_apart (node.Sink name) e n p q end front = end

-- a head takes one number of lines
pub takes_once : (m : Node) (n k p q : ℕ) → TakesFirst n p m → TakesFirst k q m → n ≡ k
takes_once (node.Stage number f inputs branches) n k p q one other =
    same_Some n k (sym one.1 ∙ other.1)
takes_once (node.Source name) n k p q one other = absurd one
takes_once (node.Sink name) n k p q one other = absurd one

-- ---- the readers of a plan's pipes

module _ (plan : Planned) where
  -- the two ends of a pipe
  joins_once : (k w p q reader r : ℕ) → Joins plan k p reader → p ≡ q
      → slice_get plan.pipes q ≡ Some (w, r) → ◌≡◌ {A = ℕ × ℕ} (k, reader) (w, r)
  joins_once k w p q reader r joins e at = same_Some (k, reader) (w, r) (sym joins
      ∙ (ap (slice_get plan.pipes) e ∙ at))

  -- one pipe has one reader
  pub same_reader : (k p q r s : ℕ) (m n : Node) → Joins plan k p r → Joins plan k q s → p ≡ q
      → slice_get plan.nodes r ≡ Some m → slice_get plan.nodes s ≡ Some n → m ≡ n
  same_reader k p q r s m n one other e at_m at_n =
      let same : r ≡ s = ap (λ (x : ℕ × ℕ). x.1) (joins_once k k p q r s one e other) in
      same_Some m n (sym at_m ∙ (ap (slice_get plan.nodes) same ∙ at_n))

  -- what is so of the first pipes, and of the next one, is so of them all
  next_pipe : (P : ℕ → ℕ → Type 0) (count : ℕ) → ((p reader : ℕ) → p < count → P p reader)
      → ((p reader : ℕ) → p ≡ count → P p reader)
      → (p reader : ℕ) → p < count + 1 → P p reader
  next_pipe P count first next p reader few = by_case (eqb p count) refl
    where
      by_case : (b : Bool) → eqb p count ≡ b → P p reader
      by_case true e = next p reader (eqb-true p count e)
      by_case false e =
          let there = eqb-false p count e in
          first p reader (omega (arith, few, there))

  -- before the first pipe nothing is needed
  covers_none : (k : ℕ) (n : Option Need) → (n ≡ None) ⊎ (n ≡ Some need.Nothing)
      → CoversFirst plan 0 k n
  covers_none k n e = elim e as (λ _. CoversFirst plan 0 k n) [
    | inl none ↦ subst (CoversFirst plan 0 k) (sym none) tt
    | inr some ↦
        subst (CoversFirst plan 0 k) (sym some) (λ p reader few joins. omega (arith, few))
  ]

  -- a node that does not write the next pipe needs what it needed
  other_covered : (count k w r : ℕ) → slice_get plan.pipes count ≡ Some (w, r) → k ≢ w
      → (n : Option Need) → CoversFirst plan count k n → CoversFirst plan (count + 1) k n
  other_covered count k w r at apart (Some need.Nothing) was =
      next_pipe (λ p reader. Joins plan k p reader → ⊥) count was
      (λ p reader e joins. apart
      (ap (λ (x : ℕ × ℕ). x.0) (joins_once k w p count reader r joins e at)))
  other_covered count k w r at apart (Some (need.Only needed)) was = (
    next_pipe (λ p reader. Joins plan k p reader → (n : Node)
        × (slice_get plan.nodes reader ≡ Some n) × NeedsOnly needed p n) count was.0
        (λ p reader e joins. absurd (apart
        (ap (λ (x : ℕ × ℕ). x.0) (joins_once k w p count reader r joins e at)))),
    was.1,
  )
  other_covered count k w r at apart (Some (need.First n)) was = record {
    pipe = was.pipe;
    reader = was.reader;
    below = let below = was.below in omega (arith, below);
    reads = was.reads;
    single = next_pipe (λ p reader. Joins plan k p reader → p ≡ was.pipe) count was.single
        (λ p reader e joins. absurd (apart
        (ap (λ (x : ℕ × ℕ). x.0) (joins_once k w p count reader r joins e at))));
    head = was.head;
    head_at = was.head_at;
    takes = was.takes;
  }
  other_covered count k w r at apart (Some need.Everything) was = was
  other_covered count k w r at apart None was = tt

  -- its writer needs what its reader needs, too
  module _ (count w r : ℕ) (n : Node) (at : slice_get plan.pipes count ≡ Some (w, r))
      (there : slice_get plan.nodes r ≡ Some n) where
    -- the reader of the next pipe is the head, if a head is the only reader
    is_head : (x : ℕ) (h : IsReadByHead plan w x) → TakesFirst x h.pipe n
    is_head x h =
        subst (TakesFirst x h.pipe)
        (same_reader w h.pipe count h.reader r h.head n h.reads at
        (sym (h.single count r at)) h.head_at there) h.takes

    -- an earlier pipe is another one
    second_pipe : (p reader : ℕ) → p < count → Joins plan w p reader → HasNoHead plan w
    second_pipe p reader few joins x h =
        let one = h.single p reader joins in
        let other = h.single count r at in
        omega (arith, few, one, other)

    own_end : (needed : NeededEnd) → NeedsOnly needed count n
        → CoversFirst plan count w (Some need.Nothing)
        → CoversFirst plan (count + 1) w (Some (need.Only needed))
    own_end needed is was = (
      next_pipe (λ p reader. Joins plan w p reader → (m : Node)
          × (slice_get plan.nodes reader ≡ Some m) × NeedsOnly needed p m) count
          (λ p reader few joins. absurd (was p reader few joins))
          (λ p reader e joins.
          let reads : reader ≡ r = ap (λ (x : ℕ × ℕ). x.1)
          (joins_once w w p count reader r joins e at) in (
            n,
            ap (slice_get plan.nodes) reads
                ∙ there,
            subst (λ (q : ℕ). NeedsOnly needed q n) (sym e) is,
          )),
      λ x h. needs_apart n needed x count h.pipe is (is_head x h),
    )

    own_front : (x : ℕ) → TakesFirst x count n → CoversFirst plan count w (Some need.Nothing)
        → CoversFirst plan (count + 1) w (Some (need.First x))
    own_front x is was = record {
      pipe = count;
      reader = r;
      below = omega arith;
      reads = at;
      single = next_pipe (λ p reader. Joins plan w p reader → p ≡ count) count
          (λ p reader few joins. absurd (was p reader few joins)) (λ p reader e joins. e);
      head = n;
      head_at = there;
      takes = is;
    }

    own_all : ((x : ℕ) → TakesFirst x count n → ⊥) → HasNoHead plan w
    own_all none x h = none x
        (subst (λ (q : ℕ). TakesFirst x q n) (sym (h.single count r at)) (is_head x h))

    own_covered : (before more : Need) → IsNeedOf n count more
        → CoversFirst plan count w (Some before)
        → CoversFirst plan (count + 1) w (Some (then_need before more))
    own_covered need.Nothing need.Nothing is was = absurd is
    own_covered need.Nothing (need.Only needed) is was = own_end needed is was
    own_covered need.Nothing (need.First x) is was = own_front x is was
    own_covered need.Nothing need.Everything is was = own_all is
    own_covered (need.Only needed) more is was = was.1
    own_covered (need.First x) more is was =
        second_pipe was.pipe was.reader was.below was.reads
    own_covered need.Everything more is was = was

  -- all pipes were looked at
  module _ (needs : List Need) (count : ℕ) (all : length plan.pipes ≤ count)
      (long : length needs ≡ length plan.nodes)
      (written : (p w r : ℕ) → slice_get plan.pipes p ≡ Some (w, r) → w < length plan.nodes)
      (covers : (k : ℕ) → CoversFirst plan count k (slice_get needs k)) where
    looked_at : (k p r : ℕ) → Joins plan k p r → p < count
    looked_at k p r joins =
        let within = slice_get_within plan.pipes p (k, r) joins in
        omega (arith, within, all)

    read_by_head : (k n : ℕ) → slice_get needs k ≡ Some (need.First n) → IsReadByHead plan k n
    read_by_head k n is =
        let c = subst (CoversFirst plan count k) is (covers k) in
        record {
          pipe = c.pipe;
          reader = c.reader;
          reads = c.reads;
          single = λ p r joins. c.single p r (looked_at k p r joins) joins;
          head = c.head;
          head_at = c.head_at;
          takes = c.takes;
        }

    needs_front : (k n : ℕ) (h : IsReadByHead plan k n) (o : Option Need)
        → slice_get needs k ≡ o → CoversFirst plan count k o → o ≡ Some (need.First n)
    needs_front k n h None none c =
        let there = written h.pipe k h.reader h.reads in
        absurd (none-some (get_or needs k need.Nothing)
        (sym none ∙ slice_get-get_or needs k need.Nothing (omega (arith, there, long))))
    needs_front k n h (Some need.Nothing) is c =
        absurd (c h.pipe h.reader (looked_at k h.pipe h.reader h.reads) h.reads)
    needs_front k n h (Some (need.Only e)) is c = absurd (c.1 n h)
    needs_front k n h (Some need.Everything) is c = absurd (c n h)
    needs_front k n h (Some (need.First x)) is c =
        let same = same_reader k c.pipe h.pipe c.reader h.reader c.head h.head c.reads h.reads
        (h.single c.pipe c.reader c.reads) c.head_at h.head_at in
        ap (λ (y : ℕ). Some (need.First y)) (takes_once h.head x n c.pipe h.pipe
        (subst (TakesFirst x c.pipe) same c.takes) h.takes)

    pub all_covered : AreNeeds plan needs
    all_covered = record {
      ends = λ k needed is p reader joins.
          let c = subst (CoversFirst plan count k) is (covers k) in
          c.0 p reader (looked_at k p reader joins) joins;
      heads = read_by_head;
      all_heads = λ k n h. needs_front k n h (slice_get needs k) refl (covers k);
    }

  -- nothing is needed at first
  unneeded : (n k : ℕ) → (slice_get (replicate n need.Nothing) k ≡ None)
      ⊎ (slice_get (replicate n need.Nothing) k ≡ Some need.Nothing)
  unneeded n k = by_case (ltb k n) refl
    where
      by_case : (b : Bool) → ltb k n ≡ b → (slice_get (replicate n need.Nothing) k ≡ None)
          ⊎ (slice_get (replicate n need.Nothing) k ≡ Some need.Nothing)
      by_case true e =
          let low = ltb-true k n e in
          let long = length-replicate n need.Nothing in
          inr (slice_get-get_or (replicate n need.Nothing) k need.Nothing (omega (arith, low, long))
          ∙ ap Some (get_or-replicate n k need.Nothing need.Nothing low))
      by_case false e =
          let past = ltb-false k n e in
          let long = length-replicate n need.Nothing in
          inl (slice_get_past (replicate n need.Nothing) k (omega (arith, past, long)))

  pub none_needed : (needs : List Need) (n k : ℕ) → needs ≡ replicate n need.Nothing
      → CoversFirst plan 0 k (slice_get needs k)
  none_needed needs n k is = subst (λ (ns : List Need). CoversFirst plan 0 k (slice_get ns k))
      (sym is) (covers_none k (slice_get (replicate n need.Nothing) k) (unneeded n k))

  -- the need of one node was changed
  set_there : (needs : List Need) (w : ℕ) (x : Need) (k : ℕ) → w < length needs → k ≡ w
      → slice_get (slice_set needs w x) k ≡ Some x
  set_there needs w x k within e =
      ap (slice_get (slice_set needs w x)) e
      ∙ (slice_get-get_or (slice_set needs w x) w need.Nothing
      (omega (arith, within, length-set needs w x))
      ∙ ap Some (get_or-set_same needs w x need.Nothing within))

  set_elsewhere : (needs : List Need) (w : ℕ) (x : Need) (k : ℕ) → k ≢ w
      → slice_get (slice_set needs w x) k ≡ slice_get needs k
  set_elsewhere needs w x k apart = by_case (ltb k (length needs)) refl
    where
      by_case : (b : Bool) → ltb k (length needs) ≡ b
          → slice_get (slice_set needs w x) k ≡ slice_get needs k
      by_case true e =
          let within = ltb-true k (length needs) e in
          slice_get-get_or (slice_set needs w x) k need.Nothing
          (omega (arith, within, length-set needs w x))
          ∙ (ap Some (get_or-set_other needs w k x need.Nothing apart)
          ∙ sym (slice_get-get_or needs k need.Nothing within))
      by_case false e =
          let past = ltb-false k (length needs) e in
          slice_get_past (slice_set needs w x) k (omega (arith, past, length-set needs w x))
          ∙ sym (slice_get_past needs k past)

  pub one_more : (d : Need) (needs : List Need) (count w r : ℕ) (n : Node) (more : Need)
      → slice_get plan.pipes count ≡ Some (w, r) → slice_get plan.nodes r ≡ Some n
      → IsNeedOf n count more → w < length needs
      → ((k : ℕ) → CoversFirst plan count k (slice_get needs k))
      → (k : ℕ) → CoversFirst plan (count + 1) k
      (slice_get (slice_set needs w (then_need (get_or needs w d) more)) k)
  one_more d needs count w r n more at there is within covers k = by_case (eqb k w) refl
    where
      now : Need
      now = then_need (get_or needs w d) more

      by_case : (b : Bool) → eqb k w ≡ b
          → CoversFirst plan (count + 1) k (slice_get (slice_set needs w now) k)
      by_case true e =
          let here = eqb-true k w e in
          let was = subst (CoversFirst plan count w) (slice_get-get_or needs w d within)
          (covers w) in
          subst (CoversFirst plan (count + 1) k) (sym (set_there needs w now k within here))
          (subst (λ (j : ℕ). CoversFirst plan (count + 1) j (Some now)) (sym here)
          (own_covered count w r n at there (get_or needs w d) more is was))
      by_case false e =
          let apart = eqb-false k w e in
          subst (CoversFirst plan (count + 1) k) (sym (set_elsewhere needs w now k apart))
          (other_covered count k w r at apart (slice_get needs k) (covers k))

-- the writer of a pipe is a node
pub writers_within : (plan : Planned)
    → All (λ (e : ℕ × ℕ). (e.0 < e.1) × (e.1 < length plan.nodes)) plan.pipes
    → (p w r : ℕ) → slice_get plan.pipes p ≡ Some (w, r) → w < length plan.nodes
writers_within plan forward p w r is =
    let within = slice_get_within plan.pipes p (w, r) is in
    let e : get_or plan.pipes p (w, r) ≡ (w, r) =
    same_Some (get_or plan.pipes p (w, r)) (w, r)
    (sym (slice_get-get_or plan.pipes p (w, r) within) ∙ is) in
    let f = subst (λ (x : ℕ × ℕ). (x.0 < x.1) × (x.1 < length plan.nodes)) e
    (forward p (w, r) within) in
    omega (arith, f)

-- what a table says of a node
pub need_is : (plan : Planned) (needs : List Need) → AreNeeds plan needs → (k : ℕ) (n : Need)
    → slice_get needs k ≡ Some n → IsNeedFor plan k n
need_is plan needs are k need.Nothing is = λ n h.
    cc (sym is ∙ are.all_heads k n h)
need_is plan needs are k (need.Only needed) is = are.ends k needed is
need_is plan needs are k (need.First n) is = are.heads k n is
need_is plan needs are k need.Everything is = λ n h. cc (sym is ∙ are.all_heads k n h)

-- and of none
pub no_need : (plan : Planned) (needs : List Need) → AreNeeds plan needs → (k : ℕ)
    → slice_get needs k ≡ None → HasNoHead plan k
no_need plan needs are k none n h =
    none-some (need.First n) (sym none ∙ are.all_heads k n h)
