-- Stages that share the number of a channel are those that a pipe joins.
use Rattle.std.proofs.Common.{◌≡◌, ℕ, zero, ◌+◌, ◌<◌, ◌↔◌, true, List, [], length, get_or, Option}
use Rattle.std.proofs.Common.{Some, None, Result, refl, sym, ap, ◌∙◌, subst, arith}
use Rattle.std.specs.Prelude.{IfOk, MatchOption}
use Rattle.std.specs.Global.{Vec}
use Rattle.std.specs.List.{All, Contains, filter, flat_map}
use Rattle.std.proofs.lemmas.Bool.{eqb-true, eq-eqb}
use Rattle.std.proofs.lemmas.List.Elements.{All-nil, All-cons, All-filter, All-contains}
use Rattle.std.proofs.lemmas.List.Elements.{All-contains_itself, Contains-get_or, filter_passes}
use Rattle.std.proofs.lemmas.Result.{IfOk-weaker}
use Rattle.graphs.specs.Orders.{Joins, SameJoins, IsPlannedOrder, HasNoOrder}
use Rattle.graphs.specs.inner.Meetings.{Meet}
use Rattle.graphs.proofs.JoinLaws.{planned_by_joins, unordered_by_joins}
use Rattle.planner.specs.declared.place.Channel.{Channel}
use Rattle.planner.specs.declared.place.Channel.TheVariants.{Fifo, Bar}
use Rattle.planner.specs.declared.place.Place.{Place}
use Rattle.planner.specs.declared.place.Place.TheVariants as place
use Rattle.planner.specs.declared.place.End.{End}
use Rattle.planner.specs.Ends.{is_same, meets_at, meets, pairs_of, stage_pipes}
use Rattle.planner.specs.inner.Ordered.{channel_number, channel_at, channel_of, IsChannelOf}
use Rattle.planner.specs.inner.Ordered.{IsPlaceOf, IsEndOf, AreEndsOf}
use Rattle.planner.proofs.lemmas.Members.{origin, in_flat_map, of_map}
use Rattle.planner.proofs.lemmas.RiseLaws.{meeting_joins}
use Rattle.planner.proofs.lemmas.SortLaws.{All-flat_map}

-- ---- numbers

-- one channel has one number
same_numbers : (fifos : ℕ) (c d : Channel) → is_same c d ≡ true
    → channel_number fifos c ≡ channel_number fifos d
same_numbers fifos (Fifo k) (Fifo l) e = eqb-true k l e
same_numbers fifos (Bar k) (Bar l) e = ap (λ n. fifos + n) (eqb-true k l e)
same_numbers fifos _ _ e = absurd (cc e)

-- and two channels with one number are one
numbers_same : (fifos count : ℕ) (c d : Channel) → IsChannelOf fifos count c
    → IsChannelOf fifos count d → channel_number fifos c ≡ channel_number fifos d
    → is_same c d ≡ true
numbers_same fifos count (Fifo k) (Fifo l) a b e = eq-eqb k l e
numbers_same fifos count (Bar k) (Bar l) a b e = eq-eqb k l (omega (arith, e))
numbers_same fifos count _ _ a b e = absurd (omega (arith, a, b, e))

-- numbers are below that of channels
number_below : (fifos count : ℕ) (c : Channel) → IsChannelOf fifos count c
    → channel_number fifos c < fifos + count + 1
number_below fifos count (Fifo k) a = omega (arith, a)
number_below fifos count (Bar b) a = omega (arith, a)

-- ---- one branch and one input

-- a branch and an input that meet have a number together
meet_at : (fifos : ℕ) (p q : Place) (s t : ℕ) → meets_at p q ≡ true
    → (n : ℕ) × Contains (channel_at fifos s p) (n, s) × Contains (channel_at fifos t q) (n, t)
meet_at fifos (place.Through c) (place.Through d) s t e = (
  channel_number fifos c,
  (0, omega arith, refl),
  (0, omega arith, ap (λ n. (n, t)) (sym (same_numbers fifos c d e))),
)
meet_at fifos _ _ s t e = absurd (cc e)

-- if an end has a number, it has the channel of that number
has_channel : (fifos : ℕ) (p : Place) (s n u : ℕ) → Contains (channel_at fifos s p) (n, u)
    → (c : Channel) × (p ≡ place.Through c) × (channel_number fifos c ≡ n) × (s ≡ u)
has_channel fifos (place.Through c) s n u (zero, l, e) =
    (c, refl, ap (λ (p : ℕ × ℕ). p.0) e, ap (λ (p : ℕ × ℕ). p.1) e)
has_channel fifos _ s n u (_, l, e) = absurd (omega (arith, l))

-- a branch and an input that have one number meet
at_meets : (fifos count : ℕ) (p q : Place) (s t n u v : ℕ) → IsPlaceOf fifos count p
    → IsPlaceOf fifos count q → Contains (channel_at fifos s p) (n, u)
    → Contains (channel_at fifos t q) (n, v) → (meets_at p q ≡ true) × (s ≡ u) × (t ≡ v)
at_meets fifos count p q s t n u v a b w r =
    let (c, ce, cn, cs) = has_channel fifos p s n u w in
    let (d, de, dn, dt) = has_channel fifos q t n v r in
    let P : Place → Type 0 = λ x. IsPlaceOf fifos count x in
    let e = numbers_same fifos count c d (subst P ce a) (subst P de b) (cn ∙ sym dn) in
    (ap (λ x. meets_at x q) ce ∙ (ap (λ x. meets_at (place.Through c) x) de ∙ e), cs, dt)

-- the number and the stage are in their ranges
abbrev pub IsWithin : ℕ → ℕ → ℕ × ℕ → Type 0
IsWithin channels count e = (e.0 < channels) × (e.1 < count)

channel_within : (fifos count : ℕ) (e : End) → IsEndOf fifos count e
    → All (IsWithin (fifos + count + 1) count) (channel_of fifos e)
channel_within fifos count e h = go e.place h.1
  where
    go : (p : Place) → IsPlaceOf fifos count p
        → All (IsWithin (fifos + count + 1) count) (channel_at fifos e.stage p)
    go (place.Through c) a =
        let P = IsWithin (fifos + count + 1) count in
        All-cons P (channel_number fifos c, e.stage) [] (number_below fifos count c a, h.0)
        (All-nil P)
    go _ a = All-nil (IsWithin (fifos + count + 1) count)

-- the number of an end's channel is below what all of them are below
pub channel_below : (fifos limit : ℕ) (es : List End) (i : ℕ) (x : End) (c : Channel)
    → i < length es → x ≡ get_or es i x → x.place ≡ place.Through c
    → All (λ (e : ℕ × ℕ). e.0 < limit) (flat_map (channel_of fifos) es)
    → channel_number fifos c < limit
channel_below fifos limit es i x c l is e all =
    let p : ℕ × ℕ = (channel_number fifos c, x.stage) in
    let r : Contains (channel_of fifos x) p =
    subst (λ q. Contains (channel_at fifos x.stage q) p) (sym e) (0, omega arith, refl) in
    All-contains (λ (e : ℕ × ℕ). e.0 < limit) (flat_map (channel_of fifos) es) p all
    (in_flat_map (channel_of fifos) es x p (i, l, sym is) r)

pub channels_within : (fifos count : ℕ) (es : List End) → All (IsEndOf fifos count) es
    → All (IsWithin (fifos + count + 1) count) (flat_map (channel_of fifos) es)
channels_within fifos count es are = All-flat_map (IsWithin (fifos + count + 1) count)
    (IsEndOf fifos count) (channel_of fifos) es (channel_within fifos count) are

-- ---- all of them

module _ (fifos count : ℕ) (ins outs : List End) (are : AreEndsOf fifos count ins outs) where
  -- two that a pipe joins have a number together
  joined_meet : (s t : ℕ) → Joins (stage_pipes ins outs) s t
      → Meet (flat_map (channel_of fifos) outs) (flat_map (channel_of fifos) ins) s t
  joined_meet s t (i, l, a, b) =
      let p : ℕ × ℕ = get_or (stage_pipes ins outs) i (0, 0) in
      let (o, oc, pc) = origin (pairs_of ins) outs p
      (Contains-get_or (stage_pipes ins outs) i (0, 0) l) in
      let pair : End → ℕ × ℕ = λ (x : End). (o.stage, x.stage) in
      let (x, xf, e) = of_map pair (filter (meets o) ins) p pc in
      let xc = All-contains (Contains ins) (filter (meets o) ins) x
      (All-filter (meets o) (Contains ins) ins (All-contains_itself ins)) xf in
      let m = All-contains (λ y. meets o y ≡ true) (filter (meets o) ins) x
      (filter_passes (meets o) ins) xf in
      let (n, w, r) = meet_at fifos o.place x.place o.stage x.stage m in
      let here : Meet (flat_map (channel_of fifos) outs)
      (flat_map (channel_of fifos) ins) o.stage x.stage = (
        n,
        in_flat_map (channel_of fifos) outs o (n, o.stage) oc w,
        in_flat_map (channel_of fifos) ins x (n, x.stage) xc r,
      ) in
      let f : o.stage ≡ s = ap (λ (q : ℕ × ℕ). q.0) e ∙ a in
      let g : x.stage ≡ t = ap (λ (q : ℕ × ℕ). q.1) e ∙ b in
      let P : ℕ → Type 0 = λ u. Meet (flat_map (channel_of fifos) outs)
      (flat_map (channel_of fifos) ins) u x.stage in
      let Q : ℕ → Type 0 = λ v. Meet (flat_map (channel_of fifos) outs)
      (flat_map (channel_of fifos) ins) s v in
      subst Q g (subst P f here)

  -- and a pipe joins two that have one
  meet_joined : (s t : ℕ) → Meet (flat_map (channel_of fifos) outs)
      (flat_map (channel_of fifos) ins) s t → Joins (stage_pipes ins outs) s t
  meet_joined s t (n, w, r) =
      let (o, oc, ow) = origin (channel_of fifos) outs (n, s) w in
      let (x, xc, xr) = origin (channel_of fifos) ins (n, t) r in
      let a = All-contains (IsEndOf fifos count) outs o are.branches oc in
      let b = All-contains (IsEndOf fifos count) ins x are.inputs xc in
      let (m, f, g) = at_meets fifos count o.place x.place o.stage x.stage n s t a.1 b.1 ow xr in
      let P : ℕ → Type 0 = λ u. Joins (stage_pipes ins outs) u x.stage in
      let Q : ℕ → Type 0 = λ v. Joins (stage_pipes ins outs) s v in
      subst Q g (subst P f (meeting_joins ins outs o x oc xc m))

  module _ (pairs : List (ℕ × ℕ)) (meet : (s t : ℕ)
      → Joins pairs s t ↔ Meet (flat_map (channel_of fifos) outs)
      (flat_map (channel_of fifos) ins) s t) where
    same_joins : SameJoins pairs (stage_pipes ins outs)
    same_joins s t = (λ j. meet_joined s t ((meet s t).0 j), λ j. (meet s t).1 (joined_meet s t j))

    found_by_joins : (found : Option (Vec ℕ))
        → MatchOption found (HasNoOrder pairs) (λ order. IsPlannedOrder count pairs order.items)
        → MatchOption found (HasNoOrder (stage_pipes ins outs))
        (λ order. IsPlannedOrder count (stage_pipes ins outs) order.items)
    found_by_joins None none = unordered_by_joins pairs (stage_pipes ins outs) same_joins none
    found_by_joins (Some order) is = planned_by_joins count pairs
        (stage_pipes ins outs) same_joins order.items is

    -- what is found for the pairs is found for the pipes
    pub order_by_joins : {E : Type 0} (r : Result (Option (Vec ℕ)) E)
        → IfOk r (λ found. MatchOption found (HasNoOrder pairs)
        (λ order. IsPlannedOrder count pairs order.items))
        → IfOk r (λ found. MatchOption found (HasNoOrder (stage_pipes ins outs))
        (λ order. IsPlannedOrder count (stage_pipes ins outs) order.items))
    order_by_joins r =
        IfOk-weaker r (λ found. MatchOption found (HasNoOrder pairs)
        (λ order. IsPlannedOrder count pairs order.items))
        (λ found. MatchOption found (HasNoOrder (stage_pipes ins outs))
        (λ order. IsPlannedOrder count (stage_pipes ins outs) order.items)) found_by_joins
