use Rattle.std.proofs.Common.{◌≡◌, ℕ, ◌+◌, ◌<◌, ◌↔◌, List, sym, ◌∙◌, subst, arith}
use Rattle.std.specs.List.{All, flat_map}
use Rattle.graphs.specs.Orders.{Joins}
use Rattle.graphs.specs.inner.Meetings.{Meet}
use Rattle.planner.specs.inner.Ordered.{channel_of}
use Rattle.planner.proofs.lemmas.OrderedJoins.{channels_within, order_by_joins}
use Rattle.planner.proofs.order.stage_order.Goals as goal

pub channels-requires : goal.channels-requires
channels-requires c k d l =
    let w =
    (channels_within c.args.fifo_count c.args.stage_count c.args.outs.now c.requires.branches k
    d l).0 in
    let f = c.requires.few_fifos in
    let s = c.requires.few_stages in
    omega (arith, w, f, s)

pub channels-requires-2 : goal.channels-requires-2
channels-requires-2 c k d l =
    let r =
    (channels_within c.args.fifo_count c.args.stage_count c.args.ins.now c.requires.inputs k d
    l).0 in
    let f = c.requires.few_fifos in
    let s = c.requires.few_stages in
    omega (arith, r, f, s)

pub meeting_pairs-requires-clause-writers : goal.meeting_pairs-requires-clause-writers
meeting_pairs-requires-clause-writers c =
    let count = c.args.fifo_count + c.args.stage_count + 1 in
    let P : List (ℕ × ℕ) → Type 0 = λ es. All (λ (e : ℕ × ℕ). e.0 < count) es in
    subst P (sym (c.as_slice.ensures.value ∙ c.in_ok-writers.ensures))
    (λ k d l.
    (channels_within c.args.fifo_count c.args.stage_count c.args.outs.now c.requires.branches k
    d l).0)

pub meeting_pairs-requires-clause-readers : goal.meeting_pairs-requires-clause-readers
meeting_pairs-requires-clause-readers c =
    let count = c.args.fifo_count + c.args.stage_count + 1 in
    let P : List (ℕ × ℕ) → Type 0 = λ es. All (λ (e : ℕ × ℕ). e.0 < count) es in
    subst P (sym (c.as_slice-2.ensures.value ∙ c.in_ok-readers.ensures))
    (λ k d l.
    (channels_within c.args.fifo_count c.args.stage_count c.args.ins.now c.requires.inputs k d
    l).0)

pub planned_order-requires : goal.planned_order-requires
planned_order-requires c =
    let count = c.args.stage_count in
    let P : List (ℕ × ℕ) → Type 0 = λ es. All (λ (e : ℕ × ℕ). e.1 < count) es in
    let Q : List (ℕ × ℕ) → Type 0 = λ es. All (λ (e : ℕ × ℕ). (e.0 < count) × (e.1 < count)) es in
    let w = subst P (sym (c.as_slice.ensures.value ∙ c.in_ok-writers.ensures))
    (λ k d l.
    (channels_within c.args.fifo_count count c.args.outs.now c.requires.branches k d l).1) in
    let r = subst P (sym (c.as_slice-2.ensures.value ∙ c.in_ok-readers.ensures))
    (λ k d l.
    (channels_within c.args.fifo_count count c.args.ins.now c.requires.inputs k d l).1) in
    subst Q (sym c.as_slice-3.ensures.value) (c.in_ok-pairs.ensures.within count w r)

pub returns : goal.returns
returns c =
    let fifos = c.args.fifo_count in
    let ins = c.args.ins.now in
    let outs = c.args.outs.now in
    let pairs = c.as_slice-3.result.now in
    let is_w : c.as_slice.result.now ≡ flat_map (channel_of fifos) outs = c.as_slice.ensures.value
    ∙ c.in_ok-writers.ensures in
    let is_r : c.as_slice-2.result.now ≡ flat_map (channel_of fifos) ins =
    c.as_slice-2.ensures.value ∙ c.in_ok-readers.ensures in
    let P : List (ℕ × ℕ) → Type 0 = λ ps. (s t : ℕ)
    → Joins ps s t ↔ Meet (flat_map (channel_of fifos) outs)
    (flat_map (channel_of fifos) ins) s t in
    let W : List (ℕ × ℕ) → Type 0 = λ ws. (s t : ℕ)
    → Joins c.in_ok-pairs.pairs.items s t ↔ Meet ws c.as_slice-2.result.now s t in
    let R : List (ℕ × ℕ) → Type 0 = λ rs. (s t : ℕ)
    → Joins c.in_ok-pairs.pairs.items s t ↔ Meet (flat_map (channel_of fifos) outs) rs s t in
    let meet = subst P (sym c.as_slice-3.ensures.value)
    (subst R is_r (subst W is_w c.in_ok-pairs.ensures.meet)) in
    order_by_joins fifos c.args.stage_count ins outs c.requires pairs meet c.planned_order.result
    c.planned_order.ensures
