use Rattle.std.proofs.Common.{◌≡◌, ◌≢◌, ◌<◌, ℕ, List, length, sym, subst, ap, ◌∙◌}
use Rattle.std.specs.Global.{Vec}
use Rattle.std.specs.List.{All}
use Rattle.std.proofs.lemmas.List.Elements.{All-map, All-weaker}
use Rattle.std.proofs.lemmas.Result.{IfOk-weaker}
use Rattle.graphs.specs.Orders.{IsPlannedOrder, HasNoOrder}
use Rattle.graphs.specs.inner.Rows.{links_at, row, flipped}
use Rattle.graphs.specs.inner.StripSteps.{AreWithin, AreMirrored, IsStripped, AreCounted}
use Rattle.graphs.proofs.OrderLaws.{planned, unordered, joins_within, rows_within, rows_mirrored}
use Rattle.graphs.proofs.order.taken_in_order.Goals as goal

pub table_of-requires-2 : goal.table_of-requires-2
table_of-requires-2 c =
    let n = c.args.count in
    let P : List (ℕ × ℕ) → Type 0 = λ xs. All (λ (e : ℕ × ℕ). e.0 < n) xs in
    let f : ℕ × ℕ → ℕ × ℕ = λ e. (e.1, e.0) in
    let w = All-weaker (λ (e : ℕ × ℕ). (e.0 < n) × (e.1 < n)) (λ (e : ℕ × ℕ). e.1 < n)
    (λ e h. h.1) c.args.pipes.now c.requires in
    subst P (sym (c.as_slice.ensures.value ∙ c.in_ok-other.ensures))
    (All-map (λ (e : ℕ × ℕ). e.0 < n) f c.args.pipes.now w)

pub strip-requires-clause-within : goal.strip-requires-clause-within
strip-requires-clause-within c =
    let n = c.args.count in
    let pipes = c.args.pipes.now in
    let same = c.as_slice.ensures.value ∙ c.in_ok-other.ensures in
    let links = c.in_ok-links.links.items in
    let rows = λ (k : ℕ). c.in_ok-links.ensures.rows k ∙ ap (λ xs. row xs k) same in
    let P : List (Vec ℕ) → Type 0 = λ xs. AreWithin (length xs) xs in
    let w = rows_within n pipes links c.requires rows in
    subst P (sym c.as_slice-2.ensures.value)
    (subst (λ m. AreWithin m links) (sym c.in_ok-links.ensures.count) w)

pub strip-requires-clause-mirrored : goal.strip-requires-clause-mirrored
strip-requires-clause-mirrored c =
    let n = c.args.count in
    let pipes = c.args.pipes.now in
    let same = c.as_slice.ensures.value ∙ c.in_ok-other.ensures in
    let links = c.in_ok-links.links.items in
    let back = c.in_ok-back.back.items in
    let rows = λ (k : ℕ). c.in_ok-links.ensures.rows k ∙ ap (λ xs. row xs k) same in
    let P : List (Vec ℕ) → List (Vec ℕ) → Type 0 =
    λ xs ys. AreMirrored (length xs) (links_at xs) (links_at ys) in
    let m = rows_mirrored (length links) pipes links back rows c.in_ok-back.ensures.rows in
    subst (λ xs. P xs c.as_slice-3.result.now) (sym c.as_slice-2.ensures.value)
    (subst (λ ys. P links ys) (sym c.as_slice-3.ensures.value) m)

pub returns-clause-all : goal.returns-clause-all
returns-clause-all c =
    let n = c.args.count in
    let pipes = c.args.pipes.now in
    let table = c.as_slice-2.result.now in
    let same = c.as_slice-2.ensures.value in
    let count : length table ≡ n = ap length same ∙ c.in_ok-links.ensures.count in
    let rows : (k : ℕ) → links_at table k ≡ row (flipped pipes) k =
    λ k. ap (λ xs. links_at xs k) same
    ∙ (c.in_ok-links.ensures.rows k
    ∙ ap (λ xs. row xs k) (c.as_slice.ensures.value ∙ c.in_ok-other.ensures)) in
    IfOk-weaker c.strip.result
    (λ taken. IsStripped 0 (length table) (links_at table) taken.items
    × AreCounted (length table) taken.items)
    (λ taken. length taken.items ≡ n → IsPlannedOrder n pipes taken.items)
    (λ taken h e.
    let s = subst (λ m. IsStripped 0 m (links_at table) taken.items) count h.0 in
    let k = subst (λ m. AreCounted m taken.items) count h.1 in
    planned n pipes (links_at table) rows taken.items s (k.all e))
    c.strip.ensures

pub returns-clause-some : goal.returns-clause-some
returns-clause-some c =
    let n = c.args.count in
    let pipes = c.args.pipes.now in
    let table = c.as_slice-2.result.now in
    let same = c.as_slice-2.ensures.value in
    let count : length table ≡ n = ap length same ∙ c.in_ok-links.ensures.count in
    let rows : (k : ℕ) → links_at table k ≡ row (flipped pipes) k =
    λ k. ap (λ xs. links_at xs k) same
    ∙ (c.in_ok-links.ensures.rows k
    ∙ ap (λ xs. row xs k) (c.as_slice.ensures.value ∙ c.in_ok-other.ensures)) in
    IfOk-weaker c.strip.result
    (λ taken. IsStripped 0 (length table) (links_at table) taken.items
    × AreCounted (length table) taken.items)
    (λ taken. length taken.items ≢ n → HasNoOrder pipes)
    (λ taken h e.
    let s = subst (λ m. IsStripped 0 m (links_at table) taken.items) count h.0 in
    let k = subst (λ m. AreCounted m taken.items) count h.1 in
    let (t, tn, out) = k.some e in
    unordered n pipes (links_at table) rows taken.items s
    (joins_within n pipes c.requires) t tn out)
    c.strip.ensures
