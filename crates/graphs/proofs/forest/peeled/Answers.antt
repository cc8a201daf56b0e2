use Rattle.std.proofs.Common.{◌≡◌, ◌<◌, ◌↔◌, ℕ, List, length, sym, subst, ap, ◌∙◌}
use Rattle.std.specs.Global.{Vec}
use Rattle.std.specs.List.{All}
use Rattle.std.proofs.lemmas.Result.{IfOk-weaker}
use Rattle.graphs.specs.Graph.{IsForest}
use Rattle.graphs.specs.inner.Rows.{links_at, row}
use Rattle.graphs.specs.inner.StripSteps.{AreWithin, AreMirrored, IsStripped, AreCounted}
use Rattle.graphs.proofs.lemmas.ForestLaws.{both, both_within, both_rows_within, both_rows_mirrored}
use Rattle.graphs.proofs.lemmas.ForestLaws.{forest_decided}
use Rattle.graphs.proofs.forest.peeled.Goals as goal

pub table_of-requires : goal.table_of-requires
table_of-requires c =
    let P : List (ℕ × ℕ) → Type 0 = λ xs. All (λ (e : ℕ × ℕ). e.0 < c.args.count) xs in
    subst P (sym (c.as_slice.ensures.value ∙ c.in_ok-ends.ensures))
    (both_within c.args.count c.args.pipes.now c.requires)

pub strip-requires-clause-within : goal.strip-requires-clause-within
strip-requires-clause-within c =
    let n = c.args.count in
    let pipes = c.args.pipes.now in
    let links = c.in_ok-links.links.items in
    let rows = λ (k : ℕ). c.in_ok-links.ensures.rows k
    ∙ ap (λ xs. row xs k) (c.as_slice.ensures.value ∙ c.in_ok-ends.ensures) in
    let P : List (Vec ℕ) → Type 0 = λ xs. AreWithin (length xs) xs in
    let w = both_rows_within n pipes links rows (both_within n pipes c.requires) in
    subst P (sym c.as_slice-2.ensures.value)
    (subst (λ m. AreWithin m links) (sym c.in_ok-links.ensures.count) w)

pub strip-requires-clause-mirrored : goal.strip-requires-clause-mirrored
strip-requires-clause-mirrored c =
    let links = c.in_ok-links.links.items in
    let rows = λ (k : ℕ). c.in_ok-links.ensures.rows k
    ∙ ap (λ xs. row xs k) (c.as_slice.ensures.value ∙ c.in_ok-ends.ensures) in
    let P : List (Vec ℕ) → List (Vec ℕ) → Type 0 =
    λ xs ys. AreMirrored (length xs) (links_at xs) (links_at ys) in
    let m = both_rows_mirrored (length links) c.args.pipes.now links rows in
    subst (λ xs. P xs c.as_slice-3.result.now) (sym c.as_slice-2.ensures.value)
    (subst (λ ys. P links ys) (sym c.as_slice-3.ensures.value) m)

pub returns : goal.returns
returns c g hn hp =
    let n = c.args.count in
    let pipes = c.args.pipes.now in
    let table = c.as_slice-2.result.now in
    let same = c.as_slice-2.ensures.value in
    let count : length table ≡ n = ap length same ∙ c.in_ok-links.ensures.count in
    let rows : (k : ℕ) → links_at table k ≡ row (both pipes) k =
    λ k. ap (λ xs. links_at xs k) same
    ∙ (c.in_ok-links.ensures.rows k
    ∙ ap (λ xs. row xs k) (c.as_slice.ensures.value ∙ c.in_ok-ends.ensures)) in
    IfOk-weaker c.strip.result
    (λ taken. IsStripped 1 (length table) (links_at table) taken.items
    × AreCounted (length table) taken.items)
    (λ taken. (length taken.items ≡ n) ↔ IsForest g)
    (λ taken h.
    let s = subst (λ m. IsStripped 1 m (links_at table) taken.items) count h.0 in
    let k = subst (λ m. AreCounted m taken.items) count h.1 in
    forest_decided g n pipes (links_at table) taken.items hn hp c.requires rows s k)
    c.strip.ensures
