-- Waits in rising order that are each of the node's own.
use Rattle.std.proofs.Common.{◌≡◌, ℕ, ◌+◌, ◌<◌, ◌≤◌, ◌⊎◌, List, [], ◌∷◌, ◌++◌, map, take, length}
use Rattle.std.proofs.Common.{get_or, sym, subst, inl, inr, ⊎_elim, arith}
use Rattle.std.specs.List.{All}
use Rattle.std.proofs.lemmas.List.{map_more}
use Rattle.std.proofs.lemmas.List.Elements.{All-head, All-tail, All-more, All-weaker}
use Rattle.graphs.specs.Graph.{Graph, IsNode, IsPipe, IsAmong, AreDistinct}
use Rattle.network_laws.specs.Circles.{own_end, AreOwnWaits}
use Rattle.network_laws.specs.declared.outcome.Waiting.{Waiting}

-- own waits of nodes below a number
pub record AreOwnBelow (g : Graph) (waits : List Waiting) (above : ℕ) : Type 0 where
  pub own : AreOwnWaits g waits
  pub below : All (λ w. w.node < above) waits

among_push : (xs : List ℕ) (k q : ℕ) → IsAmong q (xs ++ k ∷ []) → IsAmong q xs ⊎ (q ≡ k)
among_push [] k q (inl e) = inr e
among_push [] k q (inr m) = absurd m
among_push (x ∷ xs) k q (inl e) = inl (inl e)
among_push (x ∷ xs) k q (inr m) = ⊎_elim (λ a. inl (inr a)) (λ e. inr e) (among_push xs k q m)

distinct_push : (xs : List ℕ) (k : ℕ) → AreDistinct xs → (IsAmong k xs → ⊥)
    → AreDistinct (xs ++ k ∷ [])
distinct_push [] k d new = ((λ m. m), tt)
distinct_push (q ∷ xs) k d new = (
  λ a. ⊎_elim (λ m. d.0 m) (λ (e : q ≡ k). new (inl (sym e))) (among_push xs k q a),
  distinct_push xs k d.1 (λ m. new (inr m)),
)

below_all : (waits : List Waiting) (above k : ℕ) → All (λ w. w.node < above) waits
    → IsAmong k (map (λ w. w.node) waits) → k < above
below_all [] above k all among = absurd among
below_all (w ∷ waits) above k all (inl e) =
    let h = All-head (λ w. w.node < above) w waits all in
    omega (arith, h, e)
below_all (w ∷ waits) above k all (inr m) =
    below_all waits above k (All-tail (λ w. w.node < above) w waits all) m

-- one more
pub own_more : (g : Graph) (waits : List Waiting) (i : ℕ) (d : Waiting) (above : ℕ)
    → i < length waits → AreOwnBelow g (take i waits) above → above ≤ (get_or waits i d).node
    → IsNode g (get_or waits i d).node
    → IsPipe g (get_or waits i d).pipe → own_end g (get_or waits i d) ≡ (get_or waits i d).node
    → AreOwnBelow g (take (i + 1) waits) ((get_or waits i d).node + 1)
own_more g waits i d above l was le node pipe own = record {
  own = record {
    nodes = All-more (λ w. IsNode g w.node) waits i d l was.own.nodes node;
    pipes = All-more (λ w. IsPipe g w.pipe) waits i d l was.own.pipes pipe;
    own = All-more (λ w. own_end g w ≡ w.node) waits i d l was.own.own own;
    once = subst AreDistinct (sym (map_more (λ w. w.node) waits i d l))
        (distinct_push (map (λ w. w.node) (take i waits)) (get_or waits i d).node was.own.once
        (λ m. let h = below_all (take i waits) above (get_or waits i d).node was.below m in
        omega (arith, h, le)));
  };
  below = All-more (λ w. w.node < (get_or waits i d).node + 1) waits i d l
      (All-weaker (λ w. w.node < above) (λ w. w.node < (get_or waits i d).node + 1)
      (λ w h. omega (arith, h, le)) (take i waits) was.below) (omega arith);
}
