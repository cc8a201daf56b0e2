-- Waits that are each a node's own, in rising order.
use Rattle.std.proofs.Common.{◌≡◌, ℕ, suc, ◌<◌, ◌≤◌, List, [], ◌∷◌, false, length, get_or, arith}
use Rattle.std.proofs.lemmas.List.Elements.{All-from_get_or}
use Rattle.graphs.specs.Graph.{Graph, IsNode, IsPipe}
use Rattle.network_laws.specs.Circles.{own_end, AreOwnWaits}
use Rattle.network_laws.specs.Outcome.{AreRising}
use Rattle.network_laws.specs.declared.outcome.Waiting.{Waiting}
use Rattle.network_laws.proofs.CircleLaws.{rising_distinct}
use Rattle.program.specs.inner.Circles.{IsOwnWait}

pub no_wait : Waiting
no_wait = record { node = 0; pipe = 0; full = false }

-- the first of them, this many
pub record AreOwnUpTo (g : Graph) (waits : List Waiting) (count : ℕ) : Type 0 where
  pub own : (i : ℕ) → i < count → IsOwnWait g (get_or waits i no_wait)
  pub rise : (i : ℕ) → suc i < count
      → (get_or waits i no_wait).node < (get_or waits (suc i) no_wait).node

rising : (waits : List Waiting) → ((i : ℕ) → suc i < length waits
    → (get_or waits i no_wait).node < (get_or waits (suc i) no_wait).node) → AreRising waits
rising [] rise = tt
rising (w ∷ []) rise = tt
rising (w ∷ v ∷ waits) rise =
    (rise 0 (omega arith), rising (v ∷ waits) (λ i l. rise (suc i) (omega arith)))

-- all of them
pub own_waits : (g : Graph) (waits : List Waiting) (count : ℕ) → length waits ≤ count
    → AreOwnUpTo g waits count → AreOwnWaits g waits
own_waits g waits count all are = record {
  nodes = All-from_get_or (λ w. IsNode g w.node) waits no_wait
      (λ i l. (are.own i (omega (arith, all))).0);
  pipes = All-from_get_or (λ w. IsPipe g w.pipe) waits no_wait
      (λ i l. (are.own i (omega (arith, all))).1);
  own = All-from_get_or (λ w. own_end g w ≡ w.node) waits no_wait
      (λ i l. (are.own i (omega (arith, all))).2);
  once = rising_distinct waits (rising waits (λ i l. are.rise i (omega (arith, all))));
}
