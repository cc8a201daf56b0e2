-- The lowest of the nodes that wait.
use Rattle.std.proofs.Common.{◌≡◌, ℕ, zero, suc, ◌+◌, ◌<◌, ◌≤◌, min, List, [], ◌∷◌, length, take}
use Rattle.std.proofs.Common.{get_or, refl, subst, inl, inr, ⊎_elim, arith}
use Rattle.std.specs.List.{All}
use Rattle.std.proofs.lemmas.Bool.{cases_lt}
use Rattle.std.proofs.lemmas.List.Elements.{All-more, All-weaker}
use Rattle.network_laws.specs.Outcome.{IsNamed}
use Rattle.network_laws.specs.declared.outcome.Waiting.{Waiting}

pub named_at : (waits : List Waiting) (i : ℕ) (d : Waiting) → i < length waits
    → IsNamed (get_or waits i d).node waits
named_at [] i d l = absurd (omega arith)
named_at (w ∷ waits) zero d l = inl refl
named_at (w ∷ waits) (suc i) d l = inr (named_at waits i d (omega arith))

-- k is the lowest of the first n, and waits
pub record IsLowestOf (waits : List Waiting) (n : ℕ) (k : ℕ) : Type 0 where
  pub named : IsNamed k waits
  pub lowest : All (λ w. k ≤ w.node) (take n waits)

-- one more
pub lowest_more : (waits : List Waiting) (i : ℕ) (d : Waiting) (low m : ℕ) → i < length waits
    → m ≡ min low (get_or waits i d).node → IsLowestOf waits i low → IsLowestOf waits (i + 1) m
lowest_more waits i d low m l is was =
    let lower : m ≤ low = omega (arith, is) in
    record {
      named = ⊎_elim
          (λ (h : low < (get_or waits i d).node). subst (λ k. IsNamed k waits)
          (let s : low ≡ m = omega (arith, is) in s) was.named)
          (λ (h : (get_or waits i d).node ≤ low). subst (λ k. IsNamed k waits)
          (let s : (get_or waits i d).node ≡ m = omega (arith, is) in s) (named_at waits i d l))
          (cases_lt low (get_or waits i d).node);
      lowest = All-more (λ w. m ≤ w.node) waits i d l
          (All-weaker (λ w. low ≤ w.node) (λ w. m ≤ w.node) (λ w h. omega (arith, lower))
          (take i waits) was.lowest) (omega (arith, is));
    }
