-- One output more whose names are no names of the others.
use Rattle.std.proofs.Common.{◌≡◌, ◌≢◌, ℕ, List, [], ◌∷◌, ◌++◌, sym, subst}
use Rattle.std.proofs.lemmas.List.Elements.{All-nil, All-cons, All-head, All-tail, All-push}
use Rattle.folders.specs.inner.Outputs.{AreApart}
use Rattle.folders.specs.declared.output.Output.{Output}
use Rattle.held_outputs.specs.inner.Holding.{IsApartFrom}

other : {a b : List ℕ} → a ≢ b → b ≢ a
other ne is = ne (sym is)

rest_apart : (first : Output) (os : List Output) (o : Output) → IsApartFrom (first ∷ os) o → IsApartFrom os o
rest_apart first os o apart = (
  apart.0,
  (All-tail (λ p. o.new ≢ p.new) first os apart.1.0, All-tail (λ p. o.new ≢ p.place) first os apart.1.1),
  (All-tail (λ p. o.place ≢ p.new) first os apart.2.0, All-tail (λ p. o.place ≢ p.place) first os apart.2.1),
)

pub apart_more : (os : List Output) (o : Output) → AreApart os → IsApartFrom os o → AreApart (os ++ o ∷ [])
apart_more [] o apart from = (
  from.0,
  (All-nil (λ p. o.new ≢ p.new), All-nil (λ p. o.new ≢ p.place)),
  (All-nil (λ p. o.place ≢ p.new), All-nil (λ p. o.place ≢ p.place)),
  tt,
)
apart_more (first ∷ os) o apart from = (
  apart.0,
  (
    All-push (λ p. first.new ≢ p.new) os o apart.1.0 (other (All-head (λ p. o.new ≢ p.new) first os from.1.0)),
    All-push (λ p. first.new ≢ p.place) os o apart.1.1 (other (All-head (λ p. o.place ≢ p.new) first os from.2.0)),
  ),
  (
    All-push (λ p. first.place ≢ p.new) os o apart.2.0 (other (All-head (λ p. o.new ≢ p.place) first os from.1.1)),
    All-push (λ p. first.place ≢ p.place) os o apart.2.1 (other (All-head (λ p. o.place ≢ p.place) first os from.2.1)),
  ),
  apart_more os o apart.3 (rest_apart first os o from),
)

-- apart from one, and from the rest
pub apart_first : (first : Output) (os : List Output) (o : Output) → o.new ≢ first.new → o.new ≢ first.place
    → o.place ≢ first.new → o.place ≢ first.place → IsApartFrom os o → IsApartFrom (first ∷ os) o
apart_first first os o new_new new_place place_new place_place from = (
  from.0,
  (All-cons (λ p. o.new ≢ p.new) first os new_new from.1.0, All-cons (λ p. o.new ≢ p.place) first os new_place from.1.1),
  (All-cons (λ p. o.place ≢ p.new) first os place_new from.2.0, All-cons (λ p. o.place ≢ p.place) first os place_place from.2.1),
)

pub apart_none : (o : Output) → o.new ≢ o.place → IsApartFrom [] o
apart_none o apart = (
  apart,
  (All-nil (λ p. o.new ≢ p.new), All-nil (λ p. o.new ≢ p.place)),
  (All-nil (λ p. o.place ≢ p.new), All-nil (λ p. o.place ≢ p.place)),
)

-- one more that was pushed, after room for it was made
pub apart_pushed : (os : List Output) (o : Output) {reserved slice pushed : List Output} {entry : Output} → AreApart os
    → reserved ≡ os → slice ≡ reserved → IsApartFrom slice o → entry ≡ o → pushed ≡ reserved ++ entry ∷ []
    → AreApart pushed
apart_pushed os o {reserved} {slice} {pushed} {entry} apart same whole from is more =
    subst AreApart (sym more)
    (subst (λ (e : Output). AreApart (reserved ++ e ∷ [])) (sym is)
    (apart_more reserved o (subst AreApart (sym same) apart) (subst (λ (l : List Output). IsApartFrom l o) whole from)))
