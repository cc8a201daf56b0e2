-- Walks over the places of a byte.
use Rattle.std.proofs.Common.{◌≡◌, ℕ, false, eqb, List, drop, ap, ◌∙◌, subst}
use Rattle.std.specs.List.{All}
use Rattle.lanes.specs.inner.Walks.{Course}
use Rattle.machine.specs.inner.Places.{FirstFrom}
use Rattle.line_filters.specs.inner.FieldPlaces.{IsWalkedTo}

-- what holds of the place of a walk
pub as_walked : (P : ℕ → List ℕ → ℕ → Type 0) (w : Course) (content : List ℕ) (d at : ℕ)
    → w.bytes ≡ content → w.byte ≡ d → w.from ≡ at → P w.byte w.bytes w.from → P d content at
as_walked P w content d at e f g h =
    subst (λ (k : ℕ). P d content k) g
    (subst (λ (x : List ℕ). P d x w.from) e (subst (λ (b : ℕ). P b w.bytes w.from) f h))

-- a walk that goes on
pub walked_to : (old w new : Course) (k : ℕ) → w.bytes ≡ old.bytes → w.byte ≡ old.byte
    → new ≡ record w { from = k } → IsWalkedTo k old new
walked_to old w new k e f g =
    record {
      bytes = ap (λ (x : Course). x.bytes) g ∙ e;
      byte = ap (λ (x : Course). x.byte) g
          ∙ f;
      from = ap (λ (x : Course). x.from) g;
    }

-- a new walk
pub none_of : (w : Course) (content : List ℕ) (d : ℕ)
    → w ≡ record { bytes = content; byte = d; from = 0 }
    → All (λ x. eqb x w.byte ≡ false) (drop w.from w.bytes) → All (λ x. eqb x d ≡ false) content
none_of w content d e h =
    subst (λ (v : Course). All (λ x. eqb x v.byte ≡ false) (drop v.from v.bytes)) e h

pub first_of_walk : (w : Course) (content : List ℕ) (d k : ℕ)
    → w ≡ record { bytes = content; byte = d; from = 0 } → FirstFrom w.bytes w.byte w.from k
    → FirstFrom content d 0 k
first_of_walk w content d k e h = subst (λ (v : Course). FirstFrom v.bytes v.byte v.from k) e h
