-- A count that is too large for the machine of a form is so for paste.
use Rattle.std.proofs.Common.{◌≡◌, ℕ, List, sym, subst}
use Rattle.std.specs.Prelude.{Result, IsErrOf}
use Rattle.machine.specs.Law.{Shown, IsTooLarge, before, with_closed}
use Rattle.machine.specs.declared.protocol.StageFault.{StageFault}
use Rattle.machine.specs.declared.protocol.StageFault.TheVariants.{CountTooLarge}

-- what a call of feed says of such a count, and one of close
abbrev pub FeedsTooLarge : Result (Unit {0}) StageFault → ℕ → List ℕ → Shown → Type 0
FeedsTooLarge result input piece m = IsErrOf result CountTooLarge
    → IsTooLarge m m.closed (before input piece)

abbrev pub ClosesTooLarge : Result (Unit {0}) StageFault → ℕ → Shown → Type 0
ClosesTooLarge result input m = IsErrOf result CountTooLarge
    → IsTooLarge m (with_closed input m.closed) (λ ys. ys)

pub feeds_too_large : (result : Result (Unit {0}) StageFault) (input : ℕ) (piece : List ℕ)
    (m n : Shown) → n ≡ m → FeedsTooLarge result input piece m → FeedsTooLarge result input piece n
feeds_too_large result input piece m n e h = subst (FeedsTooLarge result input piece) (sym e) h

pub closes_too_large : (result : Result (Unit {0}) StageFault) (input : ℕ) (m n : Shown) → n ≡ m
    → ClosesTooLarge result input m → ClosesTooLarge result input n
closes_too_large result input m n e h = subst (ClosesTooLarge result input) (sym e) h
