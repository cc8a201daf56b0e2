-- Steps over numbers: some numbers are passed, and those after them are taken.
use Rattle.std.specs.Prelude.{◌≡◌, ℕ, ◌+◌, ◌<◌, ◌≤◌, ◌^◌, List, [], ◌∷◌, Bool, true, false}
use Rattle.std.specs.Prelude.{MatchOption}
use Rattle.std.specs.Option.{MatchOption-prop}
use mathlib.Core.Bool.{Bool-set}
use mathlib.Core.HLevel.{Π_prop, ×_prop}
use native.Mathlib.Bridge.{le_prop}
use Rattle.line_filters.specs.declared.steps.Step.{Step}
use Rattle.line_filters.specs.inner.Ranges.{IsNoneBetween}

-- each number from n up to this one, which is not among them, is selected
abbrev pub IsAllBetween : (ℕ → Bool) → ℕ → ℕ → Type 0
IsAllBetween selects n end = (k : ℕ) → n ≤ k → k < end → selects k ≡ true

-- Of the numbers from n on, and below 2 ^ 64, those are selected that the steps take.
abbrev pub Follows : (ℕ → Bool) → ℕ → List Step → Type 0
Follows selects n [] = IsNoneBetween selects n (2 ^ 64)
Follows selects n (step ∷ steps) =
    IsNoneBetween selects n (n + step.skip)
    × MatchOption step.take (IsAllBetween selects (n + step.skip) (2 ^ 64))
    (λ count. (1 ≤ count)
    × (IsAllBetween selects (n + step.skip) (n + step.skip + count)
    × Follows selects (n + step.skip + count) steps))

all_prop : (selects : ℕ → Bool) (n end : ℕ) (b : Bool)
    → IsProp ((k : ℕ) → n ≤ k → k < end → selects k ≡ b)
all_prop selects n end b = Π_prop (λ k. Π_prop (λ low. Π_prop (λ high. Bool-set (selects k) b)))

-- it is one fact
pub Follows-prop : (selects : ℕ → Bool) (n : ℕ) (steps : List Step)
    → IsProp (Follows selects n steps)
Follows-prop selects n [] = all_prop selects n (2 ^ 64) false
Follows-prop selects n (step ∷ steps) =
    ×_prop (all_prop selects n (n + step.skip) false)
    (MatchOption-prop step.take (IsAllBetween selects (n + step.skip) (2 ^ 64))
    (λ count. (1 ≤ count)
    × (IsAllBetween selects (n + step.skip) (n + step.skip + count)
    × Follows selects (n + step.skip + count) steps))
    (all_prop selects (n + step.skip) (2 ^ 64) true)
    (λ count.
    ×_prop (le_prop {n = 1} {m = count})
    (×_prop (all_prop selects (n + step.skip) (n + step.skip + count) true)
    (Follows-prop selects (n + step.skip + count) steps))))
