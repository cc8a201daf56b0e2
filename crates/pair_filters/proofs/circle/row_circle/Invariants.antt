use Rattle.std.proofs.Common.{◌≡◌, ℕ, ◌+◌, ◌<◌, [], ◌∷◌, length, get_or}
use Rattle.commands.specs.Delimiters.{delimiter}
use Rattle.pair_filters.proofs.circle.row_circle.Given as goal

abbrev pub invariant-loop-k : goal.invariant-loop-k
invariant-loop-k l =
    record {
      long : length l.circle.items + 1 ≡ l.k;
      between : (k : ℕ) → k + 1 < l.k → delimiter l.delimiters k ≡ get_or l.circle.items k 0 ∷ [];
    }
