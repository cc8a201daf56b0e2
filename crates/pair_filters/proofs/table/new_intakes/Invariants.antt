use Rattle.std.proofs.Common.{◌≡◌, length, [], false}
use Rattle.std.specs.List.{All}
use Rattle.pair_filters.proofs.table.new_intakes.Given as goal

abbrev pub invariant-loop : goal.invariant-loop
invariant-loop l = (length l.intakes.items ≡ l.counter)
    × All (λ s. s ≡ record { left = []; closed = false }) l.intakes.items
