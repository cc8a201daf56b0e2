use Rattle.std.proofs.Common.{◌≡◌, ◌-◌, ◌++◌, ◌∷◌, []}
use Rattle.std.specs.List.{repeat}
use Rattle.tr_words.proofs.expansion.add_copies.Given as goal

abbrev pub invariant-loop : goal.invariant-loop
invariant-loop l = l.bytes.items ++ repeat (l.count - l.counter) (l.byte ∷ [])
    ≡ l.fn.bytes.items ++ repeat l.count (l.byte ∷ [])
