use Rattle.std.proofs.Common.{◌≡◌, ◌==◌, ◌≤◌, count_by, take}
use Rattle.machine.specs.Lines.{newline}
use Rattle.machine.proofs.lines.few_newlines.Given as goal

abbrev pub invariant-loop-byte : goal.invariant-loop-byte
invariant-loop-byte l = (l.count ≡ count_by (λ x. x == newline) (take l.byte-index l.bytes))
    × (l.count ≤ l.byte-index)
