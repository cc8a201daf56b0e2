use Rattle.std.proofs.Common.{◌≡◌, ◌++◌, take, drop}
use Rattle.std.specs.List.{concat}
use Rattle.machine.specs.Lines.{lines}
use Rattle.network_tests.proofs.tests.small.front_line.Given as goal

abbrev pub invariant-loop-byte : goal.invariant-loop-byte
invariant-loop-byte l = l.line.items ++ concat (take 1 (lines (drop l.byte-index l.bytes)))
    ≡ concat (take 1 (lines l.bytes))
