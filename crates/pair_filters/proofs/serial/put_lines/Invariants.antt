use Rattle.std.proofs.Common.{◌≡◌, ◌-◌, length}
use Rattle.machine.specs.Lines.{newline}
use Rattle.pair_filters.proofs.lemmas.JoinLaws.{JoinsUpTo}
use Rattle.pair_filters.proofs.serial.put_lines.Given as goal

abbrev pub invariant-loop-end : goal.invariant-loop-end
invariant-loop-end l =
    record {
      joined : JoinsUpTo l.delimiters l.fn.joint l.joint l.bytes l.at l.fn.made l.made;
      course : l.ends ≡ record { bytes = l.bytes; byte = newline; from = l.at };
    }

abbrev pub decreases-loop-end : goal.decreases-loop-end
decreases-loop-end l = length l.bytes - l.at
