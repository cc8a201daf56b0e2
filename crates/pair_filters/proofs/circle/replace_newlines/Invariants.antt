use Rattle.std.proofs.Common.{◌≡◌, ◌<◌, ◌-◌, length}
use Rattle.machine.specs.Lines.{newline}
use Rattle.pair_filters.proofs.lemmas.PutLaws.{PutsUpTo}
use Rattle.pair_filters.proofs.circle.replace_newlines.Given as goal

abbrev pub invariant-loop-end : goal.invariant-loop-end
invariant-loop-end l =
    record {
      put : PutsUpTo l.circle l.first l.number l.bytes l.ends.from l.made;
      low : l.number < length l.circle;
      course : l.ends ≡ record { bytes = l.bytes; byte = newline; from = l.ends.from };
    }

abbrev pub decreases-loop-end : goal.decreases-loop-end
decreases-loop-end l = length l.bytes - l.ends.from
