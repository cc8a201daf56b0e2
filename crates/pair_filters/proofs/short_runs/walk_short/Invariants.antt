use Rattle.std.proofs.Common.{◌≡◌, ◌+◌, ◌-◌, ◌<◌, ◌≤◌, ◌++◌, length, take, drop}
use Rattle.machine.specs.Lines.{newline}
use Rattle.pair_filters.specs.inner.ShortSteps.{TakesRuns}
use Rattle.pair_filters.proofs.short_runs.walk_short.Given as goal

abbrev pub invariant-loop-last : goal.invariant-loop-last
invariant-loop-last l =
    record {
      runs : TakesRuns l.fn.rules l.bytes l.start l.end l.last l.fn.made
          (l.made ++ take l.to l.few);
      short : l.last.end < l.last.start + 16;
      count : l.last.count ≤ 9;
      few : l.to ≤ 256;
      long : length l.few ≡ 256;
      bytes : l.walk.bytes ≡ drop l.base l.bytes;
      byte : l.walk.byte ≡ newline;
      place : l.base + l.walk.from ≡ l.last.end + 1;
    }

abbrev pub decreases-loop-last : goal.decreases-loop-last
decreases-loop-last l = length l.bytes - l.last.end
