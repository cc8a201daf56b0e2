use Rattle.std.proofs.Common.{◌≡◌, ◌≤◌, length, ◌-◌}
use Rattle.std.specs.Prelude.{replicate, IsNone}
use Rattle.machine.specs.Lines.{content}
use Rattle.pair_filters.specs.LineKeys.{IsEnded, key_by}
use Rattle.lanes.specs.inner.Prefixes.{prefix_bytes}
use Rattle.pair_filters.specs.UniqSteps.{first_of, lines_begun}
use Rattle.pair_filters.proofs.lemmas.TakeLaws.{IsBefore, RunsWalked}
use Rattle.pair_filters.proofs.begun.Begun.walk_runs.Given as goal

abbrev pub invariant-loop-next : goal.invariant-loop-next
invariant-loop-next l =
    record {
      walked : RunsWalked l.self.rules (lines_begun l.self)
          (replicate l.run.count (content (prefix_bytes l.run.first))) l.bytes l.at l.fn.made
          l.made;
      first : content (prefix_bytes l.run.first) ≡ first_of (content l.self.first.items) l.begun;
      key : prefix_bytes l.run.key ≡ key_by l.self.rules (content (prefix_bytes l.run.first));
      ended : 1 ≤ l.run.count → IsEnded (prefix_bytes l.run.first);
      before : 1 ≤ length (prefix_bytes l.before)
          → IsBefore l.self.rules (prefix_bytes l.before) (prefix_bytes l.run.first) l.run.count;
      kept : 1 ≤ l.run.count → IsNone l.begun → IsEnded l.self.first.items;
    }

abbrev pub decreases-loop-next : goal.decreases-loop-next
decreases-loop-next l = length l.bytes - l.at
