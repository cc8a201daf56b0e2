use Rattle.std.proofs.Common.{◌≡◌, ◌+◌, ◌≤◌, ◌++◌, length, take, drop}
use Rattle.line_filters.specs.inner.Stretches.{kept_of, reach_of}
use Rattle.line_filters.proofs.stretches.keep.Given as goal

abbrev pub invariant-loop-stretch : goal.invariant-loop-stretch
invariant-loop-stretch l =
    record {
      before : l.kept ≤ l.at;
      within : l.at + reach_of l.stretches.items ≤ length l.content.items;
      made : take l.kept l.content.items ++ kept_of l.stretches.items (drop l.at l.content.items)
          ≡ kept_of l.fn.stretches.items l.fn.content.items;
    }

abbrev pub decreases-loop-stretch : goal.decreases-loop-stretch
decreases-loop-stretch l = length l.stretches.items
