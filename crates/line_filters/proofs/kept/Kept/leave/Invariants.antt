use Rattle.std.proofs.Common.{◌≡◌, ℕ, List, ◌++◌, length}
use Rattle.line_filters.specs.KeptParts.{kept_bytes}
use Rattle.line_filters.specs.Skips.{last_of}
use Rattle.line_filters.proofs.kept.Kept.leave.Given as goal

abbrev pub invariant-loop-first : goal.invariant-loop-first
invariant-loop-first l = record {
  last : (zs : List ℕ)
      → last_of l.fn.self.counted l.count (kept_bytes l.self.full.items l.self.last ++ zs)
      ≡ last_of l.fn.self.counted l.count (kept_bytes l.fn.self.full.items l.fn.self.last ++ zs);
  counted : l.self.counted ≡ l.fn.self.counted;
  longest : l.self.longest ≡ l.fn.self.longest;
}

abbrev pub decreases-loop-first : goal.decreases-loop-first
decreases-loop-first l = length l.self.full.items
