use Rattle.std.proofs.Common.{◌≡◌, ◌++◌, ◌∷◌, [], length}
use Rattle.std.specs.List.{All}
use Rattle.machine.specs.Pieces.{contents}
use Rattle.line_filters.specs.KeptParts.{amount_of, kept_bytes}
use Rattle.line_filters.specs.Skips.{skipped}
use Rattle.line_filters.proofs.kept.Kept.put_behind.Given as goal

abbrev pub invariant-loop-held : goal.invariant-loop-held
invariant-loop-held l =
    record {
      put : contents l.fn.out ++ skipped l.fn.self.counted l.fn.skip
          (kept_bytes l.fn.self.full.items l.fn.self.last)
          ≡ contents l.out ++ skipped l.fn.self.counted l.left
          (kept_bytes l.full.items l.fn.self.last);
      each : All
          (λ h. h.amount ≡ amount_of l.fn.self.counted h.bytes.items)
          (l.full.items ++ l.fn.self.last ∷ []);
      block : l.out.block ≡ l.fn.out.block;
    }

abbrev pub decreases-loop-held : goal.decreases-loop-held
decreases-loop-held l = length l.full.items
