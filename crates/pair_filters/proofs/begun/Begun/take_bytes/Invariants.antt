use Rattle.std.proofs.Common.{◌≡◌, ◌-◌, length}
use Rattle.pair_filters.specs.UniqSteps.{lines_begun}
use Rattle.pair_filters.proofs.lemmas.WalkedLaws.{BytesWalked}
use Rattle.pair_filters.proofs.begun.Begun.take_bytes.Given as goal

abbrev pub invariant-loop-self : goal.invariant-loop-self
invariant-loop-self l =
    record {
      walked : BytesWalked l.fn.self.rules (lines_begun l.fn.self)
          (lines_begun l.self) l.fn.partial.items l.partial.items l.bytes l.at l.fn.made l.made;
      rules : l.self.rules ≡ l.fn.self.rules;
    }

abbrev pub decreases-loop-self : goal.decreases-loop-self
decreases-loop-self l = length l.bytes - l.at
