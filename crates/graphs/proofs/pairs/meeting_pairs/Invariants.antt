use Rattle.std.proofs.Common.{◌≡◌, ℕ, take}
use Rattle.graphs.specs.inner.Meetings.{readers_of}
use Rattle.graphs.specs.inner.Rows.{row}
use Rattle.graphs.proofs.lemmas.PairLaws.{pairs_of}
use Rattle.graphs.proofs.pairs.meeting_pairs.Given as goal

abbrev pub invariant-loop-channel : goal.invariant-loop-channel
invariant-loop-channel l =
    record {
      pairs : l.pairs.items ≡ pairs_of (take l.channel-index l.writers) l.readers;
      table :
          (k : ℕ) → readers_of l.table k ≡ row l.readers k;
    }
