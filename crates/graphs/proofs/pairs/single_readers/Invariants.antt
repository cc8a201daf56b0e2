use Rattle.std.proofs.Common.{◌≡◌, ℕ, None, length, get_or, take}
use Rattle.std.specs.Option.{option_to_list}
use Rattle.graphs.specs.inner.Rows.{row}
use Rattle.graphs.proofs.pairs.single_readers.Given as goal

abbrev pub invariant-loop-channel : goal.invariant-loop-channel
invariant-loop-channel l = record {
  count : length l.single.items ≡ l.channels;
  rows : (k : ℕ)
      → option_to_list (get_or l.single.items k None) ≡ row (take l.channel-index l.readers) k;
}
