use Rattle.std.proofs.Common.{w64}
use Rattle.std.proofs.lemmas.Nat.Bits.{bit_at_clear_other, bit_at_clear_same}
use Rattle.lanes.proofs.bits.without.Goals as goal

pub returns : goal.returns
returns c =
    record {
      kept = λ k l apart. bit_at_clear_other w64 c.args.mask c.args.bit c.requires k l apart;
      gone = bit_at_clear_same w64 c.args.mask c.args.bit c.requires;
    }
