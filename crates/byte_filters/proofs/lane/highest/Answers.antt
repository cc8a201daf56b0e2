use Rattle.std.proofs.Common.{◌≡◌, ◌-◌, ℕ, suc, subst, sym, arith}
use Rattle.std.specs.Int.{bit_at}
use Rattle.std.proofs.lemmas.Nat.{leading_top}
use Rattle.std.proofs.lemmas.Nat.Bits.{bit_at_above}
use lib.Count.{count_leading_zeros}
use Rattle.byte_filters.proofs.lemmas.LaneLaws.{bit_at_top}
use Rattle.byte_filters.proofs.lane.highest.Goals as goal

pub returns : goal.returns
returns c =
    let m = c.args.mask in
    let top = leading_top 64 m (omega (arith, c.requires)) c.ranges.mask.fits in
    let n : 63 - count_leading_zeros 64 m ≡ top.0 = omega (arith, top.1) in
    record {
      bound = omega (arith, top.1);
      set = subst (λ (j : ℕ). bit_at m j ≡ 1) (sym n) (bit_at_top m top.0 top.2 top.3);
      above = λ k high. bit_at_above m (suc top.0) k top.3 (omega (arith, high, n));
    }
