use Rattle.std.proofs.Common.{◌∙◌, ap, arith, ℕ}
use Rattle.std.specs.Int.{bit_at}
use Rattle.std.proofs.lemmas.Bool.{eqb-true}
use Rattle.std.proofs.lemmas.Nat.Bits.{bit_at_and, bit_at-lt, bit_at-zero}
use Rattle.lanes.proofs.double.are_disjoint.Goals as goal

pub returns : goal.returns
returns c apart k set =
    omega (
      arith,
      set,
      bit_at_and c.args.a c.args.b k,
      ap (λ (x : ℕ). bit_at x k) (eqb-true _ _ apart) ∙ bit_at-zero k,
      bit_at-lt c.args.b k,
    )
