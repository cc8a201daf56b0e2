use Rattle.std.proofs.Common.{◌∙◌, ◌%◌, ◌/◌, ap, arith, ℕ, shr-shr}
use Rattle.std.specs.Int.{bit_at}
use Rattle.std.proofs.lemmas.Bool.{eqb-true}
use Rattle.std.proofs.lemmas.Nat.Bits.{bit_at_and, bit_at-lt, bit_at-zero}
use Rattle.lanes.proofs.span.are_apart.Goals as goal

pub returns : goal.returns
returns c apart k set =
    let m = c.args.mask in
    omega (
      arith,
      set,
      bit_at_and m (m / 2) k,
      ap (λ (x : ℕ). bit_at x k) (eqb-true _ _ apart)
          ∙ bit_at-zero k,
      ap (λ (x : ℕ). x % 2) (shr-shr m 1 k),
      bit_at-lt (m / 2) k,
    )
