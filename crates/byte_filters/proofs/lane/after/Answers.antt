use Rattle.std.proofs.Common.{◌+◌, ◌*◌, ◌%◌, ◌^◌, ◌∙◌, ℕ, ap}
use Rattle.std.specs.Int.{bit_at}
use Rattle.byte_filters.proofs.lemmas.LaneLaws.{first_bit, later_bit}
use Rattle.byte_filters.proofs.lane.after.Goals as goal

pub returns-clause-first : goal.returns-clause-first
returns-clause-first c =
    ap (λ (n : ℕ). bit_at (c.args.mask * 2 % 2 ^ 64 + n) 0) c.one_if.ensures.value
    ∙ first_bit c.args.first c.args.mask

pub returns-clause-later : goal.returns-clause-later
returns-clause-later c k h =
    ap (λ (n : ℕ). bit_at (c.args.mask * 2 % 2 ^ 64 + n) (k + 1)) c.one_if.ensures.value
    ∙ later_bit c.args.first c.args.mask k h
