use Rattle.std.proofs.Common.{ℕ, cond, Bool, ◌∙◌, ap, arith}
use Rattle.byte_filters.proofs.lemmas.LaneLaws.{run_bit}
use Rattle.byte_filters.proofs.lane.run_blanks.Goals as goal

pub returns-clause-low : goal.returns-clause-low
returns-clause-low c k h =
    c.lowest_bits.ensures.low k h
    ∙ run_bit c.args.last c.args.bytes.now c.args.at k c.after.result c.blank_mask.result
    c.requires.room (omega (arith, h, c.requires.count)) c.blank_mask.ensures
    (c.after.ensures.first ∙ ap (λ (b : Bool). cond {A = ℕ} b 1 0) c.is_blank.ensures)
    c.after.ensures.later
