use Rattle.std.proofs.Common.{arith, get_or, w64}
use Rattle.std.proofs.lemmas.Nat.Bits.{bit_at-trailing_zeros}
use Rattle.std.specs.Int.{bit_at}
use Rattle.pair_filters.proofs.lemmas.AlikeLaws.{alike_at, differ_at}
use Rattle.pair_filters.proofs.short_runs.first_difference.Goals as goal

pub returns-else-marks-eq0-clause-before : goal.returns-else-marks-eq0-clause-before
returns-else-marks-eq0-clause-before c k low small =
    let m = c.differences-marks.result in
    let lowest = bit_at-trailing_zeros w64 m
    (omega (arith, c.if-marks-eq0.false)) c.differences-marks.type_inv in
    alike_at (bit_at m k) (get_or c.args.a.now k 0) (get_or c.args.b.now k 0)
    (c.differences-marks.ensures k small) (lowest.2 k low)

pub returns-else-marks-eq0-clause-there : goal.returns-else-marks-eq0-clause-there
returns-else-marks-eq0-clause-there c small =
    let m = c.differences-marks.result in
    let lowest = bit_at-trailing_zeros w64 m
    (omega (arith, c.if-marks-eq0.false)) c.differences-marks.type_inv in
    differ_at (bit_at m _) (get_or c.args.a.now _ 0) (get_or c.args.b.now _ 0)
    (c.differences-marks.ensures _ small) lowest.1
