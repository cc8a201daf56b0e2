use Rattle.std.proofs.Common.{ℕ, ◌≤◌, ◌+◌, ◌-◌, ◌*◌, ◌/◌, ◌<◌, arith, subst, sym}
use Rattle.std.proofs.Math.Nat.{mul_comm}
use Rattle.std.proofs.lemmas.Nat.{le-div}
use Rattle.run_types.proofs.settings.Settings.fitting_block.Goals as goal

more_by : (first longer pieces : ℕ) → 0 < pieces → pieces * (longer - first) ≤ 16777216
    → longer ≤ first + 16777216 / pieces
more_by first longer pieces some fits =
    let more : longer - first ≤ 16777216 / pieces =
    le-div (longer - first) 16777216 pieces some
    (subst (λ (n : ℕ). n ≤ 16777216) (mul_comm pieces (longer - first)) fits) in
    omega (arith, more)

pub returns-in-Some-clause-most : goal.returns-in-Some-clause-most
returns-in-Some-clause-most c longer within fits =
    let pieces = c.in-Some.ensures.1 in
    let apart = c.in-Some.pieces-test.1 in
    let some : 0 < c.in-Some.pieces = omega (arith, apart) in
    let more = more_by c.args.self.first_read longer c.in-Some.pieces some
    (subst (λ (n : ℕ). n * (longer - c.args.self.first_read) ≤ 16777216) (sym pieces) fits) in
    omega (arith, within, more, c.min.ensures)
