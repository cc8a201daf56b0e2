use Rattle.std.proofs.Common.{◌≡◌, ◌≤◌, drop}
use Rattle.command_line.specs.Sizes.{with_digits}
use Rattle.command_line.proofs.sizes.number_of.Given as goal

abbrev pub invariant-loop-digit : goal.invariant-loop-digit
invariant-loop-digit l = record {
  same : with_digits l.fn.most l.number (drop l.digit-index l.digits)
      ≡ with_digits l.fn.most 0 l.digits;
  small : l.number ≤ l.fn.most;
}
