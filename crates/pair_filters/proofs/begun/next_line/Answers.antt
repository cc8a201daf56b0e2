use Rattle.std.proofs.Common.{◌≡◌, ◌≤◌, ◌+◌, ◌-◌, ℕ, length, take, drop, subst, sym, arith}
use Rattle.machine.specs.Lines.{newline}
use Rattle.machine.specs.inner.Places.{FirstFrom}
use Rattle.lanes.specs.inner.Prefixes.{prefix_bytes}
use Rattle.pair_filters.proofs.lemmas.TakeLaws.{has_column_at}
use Rattle.pair_filters.proofs.begun.next_line.Goals as goal

pub returns-then-begins_with-clause-line : goal.returns-then-begins_with-clause-line
returns-then-begins_with-clause-line c =
    let bytes = c.args.bytes.now in
    let before = prefix_bytes c.args.before in
    let some : 1 ≤ length before = omega (arith, c.len.ensures, c.if-len-gt0.true) in
    subst (λ (n : ℕ). FirstFrom bytes newline c.args.at (c.args.at + (n - 1)))
    (sym c.len-then-begins_with.ensures)
    (has_column_at bytes before c.args.at c.requires.at (c.requires.before some)
    (c.begins_with.ensures c.if-begins_with.true)).first

pub returns-then-begins_with-clause-alike : goal.returns-then-begins_with-clause-alike
returns-then-begins_with-clause-alike c =
    let bytes = c.args.bytes.now in
    let before = prefix_bytes c.args.before in
    let some : 1 ≤ length before = omega (arith, c.len.ensures, c.if-len-gt0.true) in
    λ h. subst (λ (n : ℕ). take (c.args.at + (n - 1) + 1 - c.args.at) (drop c.args.at bytes)
    ≡ before) (sym c.len-then-begins_with.ensures)
    (has_column_at bytes before c.args.at c.requires.at (c.requires.before some)
    (c.begins_with.ensures c.if-begins_with.true)).same
