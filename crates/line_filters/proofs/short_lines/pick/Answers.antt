use Rattle.std.proofs.Common.{◌≡◌, ◌∙◌, ◌+◌, ◌<◌, ℕ, suc, ap, arith, false, get_or}
use Rattle.std.proofs.lemmas.List.{length-set}
use Rattle.commands.specs.Selections.{is_selected}
use Rattle.line_filters.proofs.lemmas.ShortLaws.{picked_more}
use Rattle.line_filters.proofs.short_lines.pick.Goals as goal

pub loop-byte-preserved : goal.loop-byte-preserved
loop-byte-preserved c =
    let l = c.loop-byte in
    let ranges = c.args.ranges.now in
    let small : l.passed < 64 =
    omega (arith, l.invariant.0.near, c.loop-byte-test.true, c.requires.short) in
    let next : l.passed + 1 ≡ suc l.passed = omega arith in (
      picked_more (is_selected ranges.ranges.items) c.args.lines.now l.few l.byte-index l.passed
          l.made c.count_of-made.result c.passed_after-passed.result
          (get_or ranges.low l.passed false) l.invariant.0 c.loop-byte-test.true c.requires.short
          l.invariant.1 (ranges.lows l.passed small
          ∙ ap (λ (n : ℕ). is_selected ranges.ranges.items n) next) c.count_of-made.ensures
          c.passed_after-passed.ensures,
      length-set l.few l.made (get_or c.args.lines.now l.byte-index 0) ∙ l.invariant.1,
    )
