use Rattle.std.proofs.Common.{◌==◌}
use Rattle.machine.specs.Lines.{newline}
use Rattle.machine.proofs.SplitLaws.{some_long}
use Rattle.machine.proofs.lemmas.CountLaws.{counted_more}
use Rattle.machine.proofs.lines.newlines.Goals as goal

pub few_newlines-requires : goal.few_newlines-requires
few_newlines-requires c =
    some_long 240 c.skip.result.now c.prefix-some.result.now c.prefix-some.ensures

pub loop-at-preserved : goal.loop-at-preserved
loop-at-preserved c =
    counted_more (λ x. x == newline) c.args.bytes.now c.skip.result.now c.prefix-some.result.now
    c.loop-at.at c.loop-at.count 240 c.few_newlines.result c.skip.ensures c.prefix-some.ensures
    c.few_newlines.ensures c.loop-at.invariant
