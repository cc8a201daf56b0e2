use Rattle.std.proofs.Common.{get_or, None, arith}
use Rattle.std.proofs.lemmas.List.{get_or_default}
use Rattle.commands.specs.declared.range.Range.{Range}
use Rattle.line_filters.proofs.lemmas.StepLaws.{steps_all, steps_more, steps_open, steps_past}
use Rattle.line_filters.proofs.steps.steps_of.Goals as goal

pub returns-in_default : goal.returns-in_default
returns-in_default c =
    let l = c.loop-range in
    let d : Range = record { first = 0; last = None } in
    let ranges = c.args.ranges.now in
    let range = get_or ranges l.range-index d in
    steps_open ranges l.steps.items c.add.new.steps.items l.range-index l.number c.max-first.result
    range c.requires c.loop-range-test.true
    (get_or_default ranges l.range-index d range c.loop-range-test.true) c.max-first.ensures
    (omega (arith, c.max-first.type_inv)) c.in_default.ensures l.invariant.0 l.invariant.1
    c.in_ok-add.ensures

pub loop-range-preserved : goal.loop-range-preserved
loop-range-preserved c =
    let l = c.loop-range in
    let d : Range = record { first = 0; last = None } in
    let ranges = c.args.ranges.now in
    let range = get_or ranges l.range-index d in
    steps_more ranges l.steps.items c.add-in-loop-range.new.steps.items l.range-index l.number
    c.max-first.result c.in-Some.end range c.requires c.loop-range-test.true
    (get_or_default ranges l.range-index d range c.loop-range-test.true) c.max-first.ensures
    (omega (arith, c.if-end-first.false)) c.in-Some.ensures l.invariant.0 l.invariant.1
    c.in_ok-add-2.ensures

pub loop-range-preserved-then-end-first : goal.loop-range-preserved-then-end-first
loop-range-preserved-then-end-first c =
    let l = c.loop-range in
    let d : Range = record { first = 0; last = None } in
    let ranges = c.args.ranges.now in
    let range = get_or ranges l.range-index d in (
      steps_past ranges l.range-index l.number c.max-first.result c.in-Some.end range
          c.loop-range-test.true
          (get_or_default ranges l.range-index d range c.loop-range-test.true) c.max-first.ensures
          (omega (arith, c.if-end-first.true)) c.in-Some.ensures l.invariant.0,
      l.invariant.1,
    )

pub returns : goal.returns
returns c =
    let l = c.loop-range in
    steps_all c.args.ranges.now l.steps.items l.range-index l.number
    (omega (arith, c.loop-range-test.false)) l.invariant.0 l.invariant.1
