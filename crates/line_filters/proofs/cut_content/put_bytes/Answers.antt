use Rattle.lanes.specs.inner.Prefixes.{prefix_bytes}
use Rattle.std.proofs.Common.{◌∙◌, ◌++◌, ◌+◌, ◌-◌, ◌≤◌, length, ap, List, ℕ, arith}
use Rattle.line_filters.proofs.lemmas.CutLaws.{GoesTo, bytes_more, bytes_short, bytes_over}
use Rattle.line_filters.proofs.lemmas.CutLaws.{range_reaches}
use Rattle.line_filters.proofs.lemmas.RangeLaws.{passed_if, passed_on}
use Rattle.line_filters.proofs.cut_content.put_bytes.Goals as goal

pub returns-then-len-first : goal.returns-then-len-first
returns-then-len-first c =
    let l = c.loop-range in
    bytes_short c.args.ranges.now.ranges.items c.args.before
    (prefix_bytes c.args.content) l.at l.passed c.args.made.now l.made c.in-Some.range
    l.invariant c.in-Some.ensures.range (omega (arith, c.if-len-first.true, c.len.ensures))

pub loop-range-preserved : goal.loop-range-preserved
loop-range-preserved c =
    let l = c.loop-range in
    let content = prefix_bytes c.args.content in
    let end = c.end_within-end.result in
    let r = c.in-Some.ensures.range in
    let same : GoesTo c.in-Some.range c.args.before (length content) end =
    λ k some h. c.end_within-end.ensures.same k some
    (omega (arith, h, c.len-in-Some.ensures)) in
    let some : c.in-Some.range.first - c.args.before ≤ length content =
    omega (arith, c.if-len-first.false, c.len.ensures) in
    let reach = range_reaches c.in-Some.range c.args.before end (length content) r.some
    (omega (arith, r.after)) some same in
    bytes_more c.args.ranges.now.ranges.items c.args.before content l.at l.passed
    (c.next_range.new.passed + c.from.result) end c.args.made.now l.made c.put_prefix.new.self
    c.in-Some.range l.invariant r
    (passed_if c.args.ranges.now.ranges.items c.next_range.new.passed
    (c.args.before + end + 1) c.from.result c.in-Some.range.last c.ends_before.result
    c.from.ensures c.ends_before.ensures
    (passed_on c.args.ranges.now.ranges.items c.next_range.new.passed (c.args.before + l.at + 1)
    (c.args.before + end + 1) (omega (arith, r.after, reach)) c.next_range.ensures.passed)
    (c.in-Some.ensures.ended (c.args.before + end + 1) (omega (arith, r.after, reach))))
    some (omega (arith, c.len-in-Some.ensures, c.end_within-end.ensures.within)) same
    (c.in_ok-put_prefix.ensures ∙ ap (λ (x : List ℕ). l.made ++ x) c.part.ensures)

pub returns : goal.returns
returns c =
    let l = c.loop-range in
    bytes_over c.args.ranges.now.ranges.items c.args.before
    (prefix_bytes c.args.content) l.at l.passed c.args.made.now l.made l.invariant
    c.in_default.ensures.range

pub part-requires : goal.part-requires
part-requires c =
    let r = c.in-Some.ensures.range in
    let reach : c.in-Some.range.first - c.args.before ≤ c.end_within-end.result =
    range_reaches c.in-Some.range c.args.before c.end_within-end.result c.len-in-Some.result r.some
    (omega (arith, r.after))
    (omega (arith, c.if-len-first.false, c.len.ensures, c.len-in-Some.ensures))
    c.end_within-end.ensures.same in
    (omega (arith, reach), omega (arith, c.len-in-Some.ensures, c.end_within-end.ensures.within))

pub loop-range-smaller : goal.loop-range-smaller
loop-range-smaller c =
    let r = c.in-Some.ensures.range in
    let reach : c.in-Some.range.first - c.args.before ≤ c.end_within-end.result =
    range_reaches c.in-Some.range c.args.before c.end_within-end.result c.len-in-Some.result r.some
    (omega (arith, r.after))
    (omega (arith, c.if-len-first.false, c.len.ensures, c.len-in-Some.ensures))
    c.end_within-end.ensures.same in
    omega (arith, reach, r.after, c.len-in-Some.ensures, c.end_within-end.ensures.within)
