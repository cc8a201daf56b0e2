use Rattle.std.proofs.Common.{get_or, arith}
use Rattle.byte_filters.specs.inner.Scans.{is_plain}
use Rattle.machine.proofs.PrefixLaws.{prefix_goes_on, prefix_stops, prefix_ends}
use Rattle.byte_filters.proofs.lemmas.SkipLaws.{not_plain, plain}
use Rattle.byte_filters.proofs.segment.few_plain.Goals as goal

pub returns-then-byte-le13-clause-value : goal.returns-then-byte-le13-clause-value
returns-then-byte-le13-clause-value c = prefix_stops is_plain c.args.bytes.now c.loop-i.i
    (omega arith) (not_plain (get_or c.args.bytes.now c.loop-i.i 0) c.if-byte-le13.true)
    c.loop-i.invariant

pub loop-i-preserved : goal.loop-i-preserved
loop-i-preserved c = prefix_goes_on is_plain c.args.bytes.now c.loop-i.i (omega arith)
    (plain (get_or c.args.bytes.now c.loop-i.i 0) c.if-byte-le13.false) c.loop-i.invariant

pub returns-clause-value : goal.returns-clause-value
returns-clause-value c = prefix_ends is_plain c.args.bytes.now c.loop-i.i
    (omega arith) c.loop-i.invariant
