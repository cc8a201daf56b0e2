use Rattle.std.proofs.Common.{List, take, drop, subst}
use Rattle.lanes.specs.inner.Doubles.{HasNoDouble}
use Rattle.lanes.specs.Spans.{in_spans}
use Rattle.lanes.specs.declared.span.Span.{Span}
use Rattle.tr_filter.proofs.squeezing.is_quiet.Goals as goal

pub returns-then-stays-clause-apart : goal.returns-then-stays-clause-apart
returns-then-stays-clause-apart c quiet =
    subst (λ (s : List Span). HasNoDouble (in_spans s) (take 64 (drop c.args.at c.args.bytes.now)))
    c.all.ensures (c.has_no_double.ensures quiet)
