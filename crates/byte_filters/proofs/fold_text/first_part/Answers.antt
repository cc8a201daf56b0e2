use Rattle.std.proofs.Common.{arith}
use Rattle.std.proofs.lemmas.Bool.{eq-eqb}
use Rattle.byte_filters.proofs.lemmas.AheadLaws.{even_line_part, even_open_part, even_within}
use Rattle.byte_filters.proofs.lemmas.AheadLaws.{open_plain}
use Rattle.byte_filters.proofs.fold_text.first_part.Goals as goal

pub returns-then-even-bytes-clause-part : goal.returns-then-even-bytes-clause-part
returns-then-even-bytes-clause-part c =
    even_open_part c.args.spec.now c.args.bytes.now c.args.even c.requires c.if-even-spec.true
    c.if-even-bytes.true

pub returns-then-even-bytes-clause-plain : goal.returns-then-even-bytes-clause-plain
returns-then-even-bytes-clause-plain c =
    open_plain c.args.spec.now c.args.bytes.now c.args.even c.requires c.if-even-bytes.true

pub bounds-bytes-even : goal.bounds-bytes-even
bounds-bytes-even c = omega (
  arith,
  c.if-even-bytes.false,
  even_within c.args.spec.now c.args.bytes.now c.args.even c.requires,
)

pub returns-then-bytes-even-eq10-clause-part : goal.returns-then-bytes-even-eq10-clause-part
returns-then-bytes-even-eq10-clause-part c =
    even_line_part c.args.spec.now c.args.bytes.now c.args.even c.requires c.if-even-spec.true
    (omega (
      arith,
      c.if-even-bytes.false,
      even_within c.args.spec.now c.args.bytes.now c.args.even c.requires,
    ))
    (eq-eqb _ _ c.if-bytes-even-eq10.true)
