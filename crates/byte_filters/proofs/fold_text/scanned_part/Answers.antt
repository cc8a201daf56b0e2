use Rattle.std.proofs.Common.{◌≤◌, ◌+◌, get_or, length, arith}
use Rattle.std.proofs.lemmas.Bool.{ne_eqb}
use Rattle.machine.specs.Lines.{newline}
use Rattle.byte_filters.proofs.lemmas.FoldParts.{cut_part, line_part, open_part, part_plain}
use Rattle.byte_filters.proofs.fold_text.scanned_part.Goals as goal

pub overflow_add-result : goal.overflow_add-result
overflow_add-result c =
    let bytes = c.args.bytes.now in
    let some : 1 ≤ length bytes = omega arith in
    let p = line_part c.args.spec.now bytes c.begun.result c.in-Line.count
    (record {
      some = some;
      plain =
          ne_eqb (get_or bytes 0 0) newline c.if-first-eq10.false;
      scan = c.begun.ensures;
      outcome =
          c.in-Line.ensures;
    }) in
    let within : c.in-Line.count + 1 ≤ length bytes = p.within in
    omega arith

pub returns-in-Cut-clause-part : goal.returns-in-Cut-clause-part
returns-in-Cut-clause-part c =
    let bytes = c.args.bytes.now in
    cut_part c.args.spec.now bytes c.begun.result c.in-Cut.count
    (record {
      some = omega arith;
      plain =
          ne_eqb (get_or bytes 0 0) newline c.if-first-eq10.false;
      scan = c.begun.ensures;
      outcome =
          c.in-Cut.ensures;
    })

pub returns-in-Line-clause-part : goal.returns-in-Line-clause-part
returns-in-Line-clause-part c =
    let bytes = c.args.bytes.now in
    line_part c.args.spec.now bytes c.begun.result c.in-Line.count
    (record {
      some = omega arith;
      plain =
          ne_eqb (get_or bytes 0 0) newline c.if-first-eq10.false;
      scan = c.begun.ensures;
      outcome =
          c.in-Line.ensures;
    })

pub returns-in-Open-clause-part : goal.returns-in-Open-clause-part
returns-in-Open-clause-part c =
    let bytes = c.args.bytes.now in
    open_part c.args.spec.now bytes c.begun.result c.in-Open.field-0
    (record {
      some = omega arith;
      plain =
          ne_eqb (get_or bytes 0 0) newline c.if-first-eq10.false;
      scan = c.begun.ensures;
      outcome =
          c.in-Open.ensures;
    })

pub returns-in-Open-clause-plain : goal.returns-in-Open-clause-plain
returns-in-Open-clause-plain c =
    let bytes = c.args.bytes.now in
    part_plain c.args.spec.now bytes c.begun.result c.in-Open.field-0
    (record {
      some = omega arith;
      plain =
          ne_eqb (get_or bytes 0 0) newline c.if-first-eq10.false;
      scan = c.begun.ensures;
      outcome =
          c.in-Open.ensures;
    })
