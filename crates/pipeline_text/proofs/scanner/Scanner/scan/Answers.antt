use Rattle.std.proofs.Common.{◌+◌, sym, ap, ◌∙◌, cond, Some, None, []}
use Rattle.pipeline_text.specs.declared.moves.Move.TheVariants.{Gives, Escapes, Skips, Joins}
use Rattle.pipeline_text.specs.declared.moves.Move.TheVariants.{Expands, Breaks}
use Rattle.pipeline_text.specs.inner.Scans.{with_mark}
use Rattle.pipeline_text.proofs.lemmas.Moved.{moved, went, fewer, at_nul, at_end}
use Rattle.pipeline_text.proofs.scanner.Scanner.scan.Goals as goal

pub returns-in-Gives-clause-marks : goal.returns-in-Gives-clause-marks
returns-in-Gives-clause-marks c = sym c.bytes.invariant.marks
    ∙ moved c.bytes.self.place c.bytes.self.text.now c.bytes.self.position c.in-Some.byte
    (Gives c.in-Gives.mark c.in-Gives.place) c.byte_at-in-Some.result c.in-Some.ensures.byte
    c.if-byte-eq0.false c.byte_at-in-Some.ensures.byte (sym c.in-Gives.is ∙ c.moves.ensures)
    ∙ ap (with_mark c.in-Gives.mark)
    (sym (went c.in-Gives.place c.go.new.self.place c.bytes.self.text.now c.go.new.self.text.now
    c.go.new.self.position (c.bytes.self.position + 1) c.go.ensures.place c.go.ensures.text
    c.go.ensures.position))

pub returns-in-Escapes-clause-marks : goal.returns-in-Escapes-clause-marks
returns-in-Escapes-clause-marks c = sym c.bytes.invariant.marks
    ∙ moved c.bytes.self.place c.bytes.self.text.now c.bytes.self.position c.in-Some.byte
    (Escapes c.in-Escapes.mark c.in-Escapes.place) c.byte_at-in-Some.result c.in-Some.ensures.byte
    c.if-byte-eq0.false c.byte_at-in-Some.ensures.byte (sym c.in-Escapes.is ∙ c.moves.ensures)
    ∙ ap (with_mark c.in-Escapes.mark)
    (sym (went c.in-Escapes.place c.go-in-Escapes.new.self.place c.bytes.self.text.now
    c.go-in-Escapes.new.self.text.now c.go-in-Escapes.new.self.position
    (c.bytes.self.position + 2) c.go-in-Escapes.ensures.place c.go-in-Escapes.ensures.text
    c.go-in-Escapes.ensures.position))

pub returns-in-Expands-clause-marks : goal.returns-in-Expands-clause-marks
returns-in-Expands-clause-marks c = sym c.bytes.invariant.marks
    ∙ moved c.bytes.self.place c.bytes.self.text.now c.bytes.self.position c.in-Some.byte Expands
    c.byte_at-in-Some.result c.in-Some.ensures.byte c.if-byte-eq0.false
    c.byte_at-in-Some.ensures.byte (sym c.in-Expands.is ∙ c.moves.ensures)

pub returns-in-Breaks-clause-marks : goal.returns-in-Breaks-clause-marks
returns-in-Breaks-clause-marks c = sym c.bytes.invariant.marks
    ∙ moved c.bytes.self.place c.bytes.self.text.now c.bytes.self.position c.in-Some.byte Breaks
    c.byte_at-in-Some.result c.in-Some.ensures.byte c.if-byte-eq0.false
    c.byte_at-in-Some.ensures.byte (sym c.in-Breaks.is ∙ c.moves.ensures)

pub returns-then-byte-eq0-clause-marks : goal.returns-then-byte-eq0-clause-marks
returns-then-byte-eq0-clause-marks c = sym c.bytes.invariant.marks
    ∙ at_nul c.bytes.self.place c.bytes.self.text.now c.bytes.self.position c.in-Some.byte
    c.in-Some.ensures.byte c.if-byte-eq0.true

pub bytes-preserved-in-Skips : goal.bytes-preserved-in-Skips
bytes-preserved-in-Skips c = record {
  marks = went c.in-Skips.place c.go-in-Skips.new.self.place c.bytes.self.text.now
      c.go-in-Skips.new.self.text.now c.go-in-Skips.new.self.position
      (c.bytes.self.position + 1) c.go-in-Skips.ensures.place c.go-in-Skips.ensures.text
      c.go-in-Skips.ensures.position
      ∙ sym (moved c.bytes.self.place c.bytes.self.text.now c.bytes.self.position c.in-Some.byte
      (Skips c.in-Skips.place) c.byte_at-in-Some.result c.in-Some.ensures.byte c.if-byte-eq0.false
      c.byte_at-in-Some.ensures.byte (sym c.in-Skips.is ∙ c.moves.ensures))
      ∙ c.bytes.invariant.marks;
  shorter = fewer c.bytes.self.text.now c.go-in-Skips.new.self.text.now c.bytes.self.position
      c.go-in-Skips.new.self.position 1 _ c.go-in-Skips.ensures.text c.go-in-Skips.ensures.position
      c.bytes.invariant.shorter;
  text = c.go-in-Skips.ensures.text ∙ c.bytes.invariant.text;
}

pub bytes-preserved : goal.bytes-preserved
bytes-preserved c = record {
  marks = went c.in-Joins.place c.go-in-Joins.new.self.place c.bytes.self.text.now
      c.go-in-Joins.new.self.text.now c.go-in-Joins.new.self.position
      (c.bytes.self.position + 2) c.go-in-Joins.ensures.place c.go-in-Joins.ensures.text
      c.go-in-Joins.ensures.position
      ∙ sym (moved c.bytes.self.place c.bytes.self.text.now c.bytes.self.position c.in-Some.byte
      (Joins c.in-Joins.place) c.byte_at-in-Some.result c.in-Some.ensures.byte c.if-byte-eq0.false
      c.byte_at-in-Some.ensures.byte (sym c.in-Joins.is ∙ c.moves.ensures))
      ∙ c.bytes.invariant.marks;
  shorter = fewer c.bytes.self.text.now c.go-in-Joins.new.self.text.now c.bytes.self.position
      c.go-in-Joins.new.self.position 2 _ c.go-in-Joins.ensures.text c.go-in-Joins.ensures.position
      c.bytes.invariant.shorter;
  text = c.go-in-Joins.ensures.text ∙ c.bytes.invariant.text;
}

pub returns-then-is_open-clause-marks : goal.returns-then-is_open-clause-marks
returns-then-is_open-clause-marks c = sym c.bytes.invariant.marks
    ∙ at_end c.bytes.self.place c.bytes.self.text.now c.bytes.self.position
    c.in_default.ensures.byte ∙ ap (λ b. cond b None (Some [])) (sym c.if-is_open.ensures)

pub returns-clause-marks : goal.returns-clause-marks
returns-clause-marks c = sym c.bytes.invariant.marks
    ∙ at_end c.bytes.self.place c.bytes.self.text.now c.bytes.self.position
    c.in_default.ensures.byte ∙ ap (λ b. cond b None (Some [])) (sym c.if-is_open.ensures)
