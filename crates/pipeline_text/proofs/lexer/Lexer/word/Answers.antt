use Rattle.std.proofs.Common.{sym, ap, ◌∙◌, arith}
use Rattle.pipeline_text.specs.inner.Peeks.{word_mark}
use Rattle.pipeline_text.specs.inner.Lexemes.{marks_in}
use Rattle.pipeline_text.proofs.lemmas.Cut.{word_step}
use Rattle.pipeline_text.proofs.lexer.Lexer.word.Goals as goal

pub marks-preserved : goal.marks-preserved
marks-preserved c = record {
  read =
      word_step c.marks.bytes.items c.push_mark-in-Some.new.bytes.items c.marks.shape
      c.with-shape-in-Some.result c.advance-was.result c.in-Some.mark
      (marks_in c.advance-was.new.self) (marks_in c.marks.self)
      (c.in-Some.ensures ∙ ap word_mark (sym c.advance-was.ensures.was)) c.in_ok-push_mark-2.ensures
      c.with-shape-in-Some.ensures c.advance-was.ensures.marks
      ∙ c.marks.invariant.read;
  on = record {
    text = c.advance-was.ensures.text ∙ c.marks.invariant.on.text;
    shorter =
        let s = c.advance-was.ensures.shorter in
        let i = c.marks.invariant.on.shorter in
        omega arith;
  };
}
