use Rattle.std.proofs.Common.{sym, ap, ◌∙◌, arith}
use Rattle.command_words.specs.Texts.{◌>>=◌}
use Rattle.pipeline_text.specs.Tokens.{tokens}
use Rattle.pipeline_text.specs.inner.Peeks.{blank_is_next}
use Rattle.pipeline_text.specs.inner.Lexemes.{marks_in}
use Rattle.pipeline_text.proofs.lemmas.Cut.{blank_skipped}
use Rattle.pipeline_text.proofs.lexer.Lexer.skip_blanks.Goals as goal

pub blanks-preserved : goal.blanks-preserved
blanks-preserved c =
    let h = c.blanks-test.ensures ∙ ap blank_is_next (sym c.advance-blank.ensures.was) in
    record {
      tokens = sym (ap (λ ms. ms >>= tokens) c.advance-blank.ensures.marks
          ∙ blank_skipped c.advance-blank.result (marks_in c.advance-blank.new.self) h)
          ∙ c.blanks.invariant.tokens;
      on = record {
        text = c.advance-blank.ensures.text ∙ c.blanks.invariant.on.text;
        shorter =
            let s = c.advance-blank.ensures.shorter in
            let i = c.blanks.invariant.on.shorter in
            omega arith;
      };
    }
