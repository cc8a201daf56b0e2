use Rattle.std.proofs.Common.{refl, sym, ◌∙◌}
use Rattle.std.proofs.lemmas.Result.{err_from_is_err_and}
use Rattle.pipeline_text.specs.inner.Lexemes.{text_of}
use Rattle.pipeline_text.specs.inner.Parses.{pipelines_left, some_left, nothing_more, body_behind}
use Rattle.pipeline_text.proofs.lemmas.Scripts.{body_more, body_broken, body_ends, body_refused}
use Rattle.pipeline_text.proofs.lemmas.Refused.{refused_in, goes_from}
use Rattle.pipeline_text.proofs.parser.Parser.body.Goals as goal

pub returns-in_err-pipeline : goal.returns-in_err-pipeline
returns-in_err-pipeline c =
    let old = pipelines_left c.background.self.lexer in
    let r = err_from_is_err_and c.from_residual-in_err-pipeline.result
    c.from_residual-in_err-pipeline.ensures.1 in
    rw (r.1, r.2) (refused_in (text_of c.background.self.lexer)
    (text_of c.args.self.now.lexer) c.in_err-pipeline.field-0.0 (some_left old)
    (body_behind c.args.first (pipelines_left c.args.self.now.lexer))
    c.background.invariant.on.text
    (λ n. sym c.background.invariant.left
    ∙ body_broken c.background.pipelines c.background.pipeline old c.background-test.true n)
    c.in_err-pipeline.ensures.reads)

pub background-preserved : goal.background-preserved
background-preserved c = record {
  left = body_more c.background.pipelines c.push.new.self c.background.pipeline
      c.in_ok-pipeline.pipeline (pipelines_left c.background.self.lexer)
      (pipelines_left c.next_pipeline.new.self.lexer) c.background-test.true
      c.in_ok-pipeline.ensures.reads c.in_ok-push.ensures
      ∙ c.background.invariant.left;
  on = goes_from c.args.self.now.lexer c.background.self.lexer c.background.self.lexer
      c.next_pipeline.new.self.lexer c.background.invariant.on refl c.in_ok-pipeline.ensures.on;
}

pub returns-in_err-end : goal.returns-in_err-end
returns-in_err-end c =
    let old = pipelines_left c.background.self.lexer in
    let r = err_from_is_err_and c.from_residual-in_err-end.result
    c.from_residual-in_err-end.ensures.1 in
    rw (r.1, r.2) (refused_in (text_of c.background.self.lexer)
    (text_of c.args.self.now.lexer) c.in_err-end.field-0.0 (nothing_more old)
    (body_behind c.args.first (pipelines_left c.args.self.now.lexer))
    c.background.invariant.on.text
    (λ n. sym c.background.invariant.left
    ∙ body_refused c.background.pipelines c.background.pipeline old c.background-test.false n)
    c.in_err-end.ensures)

pub returns : goal.returns
returns c =
    sym c.background.invariant.left
    ∙ body_ends c.background.pipelines c.push-2.new.self c.background.pipeline
    (pipelines_left c.background.self.lexer) c.background-test.false c.in_ok-end.ensures
    c.in_ok-push-2.ensures
