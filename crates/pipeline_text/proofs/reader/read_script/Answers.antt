use Rattle.std.proofs.Common.{ap, ◌∙◌}
use Rattle.std.proofs.lemmas.Result.{err_from_is_err_and}
use Rattle.pipeline_text.specs.Grammar.{without_fifos, with_fifos, script_of}
use Rattle.pipeline_text.specs.inner.Lexemes.{text_of, tokens_left}
use Rattle.pipeline_text.specs.inner.Parses.{pipelines_left, script_behind, body_behind}
use Rattle.pipeline_text.proofs.lemmas.Scripts.{script_is}
use Rattle.pipeline_text.proofs.lemmas.Refused.{refused_in}
use Rattle.pipeline_text.proofs.reader.read_script.Goals as goal

pub returns-in_err-first-clause-script : goal.returns-in_err-first-clause-script
returns-in_err-first-clause-script c =
    let l = c.new-parser.result.lexer in
    let whole = script_is c.args.text.now c.new-fifos.result
    (tokens_left l) c.if-text-gt-TEXT_MAX.false c.new-parser.ensures.tokens
    c.new-fifos.ensures in
    let r = err_from_is_err_and c.from_residual.result c.from_residual.ensures.1 in
    rw (r.1, r.2) (refused_in (text_of l) c.args.text.now c.in_err-first.field-0.0
    (script_behind c.new-fifos.result (pipelines_left l))
    (script_of c.args.text.now) c.new-parser.ensures.text (λ n. whole
    ∙ n) c.in_err-first.ensures.reads)

pub returns-in_err-pipelines-clause-script : goal.returns-in_err-pipelines-clause-script
returns-in_err-pipelines-clause-script c =
    let l = c.new-parser.result.lexer in
    let whole = script_is c.args.text.now c.new-fifos.result
    (tokens_left l) c.if-text-gt-TEXT_MAX.false c.new-parser.ensures.tokens c.new-fifos.ensures
    ∙ c.in_ok-first.ensures.reads in
    let r = err_from_is_err_and c.from_residual-in_err-pipelines.result
    c.from_residual-in_err-pipelines.ensures.1 in
    rw (r.1, r.2)
    (refused_in (text_of c.fifos.new.self.lexer) c.args.text.now c.in_err-pipelines.field-0.0
    (body_behind c.in_ok-first.first (pipelines_left c.fifos.new.self.lexer))
    (script_of c.args.text.now) (c.in_ok-first.ensures.on.text ∙ c.new-parser.ensures.text)
    (λ n. whole ∙ ap (λ b. with_fifos c.fifos.new.names (without_fifos b)) n)
    c.in_err-pipelines.ensures)
