use Rattle.std.proofs.Common.{◌++◌, ◌∷◌, [], false, refl, ap, ◌∙◌}
use Rattle.std.proofs.lemmas.Result.{err_from_is_err_and}
use Rattle.pipeline_text.specs.declared.command.Expected.TheVariants as expected
use Rattle.command_words.specs.Texts.{◌>>=◌}
use Rattle.pipeline_text.specs.Tokens.{with_token}
use Rattle.pipeline_text.specs.Grammar.{pipelines}
use Rattle.pipeline_text.specs.inner.Lexemes.{text_of, tokens_left}
use Rattle.pipeline_text.specs.inner.Parses.{commands_in, pipeline_goes, pipelines_left}
use Rattle.pipeline_text.proofs.lemmas.Begins.{found, found_none, pipeline_begins}
use Rattle.pipeline_text.proofs.lemmas.Refused.{refused_in}
use Rattle.pipeline_text.proofs.parser.Parser.pipeline.Goals as goal

pub returns-in_default-clause-reads : goal.returns-in_default-clause-reads
returns-in_default-clause-reads c =
    ap (λ cs. cs >>= pipelines) (found_none expected.Pipeline c.in_ok-token.field-0
    (tokens_left c.args.self.now.lexer)
    (tokens_left c.fresh_token.new.self.lexer) refl c.in_ok-token.ensures.reads c.in_default.is)

pub returns-in_err-command-clause-reads : goal.returns-in_err-command-clause-reads
returns-in_err-command-clause-reads c =
    let new = tokens_left c.fresh_token.new.self.lexer in
    let front = found expected.Pipeline c.in-Some.token c.in_ok-token.field-0
    (tokens_left c.args.self.now.lexer) new refl c.in_ok-token.ensures.reads c.in-Some.is in
    let r = err_from_is_err_and c.from_residual-in_err-command.result
    c.from_residual-in_err-command.ensures.1 in
    rw (r.1, r.2) (refused_in (text_of c.fresh_token.new.self.lexer)
    (text_of c.args.self.now.lexer) c.in_err-command.field-0.0
    (commands_in expected.Pipeline (with_token c.in-Some.token new))
    (pipelines_left c.args.self.now.lexer) c.fresh_token.ensures.on.text
    (λ n. ap (λ cs. cs >>= pipelines) (front ∙ n)) c.in_err-command.ensures.reads)

pub returns-in_err-piped-clause-reads : goal.returns-in_err-piped-clause-reads
returns-in_err-piped-clause-reads c =
    let new = tokens_left c.fresh_token.new.self.lexer in
    let front = found expected.Pipeline c.in-Some.token c.in_ok-token.field-0
    (tokens_left c.args.self.now.lexer) new refl c.in_ok-token.ensures.reads c.in-Some.is in
    let whole = ap (λ cs. cs >>= pipelines) (front ∙ c.in_ok-command.ensures.reads)
    ∙ pipeline_begins c.in_ok-command.command c.in_ok-command.control c.is_negated.result false
    c.push.new.self (tokens_left c.command.new.self.lexer) c.is_negated.ensures
    (c.in_ok-push.ensures ∙ ap (λ x. x ++ c.into_cmd.result ∷ []) c.new.ensures
    ∙ ap (λ x. x ∷ []) c.into_cmd.ensures) in
    let r = err_from_is_err_and c.from_residual-in_err-piped.result
    c.from_residual-in_err-piped.ensures.1 in
    rw (r.1, r.2) (refused_in (text_of c.command.new.self.lexer)
    (text_of c.args.self.now.lexer) c.in_err-piped.field-0.0
    (pipeline_goes (record {
      negated = c.is_negated.result;
      background = false;
      commands =
          c.push.new.self;
    }) c.in_ok-command.control (tokens_left c.command.new.self.lexer))
    (pipelines_left c.args.self.now.lexer) (c.command.ensures.on.text
    ∙ c.fresh_token.ensures.on.text)
    (λ n. whole ∙ n) c.in_err-piped.ensures.reads)

pub returns-clause-reads : goal.returns-clause-reads
returns-clause-reads c =
    let new = tokens_left c.fresh_token.new.self.lexer in
    let front = found expected.Pipeline c.in-Some.token c.in_ok-token.field-0
    (tokens_left c.args.self.now.lexer) new refl c.in_ok-token.ensures.reads c.in-Some.is in
    ap (λ cs. cs >>= pipelines) (front ∙ c.in_ok-command.ensures.reads)
    ∙ pipeline_begins c.in_ok-command.command c.in_ok-command.control c.is_negated.result false
    c.push.new.self (tokens_left c.command.new.self.lexer) c.is_negated.ensures
    (c.in_ok-push.ensures ∙ ap (λ x. x ++ c.into_cmd.result ∷ []) c.new.ensures
    ∙ ap (λ x. x ∷ []) c.into_cmd.ensures)
    ∙ c.in_ok-piped.ensures.reads
