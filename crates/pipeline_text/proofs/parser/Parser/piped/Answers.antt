use Rattle.std.proofs.Common.{◌++◌, ◌∷◌, [], refl, sym, ap, ◌∙◌}
use Rattle.std.proofs.lemmas.Result.{err_from_is_err_and}
use Rattle.pipeline_text.specs.declared.fault.TextFaultKind.TheVariants as kind
use Rattle.pipeline_text.specs.declared.token.Control.TheVariants.{Pipe}
use Rattle.pipeline_text.specs.declared.command.Expected.TheVariants as expected
use Rattle.command_words.specs.Texts.{◌>>=◌}
use Rattle.pipeline_text.specs.Tokens.{with_token}
use Rattle.pipeline_text.specs.Grammar.{pipelines}
use Rattle.pipeline_text.specs.inner.Lexemes.{text_of, tokens_left}
use Rattle.pipeline_text.specs.inner.Parses.{commands_in, joins_on, pipeline_goes}
use Rattle.pipeline_text.proofs.lemmas.Begins.{pipe_at_end, pipe_at_token, pipeline_more}
use Rattle.pipeline_text.proofs.lemmas.Refused.{refuses, refused_in, within_in, goes_from}
use Rattle.pipeline_text.proofs.parser.Parser.piped.Goals as goal

pub returns-in_default-clause-reads : goal.returns-in_default-clause-reads
returns-in_default-clause-reads c =
    let total = pipeline_goes c.args.pipeline.now c.args.first
    (tokens_left c.args.self.now.lexer) in
    let p = c.commands.pipeline in
    let new = tokens_left c.fresh_token.new.self.lexer in
    refuses (text_of c.args.self.now.lexer) c.fault.result kind.EmptyCommand total
    c.fault.ensures.kind refl
    (within_in (text_of c.fresh_token.new.self.lexer)
    (text_of c.args.self.now.lexer) c.fault.result.offset
    (sym (c.fresh_token.ensures.on.text ∙ ap text_of c.note.ensures
    ∙ c.commands.invariant.on.text)) c.fault.ensures.offset)
    (sym c.commands.invariant.left
    ∙ ap (λ l. pipeline_goes p c.commands.control (tokens_left l)) (sym c.note.ensures)
    ∙ pipe_at_end p c.commands.control c.in_ok-token.field-0
    (tokens_left c.note.new.self.lexer) new c.commands-test.ensures c.in_ok-token.ensures.reads
    c.in_default.is)

pub returns-in_err-command-clause-reads : goal.returns-in_err-command-clause-reads
returns-in_err-command-clause-reads c =
    let total = pipeline_goes c.args.pipeline.now c.args.first
    (tokens_left c.args.self.now.lexer) in
    let p = c.commands.pipeline in
    let new = tokens_left c.fresh_token.new.self.lexer in
    let front = sym c.commands.invariant.left
    ∙ ap (λ l. pipeline_goes p c.commands.control (tokens_left l)) (sym c.note.ensures)
    ∙ pipe_at_token p c.commands.control c.in-Some.token c.in_ok-token.field-0
    (tokens_left c.note.new.self.lexer) new c.commands-test.ensures c.in_ok-token.ensures.reads
    c.in-Some.is in
    let r = err_from_is_err_and c.from_residual-in_err-command.result
    c.from_residual-in_err-command.ensures.1 in
    rw (r.1, r.2) (refused_in (text_of c.fresh_token.new.self.lexer)
    (text_of c.args.self.now.lexer) c.in_err-command.field-0.0
    (commands_in expected.Command (with_token c.in-Some.token new)) total
    (c.fresh_token.ensures.on.text ∙ ap text_of c.note.ensures ∙ c.commands.invariant.on.text)
    (λ n. front ∙ ap (λ cs. joins_on p.negated p.commands Pipe (cs >>= pipelines)) n)
    c.in_err-command.ensures.reads)

pub commands-preserved : goal.commands-preserved
commands-preserved c =
    let p = c.commands.pipeline in
    let new = tokens_left c.fresh_token.new.self.lexer in
    let front = pipe_at_token p c.commands.control c.in-Some.token c.in_ok-token.field-0
    (tokens_left c.note.new.self.lexer) new c.commands-test.ensures c.in_ok-token.ensures.reads
    c.in-Some.is in
    record {
      left =
          sym (pipeline_more p c.in_ok-command.command c.in_ok-command.next p.background
          c.push.new.self (tokens_left c.command.new.self.lexer) (c.in_ok-push.ensures
          ∙ ap (λ x. p.commands ++ x ∷ []) c.into_cmd.ensures))
          ∙ sym
          (ap (λ cs. joins_on p.negated p.commands Pipe (cs >>= pipelines))
          c.in_ok-command.ensures.reads) ∙ sym front
          ∙ ap (λ l. pipeline_goes p c.commands.control (tokens_left l)) c.note.ensures
          ∙ c.commands.invariant.left;
      on = goes_from c.args.self.now.lexer c.commands.self.lexer c.note.new.self.lexer
          c.command.new.self.lexer c.commands.invariant.on c.note.ensures
          (goes_from c.note.new.self.lexer c.fresh_token.new.self.lexer c.fresh_token.new.self.lexer
          c.command.new.self.lexer c.fresh_token.ensures.on refl c.command.ensures.on);
    }
