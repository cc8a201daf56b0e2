use Rattle.std.proofs.Common.{rules, ◌≡◌, None, refl, sym, ap, ◌∙◌}
use Rattle.pipeline_text.specs.Tokens.{with_token}
use Rattle.pipeline_text.specs.inner.Takes.{control_of}
use Rattle.pipeline_text.specs.inner.Lexemes.{text_of, tokens_left}
use Rattle.pipeline_text.specs.inner.Parses.{commands_in, commands_behind}
use Rattle.pipeline_text.proofs.lemmas.Begins.{begins}
use Rattle.pipeline_text.proofs.lemmas.Refused.{reads_then}
use Rattle.pipeline_text.proofs.parser.Parser.begin.Goals as goal

pub returns-clause-reads : goal.returns-clause-reads
returns-clause-reads c =
    let text = text_of c.args.self.now.lexer in
    let none : control_of c.args.token ≡ None = search rules in
    let old = with_token c.args.token (tokens_left c.args.self.now.lexer) in
    let new = tokens_left c.element.new.self.lexer in
    let front = begins c.args.place c.args.token
    (tokens_left c.args.self.now.lexer) c.requires.begins (sym none) c.if-negates.ensures
    ∙ ap (λ a. commands_behind a old) (sym c.new-command.ensures) in
    reads_then text text c.element.result
    (commands_behind c.new-command.result old) commands_behind new
    (commands_in c.args.place old) commands_behind new refl c.element.ensures.reads
    (λ _ e. front ∙ e) (λ n. front ∙ n)
