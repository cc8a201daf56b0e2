use Rattle.std.proofs.Common.{sym, ap, ◌∙◌}
use Rattle.pipeline_text.specs.declared.token.Token.TheVariants.{Operator}
use Rattle.pipeline_text.specs.Tokens.{with_token}
use Rattle.pipeline_text.specs.inner.Lexemes.{text_of, tokens_left}
use Rattle.pipeline_text.specs.inner.Parses.{commands_behind, commands_at}
use Rattle.pipeline_text.proofs.lemmas.Takes.{redirection_in_front}
use Rattle.pipeline_text.proofs.lemmas.Refused.{reads_then}
use Rattle.pipeline_text.proofs.parser.Parser.element.Goals as goal

pub returns-in-Redirection-clause-reads : goal.returns-in-Redirection-clause-reads
returns-in-Redirection-clause-reads c =
    let a = c.args.command in
    let o = c.in-Redirection.redirection in
    let old = tokens_left c.args.self.now.lexer in
    let noted = c.note-in-Redirection.new.self.lexer in
    let same = c.note-in-Redirection.ensures in
    let front = redirection_in_front a c.args.token o old (c.in-Operator.is
    ∙ ap Operator c.in-Redirection.is) ∙ ap (λ l. commands_at a o (tokens_left l)) (sym same) in
    reads_then (text_of noted) (text_of c.args.self.now.lexer) c.redirect.result
    (commands_at a o (tokens_left noted)) commands_behind
    (tokens_left c.redirect.new.self.lexer)
    (commands_behind a (with_token c.args.token old)) commands_behind
    (tokens_left c.redirect.new.self.lexer) (ap text_of same) c.redirect.ensures.reads
    (λ _ e. front ∙ e) (λ e. front ∙ e)
