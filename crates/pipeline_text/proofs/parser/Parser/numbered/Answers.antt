use Rattle.std.proofs.Common.{ap, ◌∙◌}
use Rattle.command_words.specs.Texts.{same_bytes}
use Rattle.pipeline_text.specs.inner.Lexemes.{text_of, tokens_left}
use Rattle.pipeline_text.specs.inner.Parses.{commands_behind, commands_at, commands_at_number}
use Rattle.pipeline_text.proofs.lemmas.Takes.{number_in_front}
use Rattle.pipeline_text.proofs.lemmas.Refused.{reads_then}
use Rattle.pipeline_text.proofs.parser.Parser.numbered.Goals as goal

pub returns-clause-reads : goal.returns-clause-reads
returns-clause-reads c =
    let a = c.args.command in
    let old = tokens_left c.args.self.now.lexer in
    let new = tokens_left c.next_token.new.self in
    let number = number_in_front a c.args.number c.in-Some.redirection c.in-Ok.token old new
    c.in-Ok.ensures.reads c.in-Some.ensures
    (c.if-not-same_bytes.ensures ∙ ap (λ x. same_bytes x c.descriptor.result.now) c.bytes-2.ensures
    ∙ ap (same_bytes c.args.number) c.descriptor.ensures) in
    reads_then (text_of c.next_token.new.self) (text_of c.args.self.now.lexer) c.redirect.result
    (commands_at a c.in-Some.redirection new) commands_behind
    (tokens_left c.redirect.new.self.lexer)
    (commands_at_number a c.args.number old) commands_behind
    (tokens_left c.redirect.new.self.lexer) c.next_token.ensures.on.text
    c.redirect.ensures.reads (λ _ e. number ∙ e) (λ e. number ∙ e)
