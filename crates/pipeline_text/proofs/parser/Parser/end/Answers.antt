use Rattle.pipeline_text.specs.inner.Lexemes.{text_of, tokens_left, extent}
use Rattle.pipeline_text.specs.inner.Parses.{pipelines_left, nothing_more}
use Rattle.pipeline_text.proofs.lemmas.Scripts.{ends_behind, goes_on_behind, fresh_is}
use Rattle.pipeline_text.proofs.lemmas.Refused.{some_refusal, refused_in}
use Rattle.pipeline_text.proofs.parser.Parser.end.Goals as goal

pub returns-in_default : goal.returns-in_default
returns-in_default c = ends_behind c.in-Ok.next (tokens_left c.args.self.now.lexer)
    (tokens_left c.fresh_token.new.self.lexer) c.in-Ok.ensures.reads c.in_default.is

pub returns : goal.returns
returns c =
    let none = goes_on_behind c.in-Some.token c.in-Ok.next (tokens_left c.args.self.now.lexer)
    (tokens_left c.fresh_token.new.self.lexer) c.in-Ok.ensures.reads c.in-Some.is
    (fresh_is c.in-Some.token c.in-Ok.next (extent c.args.self.now.lexer)
    (extent c.fresh_token.new.self.lexer) c.in-Ok.ensures.fresh c.in-Some.is) in
    refused_in (text_of c.fresh_token.new.self.lexer) (text_of c.args.self.now.lexer) c.after.result
    (nothing_more (pipelines_left c.args.self.now.lexer))
    (nothing_more (pipelines_left c.args.self.now.lexer)) c.in-Ok.ensures.on.text (λ n. n)
    (some_refusal (text_of c.fresh_token.new.self.lexer) c.after.result
    (nothing_more (pipelines_left c.args.self.now.lexer)) c.after.ensures none)
