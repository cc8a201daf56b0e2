use Rattle.std.proofs.Common.{false, true, ◌≡◌}
use Rattle.pipeline_text.specs.inner.Lexemes.{tokens_left}
use Rattle.pipeline_text.proofs.lemmas.Adds.{later_taken}
use Rattle.pipeline_text.proofs.parser.Parser.word.Goals as goal

pub returns-clause-reads : goal.returns-clause-reads
returns-clause-reads c = later_taken c.args.command _ c.args.name c.args.look
    (tokens_left c.args.self.now.lexer)
    (λ e. absurd (let k : false ≡ true = c.if-has_no_words.ensures.none.1 e in cc))
    c.in_ok-with_word.ensures
