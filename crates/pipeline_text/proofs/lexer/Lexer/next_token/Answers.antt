use Rattle.std.proofs.Common.{sym, ap, ◌∙◌}
use Rattle.command_words.specs.Texts.{◌>>=◌}
use Rattle.pipeline_text.specs.inner.Scans.{left}
use Rattle.pipeline_text.specs.Tokens.{tokens}
use Rattle.pipeline_text.specs.inner.Lexemes.{text_of, tokens_left}
use Rattle.pipeline_text.specs.inner.Left.{marks_left}
use Rattle.pipeline_text.proofs.lemmas.Cut.{tokens-nil}
use Rattle.pipeline_text.proofs.lemmas.Refused.{flawed_in}
use Rattle.pipeline_text.proofs.lexer.Lexer.next_token.Goals as goal

pub returns-in-End-clause-reads : goal.returns-in-End-clause-reads
returns-in-End-clause-reads c = sym c.skip_blanks.ensures.tokens
    ∙ ap (λ a. left a (marks_left c.skip_blanks.new.self.scanner) >>= tokens) c.in-End.is
    ∙ tokens-nil

pub returns-in-Fault-clause-reads : goal.returns-in-Fault-clause-reads
returns-in-Fault-clause-reads c =
    let s = c.skip_blanks.new.self in
    flawed_in (text_of c.args.self.now) (text_of s) c.in-Fault.fault
    (tokens_left c.args.self.now) c.skip_blanks.ensures.on.text
    (s.flaw c.in-Fault.fault c.in-Fault.is)
    (sym c.skip_blanks.ensures.tokens
    ∙ ap (λ a. left a (marks_left s.scanner) >>= tokens) c.in-Fault.is)

pub returns-in-End-clause-end : goal.returns-in-End-clause-end
returns-in-End-clause-end c =
    ap (λ a. left a (marks_left c.skip_blanks.new.self.scanner) >>= tokens) c.in-End.is ∙ tokens-nil
