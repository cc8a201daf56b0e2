use Rattle.std.proofs.Common.{sym, ap, ◌∙◌}
use Rattle.std.proofs.lemmas.Result.{err_from_is_err_and}
use Rattle.command_words.specs.Texts.{◌>>=◌}
use Rattle.pipeline_text.specs.Tokens.{byte_of, tokens, operator_at, with_token}
use Rattle.pipeline_text.specs.inner.Peeks.{blank_is_next, shaped, no_shape}
use Rattle.pipeline_text.specs.inner.Lexemes.{text_of, marks_in, tokens_left, word_left}
use Rattle.pipeline_text.specs.inner.Lexemes.{operator_left, part_before}
use Rattle.pipeline_text.proofs.lemmas.Refused.{reads_then, refused_in}
use Rattle.pipeline_text.proofs.lemmas.Cut.{word_taken, word_none, operator_taken, operator_none}
use Rattle.pipeline_text.proofs.lexer.Lexer.token.Goals as goal

pub returns-then-goes_on-clause-reads : goal.returns-then-goes_on-clause-reads
returns-then-goes_on-clause-reads c =
    let now = marks_in c.advance-first.new.self in
    let whole = ap (λ ms. ms >>= tokens) c.advance-first.ensures.marks in
    let first = c.advance-first.ensures.was ∙ c.requires.next in
    let black = ap blank_is_next c.advance-first.ensures.was ∙ c.requires.no_blank in
    reads_then (text_of c.advance-first.new.self) (text_of c.args.self.now) c.word.result
    (word_left (byte_of c.args.mark) (shaped no_shape c.args.mark) c.advance-first.new.self)
    part_before (marks_in c.word.new.self)
    (tokens_left c.args.self.now) with_token
    (tokens_left c.word.new.self) c.advance-first.ensures.text c.word.ensures.reads
    (λ t r. whole ∙ word_taken c.advance-first.result c.args.mark now t
    (marks_in c.word.new.self) first black c.if-goes_on.ensures r)
    (λ n. whole
    ∙ word_none c.advance-first.result c.args.mark now first black c.if-goes_on.ensures n)

pub returns-in_err-operator-clause-reads : goal.returns-in_err-operator-clause-reads
returns-in_err-operator-clause-reads c =
    let p = err_from_is_err_and c.from_residual.result c.from_residual.ensures.1 in
    let now = marks_in c.advance-first.new.self in
    let whole = ap (λ ms. ms >>= tokens) c.advance-first.ensures.marks in
    rw (p.1, p.2)
    (refused_in (text_of c.advance-first.new.self)
    (text_of c.args.self.now) c.in_err-operator.field-0.0
    (operator_left c.byte_in.result c.advance-first.new.self)
    (tokens_left c.args.self.now) c.advance-first.ensures.text
    (λ n. whole ∙ operator_none c.advance-first.result c.args.mark now (c.advance-first.ensures.was
    ∙ c.requires.next) (ap blank_is_next c.advance-first.ensures.was
    ∙ c.requires.no_blank) c.if-goes_on.ensures
    (ap (λ b. now >>= operator_at b) (sym c.byte_in.ensures) ∙ n))
    c.in_err-operator.ensures.reads)

pub returns-clause-reads : goal.returns-clause-reads
returns-clause-reads c =
    let now = marks_in c.advance-first.new.self in
    ap (λ ms. ms >>= tokens) c.advance-first.ensures.marks
    ∙ operator_taken c.advance-first.result c.args.mark now c.in_ok-operator.operator
    (marks_in c.operator_rest.new.self)
    (c.advance-first.ensures.was ∙ c.requires.next) (ap blank_is_next c.advance-first.ensures.was
    ∙ c.requires.no_blank) c.if-goes_on.ensures
    (ap (λ b. now >>= operator_at b) (sym c.byte_in.ensures) ∙ c.in_ok-operator.ensures.reads)
