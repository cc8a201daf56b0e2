use Rattle.std.proofs.Common.{sym, ap, ◌∙◌, Some}
use Rattle.pipeline_text.specs.Tokens.{operator}
use Rattle.pipeline_text.specs.inner.Left.{marks_left}
use Rattle.pipeline_text.proofs.lemmas.Cut.{operator_one}
use Rattle.pipeline_text.proofs.lexer.Lexer.operator_rest.Goals as goal

pub returns-else-both-clause-reads : goal.returns-else-both-clause-reads
returns-else-both-clause-reads c =
    let s = c.args.self.now in
    operator_one c.args.byte s.ahead (marks_left s.scanner) c.in-Some.operator
    (ap (λ b. Some (c.in-Some.operator, b)) (sym c.if-both.false) ∙ c.in-Some.ensures
    ∙ ap (operator c.args.byte) c.plain_ahead.ensures)
