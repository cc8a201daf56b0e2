use Rattle.std.proofs.Common.{length, sym, ap, ◌∙◌}
use Rattle.command_words.specs.Texts.{◌>>=◌}
use Rattle.pipeline_text.specs.Tokens.{tokens}
use Rattle.pipeline_text.proofs.lemmas.Parts.{parted}
use Rattle.pipeline_text.proofs.lemmas.Refused.{ahead_in, not_below_zero}
use Rattle.pipeline_text.proofs.lexer.Lexer.new.Goals as goal

pub invariant_of-result : goal.invariant_of-result
invariant_of-result c = record {
  flaw = ahead_in c.new-scanner.result.text.now c.scan-ahead.new.self.text.now c.scan-ahead.result
      c.scan-ahead.ensures.text c.scan-ahead.ensures.flaw;
  start_within = not_below_zero (length c.scan-ahead.new.self.text.now);
}

pub returns-clause-tokens : goal.returns-clause-tokens
returns-clause-tokens c = ap (λ ms. ms >>= tokens) (sym c.scan-ahead.ensures.marks
    ∙ c.new-scanner.ensures.marks ∙ parted c.args.text.now)
