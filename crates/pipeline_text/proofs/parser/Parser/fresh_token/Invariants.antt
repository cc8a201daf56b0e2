use Rattle.std.proofs.Common.{◌≡◌}
use Rattle.pipeline_text.specs.inner.Lexemes.{GoesOn, tokens_left, extent}
use Rattle.pipeline_text.specs.inner.Parses.{fresh_left}
use Rattle.pipeline_text.proofs.parser.Parser.fresh_token.Given as goal

abbrev pub invariant-newlines : goal.invariant-newlines
invariant-newlines l = record {
  left : fresh_left (tokens_left l.self.lexer) ≡ fresh_left (tokens_left l.fn.self.lexer);
  on : GoesOn l.fn.self.lexer l.self.lexer;
}

abbrev pub decreases-newlines : goal.decreases-newlines
decreases-newlines l = extent l.self.lexer
