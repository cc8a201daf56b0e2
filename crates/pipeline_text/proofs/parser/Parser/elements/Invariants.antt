use Rattle.std.proofs.Common.{◌≡◌}
use Rattle.pipeline_text.specs.inner.Lexemes.{GoesOn, tokens_left, extent}
use Rattle.pipeline_text.specs.inner.Parses.{commands_behind}
use Rattle.pipeline_text.proofs.parser.Parser.elements.Given as goal

abbrev pub invariant-tokens : goal.invariant-tokens
invariant-tokens l = record {
  left : commands_behind l.command (tokens_left l.self.lexer)
      ≡ commands_behind l.fn.command (tokens_left l.fn.self.lexer);
  on : GoesOn l.fn.self.lexer l.self.lexer;
}

abbrev pub decreases-tokens : goal.decreases-tokens
decreases-tokens l = extent l.self.lexer
