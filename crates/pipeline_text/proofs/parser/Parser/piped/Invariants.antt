use Rattle.std.proofs.Common.{◌≡◌}
use Rattle.pipeline_text.specs.inner.Lexemes.{GoesOn, tokens_left, extent}
use Rattle.pipeline_text.specs.inner.Parses.{pipeline_goes}
use Rattle.pipeline_text.proofs.parser.Parser.piped.Given as goal

abbrev pub invariant-commands : goal.invariant-commands
invariant-commands l = record {
  left : pipeline_goes l.pipeline l.control (tokens_left l.self.lexer)
      ≡ pipeline_goes l.fn.pipeline l.fn.first (tokens_left l.fn.self.lexer);
  on : GoesOn l.fn.self.lexer l.self.lexer;
}

abbrev pub decreases-commands : goal.decreases-commands
decreases-commands l = extent l.self.lexer
