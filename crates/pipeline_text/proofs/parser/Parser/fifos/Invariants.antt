use Rattle.std.proofs.Common.{◌≡◌}
use Rattle.pipeline_text.specs.inner.Lexemes.{GoesOn, extent}
use Rattle.pipeline_text.specs.inner.Parses.{script_behind, pipelines_left}
use Rattle.pipeline_text.proofs.parser.Parser.fifos.Given as goal

abbrev pub invariant-commands : goal.invariant-commands
invariant-commands l = record {
  left : script_behind l.names (pipelines_left l.self.lexer)
      ≡ script_behind l.fn.names (pipelines_left l.fn.self.lexer);
  on : GoesOn l.fn.self.lexer l.self.lexer;
}

abbrev pub decreases-commands : goal.decreases-commands
decreases-commands l = extent l.self.lexer
