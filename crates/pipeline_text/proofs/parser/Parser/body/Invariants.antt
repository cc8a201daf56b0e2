use Rattle.std.proofs.Common.{◌≡◌}
use Rattle.pipeline_text.specs.inner.Lexemes.{GoesOn, extent}
use Rattle.pipeline_text.specs.inner.Parses.{with_pipelines, body_behind, pipelines_left}
use Rattle.pipeline_text.proofs.parser.Parser.body.Given as goal

abbrev pub invariant-background : goal.invariant-background
invariant-background l = record {
  left : with_pipelines l.pipelines (body_behind l.pipeline (pipelines_left l.self.lexer))
      ≡ body_behind l.fn.first (pipelines_left l.fn.self.lexer);
  on : GoesOn l.fn.self.lexer l.self.lexer;
}

abbrev pub decreases-background : goal.decreases-background
decreases-background l = extent l.self.lexer
