use Rattle.std.proofs.Common.{◌≡◌}
use Rattle.pipeline_text.specs.inner.Lexemes.{GoesOn, tokens_left, extent}
use Rattle.pipeline_text.proofs.lexer.Lexer.skip_blanks.Given as goal

abbrev pub invariant-blanks : goal.invariant-blanks
invariant-blanks l = record {
  tokens : tokens_left l.self
      ≡ tokens_left l.fn.self;
  on : GoesOn l.fn.self l.self;
}

abbrev pub decreases-blanks : goal.decreases-blanks
decreases-blanks l = extent l.self
