use Rattle.std.proofs.Common.{◌≡◌}
use Rattle.pipeline_text.specs.Tokens.{byte_of}
use Rattle.pipeline_text.specs.inner.Peeks.{shaped, no_shape}
use Rattle.pipeline_text.specs.inner.Lexemes.{GoesOn, word_left, extent}
use Rattle.pipeline_text.proofs.lexer.Lexer.word.Given as goal

abbrev pub invariant-marks : goal.invariant-marks
invariant-marks l = record {
  read : word_left l.bytes.items l.shape l.self ≡ word_left (byte_of l.fn.first)
      (shaped no_shape l.fn.first) l.fn.self;
  on : GoesOn l.fn.self l.self;
}

abbrev pub decreases-marks : goal.decreases-marks
decreases-marks l = extent l.self
