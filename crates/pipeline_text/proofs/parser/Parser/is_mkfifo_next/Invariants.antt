use Rattle.pipeline_text.specs.inner.Lexemes.{GoesOn}
use Rattle.pipeline_text.proofs.parser.Parser.is_mkfifo_next.Given as goal

abbrev pub invariant-loop-token : goal.invariant-loop-token
invariant-loop-token l = GoesOn l.fn.self.lexer l.self.lexer
