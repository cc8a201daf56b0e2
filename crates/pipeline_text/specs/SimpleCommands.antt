-- A simple command (POSIX.1-2017 XCU 2.9.1), as the grammar speaks of it.
use Rattle.std.specs.Prelude.{Bool}
use Rattle.pipeline_text.specs.declared.token.Look.{Look}
use Rattle.pipeline_text.specs.declared.script.Cmd.{Cmd}

-- a command: whether `!` comes before it, what its first word looks like, and its words and
-- redirections
pub record SimpleCommand : Type 0 where
  pub negated : Bool
  pub look : Look
  pub cmd : Cmd
