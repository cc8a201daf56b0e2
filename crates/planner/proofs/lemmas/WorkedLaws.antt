-- The worked scripts, computed.
use Rattle.std.proofs.Common.{refl}
use Rattle.command_words.specs.Streams.{is_input_path, is_output_path}
use Rattle.pipeline_text.specs.Tokens.{tokens_in, tokens}
use Rattle.pipeline_text.specs.Quotes.{marks_of_parts}
use Rattle.planner.specs.Worked.{WorkedPlans, StalledTables, EmptySourceTables, AbsentBranchTables}
use Rattle.planner.specs.Worked.{UnwrittenFifoTables, UniqFifoTables, BackwardTables}
use Rattle.planner.specs.Worked.{UnusedOpenings, TeeOpenings, StreamTables}

stalled : StalledTables
unfolding tokens_in tokens marks_of_parts is_input_path is_output_path
stalled = refl

empty_source : EmptySourceTables
unfolding tokens_in tokens marks_of_parts is_input_path is_output_path
empty_source = refl

absent_branch : AbsentBranchTables
unfolding tokens_in tokens marks_of_parts is_input_path is_output_path
absent_branch = refl

unwritten_fifo : UnwrittenFifoTables
unfolding tokens_in tokens marks_of_parts is_input_path is_output_path
unwritten_fifo = refl

uniq_fifo : UniqFifoTables
unfolding tokens_in tokens marks_of_parts is_input_path is_output_path
uniq_fifo = refl

backward : BackwardTables
unfolding tokens_in tokens marks_of_parts is_input_path is_output_path
backward = refl

unused : UnusedOpenings
unfolding tokens_in tokens marks_of_parts is_input_path is_output_path
unused = (refl, refl)

tees : TeeOpenings
unfolding tokens_in tokens marks_of_parts is_input_path is_output_path
tees = refl

streams : StreamTables
unfolding tokens_in tokens marks_of_parts is_input_path is_output_path
streams = (refl, refl, refl)

pub worked_plans : WorkedPlans
worked_plans = (
  stalled,
  empty_source,
  absent_branch,
  unwritten_fifo,
  uniq_fifo,
  backward,
  unused,
  tees,
  streams,
)
