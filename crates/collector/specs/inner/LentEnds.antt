-- A node that lends its pipe end: it stays as it is, but for what is left of the end.
use Rattle.std.specs.Borrow.{Lends, MutBor, Fml}
use Rattle.bounded_pipe.specs.Ends.{Writing, Reading}
use Rattle.bounded_pipe.specs.contracts.writing.PipeOut as writing_end
use Rattle.bounded_pipe.specs.contracts.reading.PipeIn as reading_end
use Rattle.collector.specs.Nodes.{SourceShown, SinkShown}
use Rattle.collector.specs.contracts.source.Source as source
use Rattle.collector.specs.contracts.sink.Sink as sink

-- the source ends with the last value of its end, and is otherwise as it was
abbrev pub LendsWriting : MutBor SourceShown → MutBor Writing → Fml
LendsWriting s r = Lends source.the_row writing_end.the_row s r (λ w. record s.now { end = w })

-- the sink ends with the last value of its end, and is otherwise as it was
abbrev pub LendsReading : MutBor SinkShown → MutBor Reading → Fml
LendsReading s r = Lends sink.the_row reading_end.the_row s r (λ w. record s.now { end = w })
