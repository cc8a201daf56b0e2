use Rattle.collector.proofs.Looks.{refusing_is_full}
use Rattle.collector.proofs.laws.a_wait_is_exact.Goals as goal

pub returns-clause-full : goal.returns-clause-full
returns-clause-full c = refusing_is_full
