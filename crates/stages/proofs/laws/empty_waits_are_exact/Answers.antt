use Rattle.stages.proofs.Exactness.{empty_exact}
use Rattle.stages.proofs.laws.empty_waits_are_exact.Goals as goal

pub returns : goal.returns
returns c = empty_exact
