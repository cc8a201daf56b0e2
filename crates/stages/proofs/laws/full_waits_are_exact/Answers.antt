use Rattle.stages.proofs.Exactness.{full_exact}
use Rattle.stages.proofs.laws.full_waits_are_exact.Goals as goal

pub returns : goal.returns
returns c = full_exact
