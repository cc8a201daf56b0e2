use Rattle.network_laws.proofs.BoundLaws.{progress_bounded}
use Rattle.network_laws.proofs.laws.progress_is_bounded.Goals as goal

pub returns : goal.returns
returns c = progress_bounded
