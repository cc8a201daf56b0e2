use Rattle.network_laws.proofs.FinishLaws.{outputs_begin}
use Rattle.network_laws.proofs.laws.outputs_begin.Goals as goal

pub returns : goal.returns
returns c = outputs_begin
