use Rattle.network_laws.proofs.AlikeLaws.{alike_contents}
use Rattle.network_laws.proofs.laws.alike_contents_have_one_answer.Goals as goal

pub returns : goal.returns
returns c = alike_contents
