use Rattle.machine.proofs.MakesLaws.{makes_finished}
use Rattle.machine.proofs.laws.a_finished_machine_has_made_its_answer.Goals as goal

pub returns : goal.returns
returns c = makes_finished
