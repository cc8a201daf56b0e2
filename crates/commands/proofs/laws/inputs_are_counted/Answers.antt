use Rattle.commands.proofs.InputCounts.{inputs_counted}
use Rattle.commands.proofs.laws.inputs_are_counted.Goals as goal

pub returns : goal.returns
returns c = inputs_counted
