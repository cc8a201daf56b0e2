use Rattle.commands.proofs.Dashes.{dash_once}
use Rattle.commands.proofs.laws.standard_input_is_named_once.Goals as goal

pub returns : goal.returns
returns c = dash_once
