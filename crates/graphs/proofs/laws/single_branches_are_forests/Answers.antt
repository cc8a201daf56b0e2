use Rattle.graphs.proofs.lemmas.SingleBranches.{single_branches}
use Rattle.graphs.proofs.laws.single_branches_are_forests.Goals as goal

pub returns : goal.returns
returns c = single_branches
