use Rattle.part_laws.proofs.lemmas.FirstLaws.{runs_gather}
use Rattle.part_laws.proofs.laws.runs_are_gathered_before_heads.Goals as goal

pub returns : goal.returns
returns c = runs_gather
