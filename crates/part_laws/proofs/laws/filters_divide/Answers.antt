use Rattle.part_laws.proofs.PartLaws.{pipelines_divide}
use Rattle.part_laws.proofs.laws.filters_divide.Goals as goal

pub returns : goal.returns
returns c = pipelines_divide
