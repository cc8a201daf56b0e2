use Rattle.line_filters.proofs.lemmas.KeptLaws.{ends_by_last}
use Rattle.line_filters.proofs.kept.is_incomplete.Goals as goal

pub returns : goal.returns
returns c = ends_by_last c.args.bytes.now c.requires
