use Rattle.byte_filters.proofs.lemmas.CutLaws.{lines_are_cut}
use Rattle.byte_filters.proofs.laws.lines_are_cut.Goals as goal

pub returns : goal.returns
returns c = lines_are_cut
