use Rattle.part_laws.proofs.lemmas.LinesOfLines.{lines_of_lines}
use Rattle.part_laws.proofs.laws.lines_are_made_of_lines.Goals as goal

pub returns : goal.returns
returns c = lines_of_lines
