use Rattle.part_laws.proofs.lemmas.KeptLines.{newlines_keep_lines}
use Rattle.part_laws.proofs.laws.newlines_keep_lines.Goals as goal

pub returns : goal.returns
returns c = newlines_keep_lines
