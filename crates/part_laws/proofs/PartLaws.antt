-- Every pipeline of filters divides into its halves.
use Rattle.part_laws.specs.Laws.{FiltersDivide}
use Rattle.part_laws.proofs.lemmas.DivisionLaws.{divides}
use Rattle.part_laws.proofs.lemmas.FirstLaws.{runs_gather}
use Rattle.part_laws.proofs.lemmas.KeptLines.{newlines_keep_lines}
use Rattle.part_laws.proofs.lemmas.LinesOfLines.{lines_of_lines}
use Rattle.part_laws.proofs.lemmas.LongestLaws.{is_longest}
use Rattle.part_laws.proofs.lemmas.MannerLaws.{each_goes}

pub pipelines_divide : FiltersDivide
pipelines_divide = record {
  same = divides each_goes newlines_keep_lines lines_of_lines runs_gather;
  longest = is_longest;
}
