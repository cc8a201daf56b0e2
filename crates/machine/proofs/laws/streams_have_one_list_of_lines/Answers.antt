use Rattle.std.proofs.Common.{sym, subst}
use Rattle.machine.specs.Lines.{AreLinesOf}
use Rattle.machine.proofs.LinesLaws.{lines_are_one, lines_are_lines}
use Rattle.machine.proofs.laws.streams_have_one_list_of_lines.Goals as goal

pub returns : goal.returns
returns c = λ stream ls. (
  lines_are_one stream ls,
  λ e. subst (AreLinesOf stream) (sym e)
      (lines_are_lines stream),
)
