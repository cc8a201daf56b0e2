use Rattle.line_filters.proofs.EndLaws.{tails_need_an_end}
use Rattle.line_filters.proofs.laws.tails_need_only_an_end.Goals as goal

pub returns : goal.returns
returns c = tails_need_an_end
