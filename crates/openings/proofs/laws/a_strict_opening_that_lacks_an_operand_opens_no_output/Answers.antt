use Rattle.openings.proofs.lemmas.MoreOpenings.{strict_untried}
use Rattle.openings.proofs.laws.a_strict_opening_that_lacks_an_operand_opens_no_output.Goals as goal

pub returns : goal.returns
returns c = strict_untried
