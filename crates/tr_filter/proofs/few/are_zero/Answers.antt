use Rattle.std.proofs.lemmas.Bool.{eqb-true}
use Rattle.tr_filter.proofs.lemmas.FewLaws.{zeros}
use Rattle.tr_filter.proofs.few.are_zero.Goals as goal

pub returns : goal.returns
returns c none = zeros c.args.lanes c.fits-lanes.0 (eqb-true _ _ none)
