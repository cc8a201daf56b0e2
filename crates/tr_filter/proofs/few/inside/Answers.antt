use Rattle.tr_filter.proofs.lemmas.FewLaws.{inside_is}
use Rattle.tr_filter.proofs.few.inside.Goals as goal

pub returns : goal.returns
returns c = inside_is c.args.span c.args.lanes c.fits-lanes.0
