use Rattle.std.proofs.Common.{◌∙◌}
use Rattle.tr_filter.proofs.lemmas.TrFeed.{none_from, unthinned}
use Rattle.tr_filter.proofs.change.change_of.Goals as goal

pub returns-then-is_none : goal.returns-then-is_none
returns-then-is_none c xs = c.map_of.ensures xs
    ∙ unthinned c.args.spec.now xs (none_from c.args.spec.now.deleted c.if-is_none.ensures)
