use Rattle.pair_filters.proofs.lemmas.AlikeLaws.{alike_as_far}
use Rattle.pair_filters.proofs.short_runs.begin_alike.Goals as goal

pub returns : goal.returns
returns c =
    alike_as_far c.args.a.now c.args.b.now c.args.len c.first_difference.result c.requires.len
    c.requires.a c.requires.b c.first_difference.ensures.before c.first_difference.ensures.there
