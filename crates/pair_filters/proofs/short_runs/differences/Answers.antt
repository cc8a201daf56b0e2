use Rattle.pair_filters.proofs.lemmas.AlikeLaws.{bit_differs}
use Rattle.pair_filters.proofs.short_runs.differences.Goals as goal

pub returns : goal.returns
returns c k small = bit_differs c.args.a.now c.args.b.now k c.requires.a c.requires.b small
