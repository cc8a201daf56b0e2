use Rattle.planner.proofs.lemmas.Lasts.{last_negated}
use Rattle.planner.proofs.make.is_negated.Goals as goal

pub returns-in-len1-up : goal.returns-in-len1-up
returns-in-len1-up c =
    last_negated c.args.pipelines.now c.last-item.result c.in-len1-up.len_at_least c.last-item.is
