use Rattle.shards.proofs.lemmas.SameLaws.{after_alike_of, if_some}
use Rattle.shards.proofs.same.+after_alike.Goals as goal

pub returns-in-len1-up-stages : goal.returns-in-len1-up-stages
returns-in-len1-up-stages t c =
    if_some c.after_alike.result
    (λ rest later. after_alike_of c.args.stages.now c.args.others.now rest.now c.stage-item.result
    c.other-item.result c.in-len1-up-stages.len_at_least c.in-len1-up.len_at_least
    c.stage-item.is c.other-item.is (c.are_alike.ensures c.if-are_alike.true) later)
    c.after_alike.ensures
