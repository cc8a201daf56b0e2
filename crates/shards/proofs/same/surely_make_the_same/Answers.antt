use Rattle.shards.proofs.lemmas.SameLaws.{rows_alike}
use Rattle.shards.proofs.same.surely_make_the_same.Goals as goal

pub returns-in-Some-after_alike-2 : goal.returns-in-Some-after_alike-2
returns-in-Some-after_alike-2 c = λ yes.
    rows_alike c.args.stages.now c.args.half.first.now c.args.half.second.now
    c.args.half.third.now c.in-Some.later.now c.in-Some-after_alike.last.now
    c.in-Some-after_alike-2.rest.now c.in-Some.ensures c.in-Some-after_alike.ensures
    c.in-Some-after_alike-2.ensures (c.are_copying.ensures yes)
