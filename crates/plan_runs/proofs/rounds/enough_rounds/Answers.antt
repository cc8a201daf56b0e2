use Rattle.plan_runs.proofs.lemmas.RoundLaws.{number_enough}
use Rattle.plan_runs.proofs.rounds.enough_rounds.Goals as goal

pub returns-clause-enough : goal.returns-clause-enough
returns-clause-enough c =
    number_enough c.args.plan.now c.args.bytes c.pipes.result.now c.order.result.now
    c.rounds_of.result
    c.pipes.ensures.value c.order.ensures c.rounds_of.ensures.exact
