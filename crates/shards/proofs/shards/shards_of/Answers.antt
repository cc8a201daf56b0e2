use Rattle.std.proofs.Common.{rules}
use Rattle.part_laws.proofs.PartLaws.{pipelines_divide}
use Rattle.shards.proofs.lemmas.ShardLaws.{are_shards}
use Rattle.shards.proofs.shards.shards_of.Goals as goal

pub returns-clause-same : goal.returns-clause-same
returns-clause-same c =
    are_shards c.args.plan.now c.in-Some.chain.from.now c.in-Some.chain.to.now
    c.in-Some.chain.stages.now
    c.in-Some.ensures.chain c.in-Some.ensures.stages pipelines_divide (search rules)
    c.divide-division.result c.divide-division.ensures.value c.in_ok-map.map.items
    c.in_ok-combine.combine.items c.in_ok-map.ensures.written c.in_ok-combine.ensures.written
