use Rattle.shards.proofs.lemmas.ChainLists.{not_both}
use Rattle.shards.proofs.lemmas.ChainParts.{between_of_chain, chain_between}
use Rattle.shards.proofs.chain.chain_of.Goals as goal

pub returns-then-is_chained-clause-chain : goal.returns-then-is_chained-clause-chain
returns-then-is_chained-clause-chain c =
    chain_between c.args.plan.now c.order.result.now c.in_ok-chain.chain.from.now
    c.in_ok-chain.chain.stages.now c.in_ok-chain.chain.to.now
    c.order.ensures c.in_ok-chain.ensures.ends (c.is_chained.ensures.0 c.if-is_chained.true)

pub returns-else-is_chained-clause-none : goal.returns-else-is_chained-clause-none
returns-else-is_chained-clause-none c = λ from filters to chain.
    not_both c.is_chained.result c.if-is_chained.false
    (c.is_chained.ensures.1
    (between_of_chain c.args.plan.now c.order.result.now c.in_ok-chain.chain.from.now
    c.in_ok-chain.chain.stages.now
    c.in_ok-chain.chain.to.now c.order.ensures c.in_ok-chain.ensures.ends from filters to chain))
