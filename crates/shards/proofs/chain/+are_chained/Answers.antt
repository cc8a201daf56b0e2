use Rattle.shards.specs.Chains.{filters_of}
use Rattle.shards.proofs.lemmas.ChainLists.{first_link_of, not_both}
use Rattle.shards.proofs.chain.+are_chained.Goals as goal

pub returns-else-is_link : goal.returns-else-is_link
returns-else-is_link t c = (
  λ h. absurd (not_both c.is_link.result c.if-is_link.false h),
  λ e. c.is_link.ensures.1
      (first_link_of c.args.before c.args.nodes.now c.node-item.result c.node-item.is
      c.in-len1-up.len_at_least (filters_of c.args.nodes.now) e),
)
