use Rattle.network_nodes.proofs.lemmas.SplitLaws.{split_grows, split_stays}
use Rattle.network_nodes.proofs.actor.regrow_at.Goals as goal

pub returns-clause-grows : goal.returns-clause-grows
returns-clause-grows g c =
    let split = c.split_at_mut-before in
    let grown = c.regrow_between in
    split_grows c.args.nodes.now split.result.0.now split.result.1.now c.args.link
    c.index-before-link.result c.index-after-0.result split.ensures.front split.ensures.back
    c.requires.ends
    c.args.capacity grown.result grown.new.writer grown.new.reader grown.ensures.writer
    grown.ensures.reader grown.ensures.beside grown.ensures.room

pub returns-clause-refused : goal.returns-clause-refused
returns-clause-refused g c =
    λ err.
    let split = c.split_at_mut-before in
    let grown = c.regrow_between in
    split_stays c.args.nodes.now split.result.0.now split.result.1.now c.args.link
    c.index-before-link.result c.index-after-0.result split.ensures.front split.ensures.back
    c.requires.ends
    grown.new.writer grown.new.reader (grown.ensures.refused err).0 (grown.ensures.refused err).1
