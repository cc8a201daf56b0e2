use Rattle.lanes.proofs.lemmas.PrefixLaws.{chunks_begin}
use Rattle.lanes.proofs.prefix.Prefix.two_chunks.Goals as goal

pub returns-then-self-2 : goal.returns-then-self-2
returns-then-self-2 c =
    chunks_begin c.args.self.of.now c.args.self.len c.args.self.within c.if-self.true
    c.if-self-2.true
