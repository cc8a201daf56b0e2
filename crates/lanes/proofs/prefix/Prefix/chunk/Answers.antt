use Rattle.lanes.proofs.lemmas.PrefixLaws.{chunk_begins}
use Rattle.lanes.proofs.prefix.Prefix.chunk.Goals as goal

pub returns-then-self-ge-CHUNK : goal.returns-then-self-ge-CHUNK
returns-then-self-ge-CHUNK c =
    chunk_begins c.args.self.of.now c.args.self.len c.args.self.within c.if-self-le-CHUNK.true
    c.if-self-ge-CHUNK.true
