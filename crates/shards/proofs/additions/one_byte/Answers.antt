use Rattle.std.proofs.Common.{arith}
use Rattle.shards.proofs.lemmas.AdditionLaws.{one_entry}
use Rattle.shards.proofs.additions.one_byte.Goals as goal

pub returns : goal.returns
returns c = one_entry c.args.byte (omega arith)
