use Rattle.std.proofs.Common.{◌+◌, take, arith}
use Rattle.std.proofs.lemmas.List.{length-take}
use Rattle.std.proofs.lemmas.Simd.{take_more_put_chunk}
use Rattle.pair_filters.proofs.short_runs.copy_sixteen.Goals as goal

pub returns-clause-copied : goal.returns-clause-copied
returns-clause-copied c =
    take_more_put_chunk c.args.to c.args.few.now (take 16 c.args.bytes.now) (c.args.to + 16)
    (omega (arith, c.requires.bytes, length-take 16 c.args.bytes.now)) c.requires.room
