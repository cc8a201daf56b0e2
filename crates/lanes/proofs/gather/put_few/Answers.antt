use Rattle.std.proofs.Common.{◌+◌, take, arith}
use Rattle.std.proofs.lemmas.List.{length-take}
use Rattle.std.proofs.lemmas.Simd.{take_more_put_chunk}
use Rattle.lanes.proofs.lemmas.MoveLaws.{after_put}
use Rattle.lanes.proofs.gather.put_few.Goals as goal

pub returns-clause-copied : goal.returns-clause-copied
returns-clause-copied c =
    let chunk = take 64 c.args.few.now in
    take_more_put_chunk c.args.to c.args.bytes.now chunk (c.args.to + 64)
    (omega (arith, c.requires.few, length-take 64 c.args.few.now)) c.requires.room

pub returns-clause-rest : goal.returns-clause-rest
returns-clause-rest c n past within =
    after_put c.args.bytes.now (take 64 c.args.few.now) c.args.to n
    (omega (arith, c.requires.few, length-take 64 c.args.few.now)) past within
