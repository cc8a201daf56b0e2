use Rattle.std.proofs.Common.{◌+◌, drop, take, arith}
use Rattle.std.proofs.lemmas.List.{length-take, length-drop}
use Rattle.std.proofs.lemmas.Simd.{take_more_put_chunk}
use Rattle.lanes.proofs.gather.copy_run.Goals as goal

pub returns-clause-copied : goal.returns-clause-copied
returns-clause-copied c =
    let rest = drop c.args.from c.args.bytes.now in
    take_more_put_chunk c.args.to c.args.few.now (take 64 rest) (c.args.to + 64)
    (omega (
      arith,
      c.requires.from,
      length-take 64 rest,
      length-drop c.args.from c.args.bytes.now,
    )) c.requires.to
