use Rattle.std.proofs.Common.{◌+◌, drop, take, arith}
use Rattle.std.proofs.lemmas.List.{length-take, length-drop}
use Rattle.std.proofs.lemmas.Simd.{take_more_put_chunk}
use Rattle.lanes.proofs.lemmas.MoveLaws.{after_put}
use Rattle.lanes.proofs.span.move_chunk.Goals as goal

pub returns-clause-moved : goal.returns-clause-moved
returns-clause-moved c =
    let xs = c.args.bytes.now in
    let chunk = take 64 (drop c.args.from xs) in
    take_more_put_chunk c.args.to xs chunk (c.args.to + 64)
    (omega (
      arith,
      c.requires.room,
      length-take 64 (drop c.args.from xs),
      length-drop c.args.from xs,
    )) (omega (arith, c.requires.room, c.requires.order))

pub returns-clause-rest : goal.returns-clause-rest
returns-clause-rest c =
    let xs = c.args.bytes.now in
    let chunk = take 64 (drop c.args.from xs) in
    after_put xs chunk c.args.to (c.args.from + 64)
    (omega (
      arith,
      c.requires.room,
      length-take 64 (drop c.args.from xs),
      length-drop c.args.from xs,
    )) (omega (arith, c.requires.order)) c.requires.room
