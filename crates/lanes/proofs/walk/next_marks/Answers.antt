use Rattle.std.proofs.Common.{◌+◌, take, length, arith}
use Rattle.std.proofs.lemmas.List.{length-take}
use Rattle.lanes.proofs.lemmas.WalkLaws.{marks_of_front, shows_next, all_clear}
use Rattle.lanes.proofs.walk.next_marks.Goals as goal

pub loop-left-preserved : goal.loop-left-preserved
loop-left-preserved c =
    let ahead = c.args.ahead.now in
    let len = c.args.len in
    let l = c.loop-left in (
      omega (arith, c.if-base-len.true, c.requires.within),
      λ from s. shows_next (take len ahead) c.args.byte from l.base l.left c.marks-left.result
          (l.invariant.1 from s)
          (all_clear l.left l.base (length (take len ahead)) c.loop-left-test.true)
          (omega (arith, c.if-base-len.true, length-take len ahead, c.requires.within))
          (marks_of_front ahead len c.args.byte (l.base + 64) c.marks-left.result c.requires.within
          (λ k small within. c.marks-left.ensures k small within)),
    )
