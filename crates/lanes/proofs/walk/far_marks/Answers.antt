use Rattle.std.proofs.Common.{◌-◌, ◌+◌, take, arith}
use Rattle.std.proofs.lemmas.List.{length-take}
use Rattle.lanes.proofs.lemmas.WalkLaws.{marks_of_front, marked_first, shows_last, shows_far}
use Rattle.lanes.proofs.walk.far_marks.Goals as goal

pub returns-in-None-clause-shows : goal.returns-in-None-clause-shows
returns-in-None-clause-shows c from s =
    shows_last (take c.args.len c.args.ahead.now) c.args.byte from c.args.base (c.args.len - 64) s
    (omega (arith, c.requires.more))
    (omega (arith, c.requires.more, c.requires.within, length-take c.args.len c.args.ahead.now))
    c.in-None.ensures

pub returns-in-Some-clause-shows : goal.returns-in-Some-clause-shows
returns-in-Some-clause-shows c from s =
    shows_far (take c.args.len c.args.ahead.now) c.args.byte from c.args.base c.in-Some.place
    c.marks.result s c.in-Some.ensures
    (marks_of_front c.args.ahead.now c.args.len c.args.byte c.in-Some.place c.marks.result
    c.requires.within c.marks.ensures)

pub returns-in-Some-clause-ended : goal.returns-in-Some-clause-ended
returns-in-Some-clause-ended c none =
    absurd (marked_first (take c.args.len c.args.ahead.now) c.args.byte
    (c.args.base + 64) c.in-Some.place c.marks.result c.in-Some.ensures
    (marks_of_front c.args.ahead.now c.args.len c.args.byte c.in-Some.place c.marks.result
    c.requires.within c.marks.ensures) none)
