use Rattle.std.proofs.Common.{ℕ, subst, take}
use Rattle.lanes.specs.inner.Walks.{Shows}
use Rattle.lanes.proofs.walk.next_marks_far.Goals as goal

pub returns-then-base-len-clause-shows : goal.returns-then-base-len-clause-shows
returns-then-base-len-clause-shows c from s =
    c.far_marks.ensures.shows from
    (subst (λ (m : ℕ). Shows (take c.args.len c.args.ahead.now) c.args.byte from
    c.near_marks-base.result.0 m) c.if-left-eq0.true (c.near_marks-base.ensures.shows from s))
