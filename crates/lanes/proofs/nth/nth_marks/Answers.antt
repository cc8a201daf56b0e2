use Rattle.std.proofs.Common.{◌≡◌, ℕ, ◌+◌, ◌-◌, ◌<◌, subst, take, refl, arith}
use Rattle.std.proofs.lemmas.List.{length-take}
use Rattle.lanes.specs.inner.Walks.{HasPassed}
use Rattle.lanes.proofs.lemmas.NthLaws.{passed_more, passed_next}
use Rattle.lanes.proofs.lemmas.WalkLaws.{marks_of_front}
use Rattle.lanes.proofs.nth.nth_marks.Goals as goal
use Rattle.lanes.proofs.nth.nth_marks.Goals.{then-left-eq0, else-left-eq0+then-more-gt0}

pub loop-left-preserved-then-left-ne0 : goal.loop-left-preserved-then-left-ne0
loop-left-preserved-then-left-ne0 c =
    let l = c.loop-left in
    let bytes = take c.args.len c.args.ahead.now in
    let some : 0 < l.more =
    elim c.if-left-eq0.branch [
      | then-left-eq0 w ↦ absurd (c.if-left-ne0.true w.if-left-eq0.true)
      | else-left-eq0+then-more-gt0 w ↦ w.if-more-gt0.true
    ] in
    let n : c.args.count - 1 - l.more + 1 ≡ c.args.count - 1 - (l.more - 1) =
    omega (arith, l.invariant.1, some) in (
      l.invariant.0,
      omega (arith, l.invariant.1),
      λ from s. subst
          (λ (k : ℕ). HasPassed bytes c.args.byte from k l.base c.without_lowest-left.result) n
          (passed_more bytes c.args.byte from
          (c.args.count - 1 - l.more) l.base l.left c.without_lowest-left.result
          (l.invariant.2 from s) c.without_lowest-left.ensures),
    )

pub loop-left-preserved : goal.loop-left-preserved
loop-left-preserved c =
    let l = c.loop-left in
    let ahead = c.args.ahead.now in
    let len = c.args.len in (
      omega (arith, c.if-base-len.true, c.requires.within),
      l.invariant.1,
      λ from s. passed_next (take len ahead) c.args.byte from
          (c.args.count - 1 - l.more) l.base l.left c.marks-left.result
          (l.invariant.2 from s) c.if-left-ne0.false
          (omega (arith, c.if-base-len.true, length-take len ahead, c.requires.within))
          (marks_of_front ahead len c.args.byte (l.base + 64) c.marks-left.result c.requires.within
          (λ k small within. c.marks-left.ensures k small within)),
    )

pub returns-else-base-len-clause-shows : goal.returns-else-base-len-clause-shows
returns-else-base-len-clause-shows c from s =
    let l = c.loop-left in (
      c.args.count - 1 - l.more,
      omega (arith, l.invariant.1),
      λ some. absurd (some refl),
      subst (λ (k : ℕ). HasPassed (take c.args.len c.args.ahead.now) c.args.byte from
          (c.args.count - 1 - l.more) l.base k) c.if-left-ne0.false (l.invariant.2 from s),
    )

pub returns-clause-shows : goal.returns-clause-shows
returns-clause-shows c from s =
    let l = c.loop-left in (
      c.args.count - 1 - l.more,
      omega (arith, l.invariant.1),
      λ some. omega (arith, l.invariant.1, c.if-more-gt0.false),
      l.invariant.2 from s,
    )
