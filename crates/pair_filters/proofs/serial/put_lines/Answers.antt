use Rattle.std.proofs.Common.{◌++◌, ◌∙◌, ◌≡◌, ◌+◌, ◌-◌, false, eqb, List, ℕ, take, drop, ap, subst}
use Rattle.std.specs.List.{All}
use Rattle.std.proofs.lemmas.List.{take_rest}
use Rattle.machine.specs.inner.Places.{FirstFrom}
use Rattle.lanes.specs.inner.Walks.{Course}
use Rattle.pair_filters.proofs.lemmas.JoinLaws.{joined_more, joined_part}
use Rattle.pair_filters.proofs.serial.put_lines.Goals as goal

pub loop-end-preserved : goal.loop-end-preserved
loop-end-preserved c =
    let l = c.loop-end in
    let bytes = c.args.bytes.now in
    let k = c.in-Some.end in
    record {
      joined =
          joined_more c.args.delimiters.now c.args.joint.now l.joint c.put_due.new.joint bytes l.at
          k c.args.made.now l.made c.put_due.new.made c.put_part.new.self l.invariant.joined
          c.in_ok-put_due.ensures
          (subst (λ (w : Course). FirstFrom w.bytes w.byte w.from k) l.invariant.course
          (c.in-Some.ensures.0))
          (c.in_ok-put_part.ensures
          ∙ ap (λ (x : List ℕ). c.put_due.new.made ++ x) (c.new.ensures
          ∙ ap (take (k - l.at)) (take_rest bytes l.at)));
      course = c.in-Some.ensures.1
          ∙ ap (λ (w : Course). record w { from = k + 1 }) l.invariant.course;
    }

pub returns-in_ok-put : goal.returns-in_ok-put
returns-in_ok-put c =
    let l = c.loop-end in
    let bytes = c.args.bytes.now in
    let made = c.put_due-then-at-bytes.new.made in
    joined_part c.args.delimiters.now c.args.joint.now l.joint c.put_due-then-at-bytes.new.joint
    bytes l.at c.args.made.now l.made made c.put.new.self l.invariant.joined
    c.in_ok-put_due-2.ensures c.if-at-bytes.true
    (subst (λ (w : Course). All (λ x. eqb x w.byte ≡ false) (drop w.from w.bytes))
    l.invariant.course (c.in_default.ensures.0))
    (c.in_ok-put.ensures ∙ ap (λ (x : List ℕ). made ++ x) (take_rest bytes l.at))
