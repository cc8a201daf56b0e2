use Rattle.std.proofs.Common.{◌∷◌, ◌∙◌, ℕ, List, ltb, length, map, Some, [], ap, subst, sym}
use Rattle.machine.specs.Lines.{newline}
use Rattle.pair_filters.specs.Circles.{number_after, put_in}
use Rattle.pair_filters.specs.Joins.{JoinsBytes}
use Rattle.pair_filters.proofs.lemmas.JoinCircles.{piece_joined, piece_joined_due}
use Rattle.pair_filters.proofs.joined.join_piece.Goals as goal

pub returns-then-joint : goal.returns-then-joint
returns-then-joint c =
    let circle = c.args.circle.now in
    let xs = c.args.bytes.now in
    let k = c.args.joint.now.next in
    let r = c.in_ok-made in
    let is = c.line_content-content.ensures in
    subst (λ (x : List ℕ). JoinsBytes (map Some circle) c.args.joint.now
    (record { next = r.next; due = ltb (length x) (length xs) }) xs [] r.made.items) (sym is)
    (piece_joined_due circle c.args.joint.now xs r.made.items r.next c.if-joint.true c.requires.next
    c.requires.some
    (r.ensures.0 ∙ ap (λ (x : List ℕ). put_in circle k (newline ∷ x)) is)
    (r.ensures.1 ∙ ap (λ (x : List ℕ). number_after (length circle) k (newline ∷ x)) is))

pub returns : goal.returns
returns c =
    let circle = c.args.circle.now in
    let xs = c.args.bytes.now in
    let k = c.args.joint.now.next in
    let r = c.in_ok-made-2 in
    let is = c.line_content-content.ensures in
    subst (λ (x : List ℕ). JoinsBytes (map Some circle) c.args.joint.now
    (record { next = r.next; due = ltb (length x) (length xs) }) xs [] r.made.items) (sym is)
    (piece_joined circle c.args.joint.now xs r.made.items r.next c.if-joint.false c.requires.next
    c.requires.some
    (r.ensures.0 ∙ ap (put_in circle k) is)
    (r.ensures.1 ∙ ap (number_after (length circle) k) is))
