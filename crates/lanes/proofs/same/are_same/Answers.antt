use Rattle.std.proofs.Common.{◌≡◌, ◌∙◌, not, length, ap, arith}
use Rattle.lanes.specs.inner.Prefixes.{prefix_bytes}
use Rattle.lanes.proofs.lemmas.SameLaws.{other_fronts, same_fronts}
use Rattle.lanes.proofs.same.are_same.Goals as goal

pub returns-then-not-differ_early : goal.returns-then-not-differ_early
returns-then-not-differ_early c =
    let a = c.args.a in
    let b = c.args.b in
    let x = c.in-Some-Some.ensures in
    let y = c.in-Some-Some.ensures' in
    let d = c.first_difference.ensures in
    let long : length (prefix_bytes a) ≡ length (prefix_bytes b) =
    omega (arith, c.len.ensures, c.len-2.ensures, c.if-len.false) in
    same_fronts (prefix_bytes a) (prefix_bytes b) c.in-Some-Some.x.now c.in-Some-Some.y.now _
    c.first_difference.result long c.len-then-not-differ_early.ensures (x.1) (x.2)
    (y.2) d.before d.there

pub returns-else-not-differ_early : goal.returns-else-not-differ_early
returns-else-not-differ_early c =
    let a = c.args.a in
    let b = c.args.b in
    let x = c.in-Some-Some.ensures in
    let y = c.in-Some-Some.ensures' in
    let d = c.differ_early.ensures c.if-not-differ_early.false in
    let long : length (prefix_bytes a) ≡ length (prefix_bytes b) =
    omega (arith, c.len.ensures, c.len-2.ensures, c.if-len.false) in
    ap not c.if-not-differ_early.false
    ∙ other_fronts (prefix_bytes a) (prefix_bytes b) c.in-Some-Some.x.now c.in-Some-Some.y.now
    (d.0) long (omega (arith, d.1, c.len-in-Some-Some.ensures)) (x.2) (y.2) (d.2)
