use Rattle.std.proofs.Common.{arith, false, length, ◌≡◌, List, ℕ, subst}
use Rattle.machine.specs.declared.protocol.Presence.TheVariants.{Present, Missing}
use Rattle.machine.specs.FrontLines.{FrontLines}
use Rattle.line_filters.proofs.lemmas.HeadLaws.{head_goes_on, head_leaves, head_skips, head_left_as}
use Rattle.line_filters.proofs.lemmas.HeadLaws.{presence_is, begins_named}
use Rattle.line_filters.proofs.head.HeadMachine.feed.Goals as goal

pub returns-then-is_line_left-clause-ok : goal.returns-then-is_line_left-clause-ok
returns-then-is_line_left-clause-ok c =
    let m = c.args.self.now in
    let at = length m.closed.items in
    let e : c.len-at.result ≡ at = omega (arith, c.len-at.ensures, m.closed.ok) in
    head_goes_on m.progress c.begin.new.self m.names.items m.inputs.items m.closed.items
    c.args._input c.args.piece c.front_lines-end.result.0 c.front_lines-end.result.1
    c.args.out.now c.begin.new.out c.put_front.new.out c.requires m.named
    (presence_is at c.len-at.result c.args._input m.inputs.items c.index.result.now Present
    c.requires e c.index.ensures c.in-Present.is)
    (begins_named m.progress c.begin.new.self at c.len-at.result c.args._input m.names.items
    m.inputs.items c.index-in-Present.result.now c.bytes.result.now c.args.out.now
    c.begin.new.out c.requires m.named e c.index-in-Present.ensures c.bytes.ensures
    c.in_ok-begin-in-Present.ensures.ok)
    (subst (λ (x : List ℕ). FrontLines x c.begin.new.self.left c.front_lines-end.result.0
    c.front_lines-end.result.1) c.bytes-in-Present.ensures.value c.front_lines-end.ensures)
    c.in_ok-put_front-in-Present.ensures.ok

pub returns-in-Missing-clause-ok : goal.returns-in-Missing-clause-ok
returns-in-Missing-clause-ok c =
    let m = c.args.self.now in
    let at = length m.closed.items in
    let e : c.len-at.result ≡ at = omega (arith, c.len-at.ensures, m.closed.ok) in
    head_skips m.progress m.names.items m.inputs.items m.closed.items c.args._input c.args.piece
    c.args.out.now c.requires m.named
    (presence_is at c.len-at.result c.args._input m.inputs.items c.index.result.now Missing
    c.requires e c.index.ensures c.in-Missing.is)

pub returns-in_ok-leave-in-Present-clause-ok : goal.returns-in_ok-leave-in-Present-clause-ok
returns-in_ok-leave-in-Present-clause-ok c =
    let m = c.args.self.now in
    let at = length m.closed.items in
    let e : c.len-at.result ≡ at = omega (arith, c.len-at.ensures, m.closed.ok) in
    let p1 = c.begin.new.self in
    head_left_as m.progress (record p1 { begun = false; left = c.front_lines-end.result.1 })
    c.leave.new.progress m.names.items m.inputs.items m.closed.items c.leave.new.closed.items
    false c.args._input _ _ c.args.out.now c.put_front.new.out c.leave.ensures.progress
    c.in_ok-leave-in-Present.ensures.closed
    (head_leaves m.progress p1 m.names.items m.inputs.items m.closed.items c.args._input
    c.args.piece c.front_lines-end.result.0 c.front_lines-end.result.1 c.args.out.now
    c.begin.new.out c.put_front.new.out c.requires m.named
    (presence_is at c.len-at.result c.args._input m.inputs.items c.index.result.now Present
    c.requires e c.index.ensures c.in-Present.is)
    (begins_named m.progress p1 at c.len-at.result c.args._input m.names.items m.inputs.items
    c.index-in-Present.result.now c.bytes.result.now c.args.out.now c.begin.new.out c.requires
    m.named e c.index-in-Present.ensures c.bytes.ensures c.in_ok-begin-in-Present.ensures.ok)
    (subst (λ (x : List ℕ). FrontLines x p1.left c.front_lines-end.result.0
    c.front_lines-end.result.1) c.bytes-in-Present.ensures.value c.front_lines-end.ensures)
    c.in_ok-put_front-in-Present.ensures.ok (omega arith))
