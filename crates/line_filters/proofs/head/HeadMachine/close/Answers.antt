use Rattle.std.proofs.Common.{arith, true, false, length, ◌≡◌}
use Rattle.machine.specs.declared.protocol.Presence.TheVariants.{Present, Missing}
use Rattle.line_filters.proofs.lemmas.HeadLaws.{head_ends, head_passes, head_left_as, presence_is}
use Rattle.line_filters.proofs.lemmas.HeadLaws.{begins_named}
use Rattle.line_filters.proofs.head.HeadMachine.close.Goals as goal

pub returns-in_ok-leave-in-Missing-clause-ok : goal.returns-in_ok-leave-in-Missing-clause-ok
returns-in_ok-leave-in-Missing-clause-ok c =
    let m = c.args.self.now in
    let at = length m.closed.items in
    let e : c.len-at.result ≡ at = omega (arith, c.len-at.ensures, m.closed.ok) in
    head_left_as m.progress (record m.progress { begun = false }) c.leave.new.progress m.names.items
    m.inputs.items m.closed.items c.leave.new.closed.items true c.args._input _ _ c.args.out.now
    c.args.out.now c.leave.ensures.progress c.in_ok-leave-in-Missing.ensures.closed
    (head_passes m.progress m.names.items m.inputs.items m.closed.items c.args._input c.args.out.now
    c.requires m.named
    (presence_is at c.len-at.result c.args._input m.inputs.items c.index.result.now Missing
    c.requires e c.index.ensures c.in-Missing.is))

pub returns-in_ok-leave-in-Present-clause-ok : goal.returns-in_ok-leave-in-Present-clause-ok
returns-in_ok-leave-in-Present-clause-ok c =
    let m = c.args.self.now in
    let at = length m.closed.items in
    let e : c.len-at.result ≡ at = omega (arith, c.len-at.ensures, m.closed.ok) in
    let p1 = c.begin.new.self in
    head_left_as m.progress (record p1 { begun = false }) c.leave-in-Present.new.progress
    m.names.items m.inputs.items m.closed.items c.leave-in-Present.new.closed.items true
    c.args._input _ _ c.args.out.now c.begin.new.out c.leave-in-Present.ensures.progress
    c.in_ok-leave-in-Present.ensures.closed
    (head_ends m.progress p1 m.names.items m.inputs.items m.closed.items c.args._input
    c.args.out.now c.begin.new.out c.requires m.named
    (presence_is at c.len-at.result c.args._input m.inputs.items c.index.result.now Present
    c.requires e c.index.ensures c.in-Present.is)
    (begins_named m.progress p1 at c.len-at.result c.args._input m.names.items m.inputs.items
    c.index-in-Present.result.now c.bytes.result.now c.args.out.now c.begin.new.out c.requires
    m.named e c.index-in-Present.ensures c.bytes.ensures c.in_ok-begin-in-Present.ensures.ok))
