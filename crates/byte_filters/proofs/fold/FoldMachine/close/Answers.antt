use Rattle.std.proofs.Common.{List, ℕ, ◌++◌, ◌∙◌, ap, subst, sym}
use Rattle.machine.specs.Pieces.{Adds}
use Rattle.machine.specs.declared.protocol.Presence.TheVariants.{Present, Missing}
use Rattle.machine.proofs.Cuts.{contents_added}
use Rattle.commands.specs.Fold.{folded}
use Rattle.byte_filters.proofs.lemmas.FoldMoves.{fold_closes, fold_passes}
use Rattle.machine.proofs.InOrderLaws.{here_is}
use Rattle.byte_filters.proofs.fold.FoldMachine.close.Goals as goal

pub returns-in-Missing-clause-ok : goal.returns-in-Missing-clause-ok
returns-in-Missing-clause-ok c =
    let m = c.args.self.now in
    rw c.next.ensures
    (fold_passes m c.args._input c.clear.new.self.items c.args.out.now c.clear.ensures.items
    c.requires
    (here_is m.inputs.presence m.inputs.at c.here-here.result Missing c.here-here.ensures
    c.in-Missing.is))

pub returns-in_ok-push_bytes-in-Present-clause-ok :
    goal.returns-in_ok-push_bytes-in-Present-clause-ok
returns-in_ok-push_bytes-in-Present-clause-ok c =
    let m = c.args.self.now in
    let made = c.put_end.new.made in
    rw c.next.ensures
    (fold_closes m c.args._input made c.clear-in-Present-2.new.self.items c.args.out.now
    c.push_bytes.new.self
    (sym (c.in_ok-put_end-in-Present.ensures
    ∙ (ap (λ (z : List ℕ). z ++ folded m.spec c.as_slice.result.now) c.clear-in-Present.ensures
    ∙ ap (folded m.spec) c.as_slice.ensures.value)))
    c.clear-in-Present-2.ensures.items c.requires
    (here_is m.inputs.presence m.inputs.at c.here-here.result Present c.here-here.ensures
    c.in-Present.is)
    (contents_added c.args.out.now c.push_bytes.new.self made
    (subst (λ (x : List ℕ). Adds c.args.out.now c.push_bytes.new.self x) c.bytes.ensures
    c.in_ok-push_bytes-in-Present.ensures.ok)))
