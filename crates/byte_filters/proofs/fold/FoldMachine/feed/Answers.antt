use Rattle.std.proofs.Common.{List, ℕ, ap, subst}
use Rattle.std.specs.Global.{Vec}
use Rattle.machine.specs.Pieces.{Adds}
use Rattle.machine.specs.declared.protocol.Presence.TheVariants.{Present, Missing}
use Rattle.machine.proofs.Cuts.{contents_added}
use Rattle.byte_filters.proofs.lemmas.FoldMoves.{fold_feeds, fold_skips}
use Rattle.machine.proofs.InOrderLaws.{here_is}
use Rattle.byte_filters.proofs.fold.FoldMachine.feed.Goals as goal

pub returns-in-Missing-clause-ok : goal.returns-in-Missing-clause-ok
returns-in-Missing-clause-ok c =
    let m = c.args.self.now in
    fold_skips m c.args._input c.args.piece c.args.out.now c.requires
    (here_is m.inputs.presence m.inputs.at c.here.result Missing c.here.ensures c.in-Missing.is)

pub returns-clause-ok : goal.returns-clause-ok
returns-clause-ok c =
    let m = c.args.self.now in
    let t = c.take_bytes.new in
    fold_feeds m c.args._input c.args.piece c.bytes.result.now c.replace-held.result.items
    t.held.items t.made c.clear.new.self c.args.out.now c.push_bytes.new.self
    c.bytes.ensures.value
    (ap (λ (z : Vec ℕ). z.items) c.replace-held.ensures.value) c.clear.ensures
    c.in_ok-self-in-Present.ensures.folds c.requires
    (here_is m.inputs.presence m.inputs.at c.here.result Present c.here.ensures c.in-Present.is)
    (contents_added c.args.out.now c.push_bytes.new.self t.made
    (subst (λ (x : List ℕ). Adds c.args.out.now c.push_bytes.new.self x)
    c.bytes-in-Present.ensures c.in_ok-push_bytes-in-Present.ensures.ok))
