use Rattle.std.proofs.Common.{◌<◌, ap, ◌∙◌, get_or, set, length, arith}
use Rattle.std.proofs.lemmas.List.{get_or_default}
use Rattle.std.proofs.lemmas.List.Edits.{map_over_more}
use Rattle.splice_tee.specs.BranchStates.{lacking_again}
use Rattle.splice_tee.specs.declared.branches.Served.TheVariants as is
use Rattle.splice_tee.proofs.branches.Branches.next_piece.Goals as goal

pub loop-served-preserved : goal.loop-served-preserved
loop-served-preserved c =
    let e = c.deref_mut-served-items.ensures.value ∙ c.self.view_is in
    let n = c.loop-served.served-index in
    let xs = c.loop-served.served-items in
    let x = get_or xs n is.Lacks in
    let l : n < length c.args.self.now = omega (arith, ap length e, c.loop-served-test.true) in
    let m : n < length xs =
    omega (arith, c.loop-served.auto.served-items, c.loop-served-test.true) in
    ap (set xs n) c.again.ensures
    ∙ map_over_more lacking_again c.args.self.now xs n x l c.loop-served.invariant
    (get_or_default xs n is.Lacks x m)
