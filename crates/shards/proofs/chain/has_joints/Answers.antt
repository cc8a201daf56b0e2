use Rattle.std.proofs.Common.{◌≡◌, ◌∙◌, ap, sym, refl, suc, false, length, arith}
use Rattle.shards.specs.Chains.{joints}
use Rattle.shards.proofs.lemmas.ChainLists.{joints_counted, not_both}
use Rattle.shards.proofs.chain.has_joints.Goals as goal

pub returns-then-count-stages : goal.returns-then-count-stages
returns-then-count-stages c = (
  λ h. absurd (not_both false refl h),
  λ e. absurd (omega (
    arith,
    joints_counted c.args.pipes.now (suc c.args.stages) e,
    c.if-count-stages.true,
  )),
)

pub returns-then-count-stages-ne1 : goal.returns-then-count-stages-ne1
returns-then-count-stages-ne1 c = (
  λ h. absurd (not_both false refl h),
  λ e. absurd (omega (
    arith,
    joints_counted c.args.pipes.now (suc c.args.stages) e,
    c.if-count-stages-ne1.true,
  )),
)

pub returns : goal.returns
returns c =
    let count : length c.args.pipes.now ≡ suc c.args.stages =
    omega (arith, c.if-count-stages.false, c.if-count-stages-ne1.false) in (
      λ h. c.are_joints.ensures.0 h ∙ ap (joints 0) count,
      λ e. c.are_joints.ensures.1 (e ∙ ap (joints 0) (sym count)),
    )
