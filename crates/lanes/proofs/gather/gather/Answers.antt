use Rattle.std.proofs.Common.{◌∙◌}
use Rattle.lanes.proofs.lemmas.GatherLaws.{gathered_more, gathered_all}
use Rattle.lanes.proofs.gather.gather.Goals as goal

pub runs-preserved : goal.runs-preserved
runs-preserved c =
    let l = c.runs in
    let place = c.lowest-place.result in (
      c.copy_run.ensures.long ∙ l.invariant.0,
      gathered_more c.args.bytes.now l.few c.copy_run.new.few c.args.at c.args.gone l.left
          c.without-left.result l.from l.to place c.requires.bytes (l.invariant.0
          ∙ c.requires.few) c.lowest-place.ensures.bound c.lowest-place.ensures.set
          c.lowest-place.ensures.below c.copy_run.ensures.copied c.without-left.ensures.kept
          c.without-left.ensures.gone l.invariant.1,
    )

pub returns-clause-left : goal.returns-clause-left
returns-clause-left c =
    let l = c.runs in
    gathered_all c.args.bytes.now l.few c.copy_run-2.new.few c.args.at c.args.gone l.left l.from
    l.to c.requires.bytes (l.invariant.0
    ∙ c.requires.few) c.runs-test.false c.copy_run-2.ensures.copied l.invariant.1
