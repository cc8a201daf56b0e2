use Rattle.std.proofs.Common.{sym, ◌∙◌, subst, arith}
use Rattle.std.proofs.lemmas.Bool.{false≢true}
use Rattle.std.proofs.lemmas.List.{take_all}
use Rattle.planner.specs.Faults.{PutsIntoFifo, EndsInFifo}
use Rattle.planner.proofs.lemmas.MeetLaws.{none_more}
use Rattle.planner.proofs.checks.ends_in_fifo.Goals as goal

pub loop-stage-preserved : goal.loop-stage-preserved
loop-stage-preserved c =
    let not = λ (p : PutsIntoFifo c.args.fifos.now c.stage-item.result). false≢true
    (sym c.if-branch.false ∙ c.in_ok-puts_into_fifo.ensures.1 p) in
    none_more (PutsIntoFifo c.args.fifos.now) c.args.stages.now c.loop-stage.stage-index
    c.stage-item.result c.loop-stage-test.true c.stage-item.is not c.loop-stage.invariant

pub returns : goal.returns
returns c = (
  λ h. absurd (false≢true h),
  λ p. absurd (c.loop-stage.invariant
      (subst (λ ss. EndsInFifo c.args.fifos.now ss)
      (sym (take_all c.loop-stage.stage-index c.args.stages.now (omega arith))) p)),
)
