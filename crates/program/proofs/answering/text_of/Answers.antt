use Rattle.std.proofs.Common.{subst, sym}
use Rattle.program.specs.Runs.{HasForm}
use Rattle.program.specs.declared.ending.Refusal.TheVariants as refusal
use Rattle.program.specs.inner.Texts.{LacksText}
use Rattle.program.proofs.lemmas.ShowLaws.{in_any_case, lacks_memory, lacks_shards}
use Rattle.program.proofs.answering.text_of.Goals as goal

pub returns-in-Lines-clause-has : goal.returns-in-Lines-clause-has
returns-in-Lines-clause-has c = in_any_case c.printed.result
    (λ text. subst (λ form. HasForm c.args.plan.now form text) (sym c.in-Lines.is) tt)

pub returns-in-Lines-clause-cause : goal.returns-in-Lines-clause-cause
returns-in-Lines-clause-cause c =
    lacks_memory c.args.form c.args.script.now c.args.plan.now c.printed.result c.printed.ensures

pub returns-in-Full-clause-has : goal.returns-in-Full-clause-has
returns-in-Full-clause-has c = in_any_case c.printed-in-Full.result
    (λ text. subst (λ form. HasForm c.args.plan.now form text) (sym c.in-Full.is) tt)

pub returns-in-Full-clause-cause : goal.returns-in-Full-clause-cause
returns-in-Full-clause-cause c =
    lacks_memory c.args.form c.args.script.now c.args.plan.now c.printed-in-Full.result
    c.printed-in-Full.ensures

pub returns-in-Json-clause-has : goal.returns-in-Json-clause-has
returns-in-Json-clause-has c = in_any_case c.printed-in-Json.result
    (λ text. subst (λ form. HasForm c.args.plan.now form text) (sym c.in-Json.is) tt)

pub returns-in-Json-clause-cause : goal.returns-in-Json-clause-cause
returns-in-Json-clause-cause c =
    lacks_memory c.args.form c.args.script.now c.args.plan.now c.printed-in-Json.result
    c.printed-in-Json.ensures

pub returns-in-Dot-clause-has : goal.returns-in-Dot-clause-has
returns-in-Dot-clause-has c = in_any_case c.printed-in-Dot.result
    (λ text. subst (λ form. HasForm c.args.plan.now form text) (sym c.in-Dot.is) tt)

pub returns-in-Dot-clause-cause : goal.returns-in-Dot-clause-cause
returns-in-Dot-clause-cause c =
    lacks_memory c.args.form c.args.script.now c.args.plan.now c.printed-in-Dot.result
    c.printed-in-Dot.ensures

pub returns-in-Ok-clause-has : goal.returns-in-Ok-clause-has
returns-in-Ok-clause-has c = subst (λ form. HasForm c.args.plan.now form c.in-Ok.text.items)
    (sym c.in-Shards.is) c.in-Ok.ensures.has

pub returns-in-Err-clause-cause : goal.returns-in-Err-clause-cause
returns-in-Err-clause-cause c =
    subst (λ form. LacksText form c.args.script.now c.args.plan.now (refusal.Shards c.in-Err.fault))
    (sym c.in-Shards.is)
    (lacks_shards c.in-Shards.shards c.args.script.now c.args.plan.now c.in-Err.fault
    c.in-Err.ensures.cause)
