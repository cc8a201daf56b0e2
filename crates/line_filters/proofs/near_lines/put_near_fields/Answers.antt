use Rattle.std.proofs.Common.{◌≡◌, ◌≤◌, ◌∙◌, ◌++◌, ◌∷◌, ◌-◌, ◌+◌, List, ℕ, None, false, cond, ap}
use Rattle.std.proofs.Common.{refl, sym, subst, length, get_or, take, drop, arith}
use Rattle.std.specs.Prelude.{IfSome}
use Rattle.std.proofs.lemmas.List.{get_or_default, length-take, take_rest}
use Rattle.commands.specs.Cut.{fields}
use Rattle.commands.specs.Selections.{is_selected}
use Rattle.line_filters.specs.declared.steps.Step.{Step}
use Rattle.line_filters.specs.inner.FieldPlaces.{FieldsBefore, FieldsUpTo, IsLed}
use Rattle.line_filters.proofs.lemmas.FieldLaws.{led_fields}
use Rattle.line_filters.proofs.lemmas.StepLaws.{StepsPut, lead_high, no_step, part_put, put_more}
use Rattle.line_filters.proofs.lemmas.StepLaws.{put_over, put_rest, put_short, step_here}
use Rattle.line_filters.proofs.lemmas.StepLaws.{takes_some}
use Rattle.line_filters.proofs.lemmas.WalkedLaws.{as_walked}
use Rattle.line_filters.proofs.near_lines.put_near_fields.Goals as goal

pub returns-in_default-clause-fields : goal.returns-in_default-clause-fields
returns-in_default-clause-fields c =
    let l = c.loop-step in
    let content = take c.args.len c.args.bytes.now in
    let d = c.args.walk.now.byte in
    let selects = is_selected c.args.ranges.now.ranges.items in
    let steps = c.args.ranges.now.steps.items in
    let e : Step = record { skip = 0; take = None } in
    let items = c.as_slice-step-items.result.now in
    let same = c.as_slice-step-items.ensures.value in
    let step = get_or items l.step-index e in
    let read = ap (λ (xs : List Step). get_or xs l.step-index step) (sym same)
    ∙ sym (get_or_default items l.step-index e step c.loop-step-test.true) in
    let p = step_here selects steps l.step-index step d content l.walk.from l.first
    (take c.args.count c.args.few.now) (take l.to l.few)
    (omega (arith, c.loop-step-test.true, ap length same)) read l.invariant.0 in
    put_short selects step (drop (l.step-index + 1) steps) d content l.walk.from l.first
    (take c.args.count c.args.few.now) (take l.to l.few) p
    (as_walked (λ b x k. length (fields b (drop k x)) ≤ step.skip) l.walk content d l.walk.from
    l.invariant.1 l.invariant.2 refl c.in_default.ensures)

pub returns-in_default-step_end-clause-fields : goal.returns-in_default-step_end-clause-fields
returns-in_default-step_end-clause-fields c =
    let l = c.loop-step in
    let bytes = c.args.bytes.now in
    let len = c.args.len in
    let content = take len bytes in
    let long : length content ≡ len =
    omega (arith, c.requires.short, c.requires.bytes, length-take len bytes) in
    let d = c.args.walk.now.byte in
    let selects = is_selected c.args.ranges.now.ranges.items in
    let steps = c.args.ranges.now.steps.items in
    let e : Step = record { skip = 0; take = None } in
    let items = c.as_slice-step-items.result.now in
    let same = c.as_slice-step-items.ensures.value in
    let step = get_or items l.step-index e in
    let read = ap (λ (xs : List Step). get_or xs l.step-index step) (sym same)
    ∙ sym (get_or_default items l.step-index e step c.loop-step-test.true) in
    let p = step_here selects steps l.step-index step d content l.walk.from l.first
    (take c.args.count c.args.few.now) (take l.to l.few)
    (omega (arith, c.loop-step-test.true, ap length same)) read l.invariant.0 in
    let start = c.in-Some.start in
    let b = c.in-Some.ensures in
    let w = c.field_start.new.walk in
    let fb = as_walked (λ x y k. FieldsBefore x step.skip y k start) l.walk content d l.walk.from
    l.invariant.1 l.invariant.2 refl b.0 in
    let within : start ≤ len = omega (arith, fb.within, long) in
    let rest : take (len - start) (drop start content) ≡ drop start content =
    ap (λ (k : ℕ). take (k - start) (drop start content)) (sym long)
    ∙ take_rest content start in
    put_rest selects step (drop (l.step-index + 1) steps) d content l.walk.from start l.first
    (take c.args.count c.args.few.now) (take l.to l.few)
    (take c.copy_near.result c.copy_near.new.few) (omega (arith, long, c.requires.short)) p fb
    (as_walked (λ x y k. IfSome step.take (λ n. length (fields x (drop k y)) ≤ n)) w content d start
    (b.1.bytes ∙ l.invariant.1) (b.1.byte
    ∙ l.invariant.2) b.1.from c.in_default-step_end.ensures)
    (part_put l.first d bytes len start c.lead_of-lead.result len (take l.to l.few)
    (take c.copy_near.result c.copy_near.new.few) c.lead_of-lead.ensures
    (led_fields l.first d content l.walk.from start step.skip l.invariant.3 fb) within
    (omega arith) c.copy_near.ensures.copied
    ∙ ap (λ (x : List ℕ). take l.to l.few ++ cond l.first x (d ∷ x)) rest)

pub loop-step-preserved : goal.loop-step-preserved
loop-step-preserved c =
    let l = c.loop-step in
    let bytes = c.args.bytes.now in
    let len = c.args.len in
    let content = take len bytes in
    let long : length content ≡ len =
    omega (arith, c.requires.short, c.requires.bytes, length-take len bytes) in
    let d = c.args.walk.now.byte in
    let selects = is_selected c.args.ranges.now.ranges.items in
    let steps = c.args.ranges.now.steps.items in
    let e : Step = record { skip = 0; take = None } in
    let items = c.as_slice-step-items.result.now in
    let same = c.as_slice-step-items.ensures.value in
    let step = get_or items l.step-index e in
    let read = ap (λ (xs : List Step). get_or xs l.step-index step) (sym same)
    ∙ sym (get_or_default items l.step-index e step c.loop-step-test.true) in
    let p = step_here selects steps l.step-index step d content l.walk.from l.first
    (take c.args.count c.args.few.now) (take l.to l.few)
    (omega (arith, c.loop-step-test.true, ap length same)) read l.invariant.0 in
    let start = c.in-Some.start in
    let end = c.in-Some-step_end.end in
    let b = c.in-Some.ensures in
    let f = c.in-Some-step_end.ensures in
    let w = c.field_start.new.walk in
    let fb = as_walked (λ x y k. FieldsBefore x step.skip y k start) l.walk content d l.walk.from
    l.invariant.1 l.invariant.2 refl b.0 in
    let fu = as_walked (λ x y k. FieldsUpTo x f.0 y k end) w content d start (b.1.bytes
    ∙ l.invariant.1) (b.1.byte ∙ l.invariant.2) b.1.from f.2 in
    let lead = c.lead_of-lead.result in
    let high : start ≤ lead + 1 = omega (arith, lead_high l.first start, c.lead_of-lead.ensures) in
    let low : end ≤ len = omega (arith, fu.within, long) in
    let order : start ≤ end =
    omega (
      arith,
      fu.many,
      takes_some selects step
          (drop (l.step-index + 1) steps) d content l.walk.from f.0 l.first
          (take c.args.count c.args.few.now) (take l.to l.few) p f.1,
    ) in (
      subst (λ (k : ℕ). StepsPut selects (drop (l.step-index + 1) steps) d content k false
          (take c.args.count c.args.few.now) (take c.copy_near-to.result c.copy_near-to.new.few))
          (sym f.3.from)
          (put_more selects step (drop (l.step-index + 1) steps) d content l.walk.from start end f.0
          l.first (take c.args.count c.args.few.now) (take l.to l.few)
          (take c.copy_near-to.result c.copy_near-to.new.few) p fb f.1 fu
          (part_put l.first d bytes len start lead end (take l.to l.few)
          (take c.copy_near-to.result c.copy_near-to.new.few) c.lead_of-lead.ensures
          (led_fields l.first d content l.walk.from start step.skip l.invariant.3 fb) order low
          c.copy_near-to.ensures.copied)),
      f.3.bytes ∙ (b.1.bytes ∙ l.invariant.1),
      f.3.byte ∙ (b.1.byte ∙ l.invariant.2),
      λ _. subst (IsLed d content) (sym f.3.from) fu.led,
      omega (arith, c.copy_near-to.ensures.end, high, l.invariant.4, f.3.from, fb.many, order),
      c.copy_near-to.ensures.long ∙ l.invariant.5,
    )

pub returns-clause-fields : goal.returns-clause-fields
returns-clause-fields c =
    let l = c.loop-step in
    let content = take c.args.len c.args.bytes.now in
    let selects = is_selected c.args.ranges.now.ranges.items in
    put_over selects c.args.walk.now.byte content l.walk.from l.first
    (take c.args.count c.args.few.now) (take l.to l.few)
    (omega (arith, c.requires.short, length-take c.args.len c.args.bytes.now))
    (no_step selects c.args.ranges.now.steps.items l.step-index c.args.walk.now.byte content
    l.walk.from l.first (take c.args.count c.args.few.now) (take l.to l.few)
    (omega (arith, c.loop-step-test.false, ap length c.as_slice-step-items.ensures.value))
    l.invariant.0)
