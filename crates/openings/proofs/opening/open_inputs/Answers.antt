use Rattle.std.proofs.Common.{[], List, Option, ℕ, None, length, sym, ap, subst, arith, ◌∙◌}
use Rattle.std.proofs.lemmas.Result.{err_from_is_err_and}
use Rattle.openings.specs.inner.LeftParts.{AreWhole, HoldsWhole}
use Rattle.openings.specs.Openings.{OpensFirst}
use Rattle.openings.proofs.AnswerLaws.{at_place}
use Rattle.openings.proofs.lemmas.DestinationLaws.{contents_none, contents_on, input_contents}
use Rattle.openings.proofs.lemmas.FrontLaws.{whole_more, whole_none}
use Rattle.openings.proofs.lemmas.HeldLaws.{inputs_none, inputs_more}
use Rattle.openings.proofs.lemmas.MoreOpenings.{opens_none, input_more, input_fails}
use Rattle.openings.proofs.opening.open_inputs.Goals as goal

pub loop-opening-init : goal.loop-opening-init
loop-opening-init g c = record {
  room = c.requires.room;
  count = omega (arith, ap length c.requires.empty, c.args.answers.now.ok);
  opens = subst (λ (l : List (Option ℕ)). OpensFirst c.args.plan.now l [] None
      (g.F.Files.shows c.args.files.now) (g.F.Files.shows c.args.files.now)) (sym c.requires.empty)
      (opens_none c.args.plan.now (g.F.Files.shows c.args.files.now));
  contents = contents_none (g.F.Files.shows c.args.files.now);
  whole = subst (λ (l : List (Option ℕ)). AreWhole l (g.F.Files.shows c.args.files.now)
      (g.F.Files.shows c.args.files.now)) (sym c.requires.empty)
      (whole_none (g.F.Files.shows c.args.files.now));
  names = c.requires.names;
  held = λ t. subst (λ (l : List (Option ℕ)). HoldsWhole c.args.plan.now l
      (g.F.Files.shows c.args.files.now) (g.F.Files.shows c.args.files.now)) (sym c.requires.empty)
      (inputs_none c.args.plan.now (g.F.Files.shows c.args.files.now)
      (g.F.Files.shows c.args.files.now));
}

pub loop-opening-preserved : goal.loop-opening-preserved
loop-opening-preserved g c = record {
  room = omega arith;
  count = omega arith;
  opens =
      let at = at_place c.inputs-opening-items.result.now c.args.plan.now.inputs
      c.loop-opening.opening-index (length c.loop-opening.answers.items) c.opening-item.result
      c.inputs-opening-items.ensures (omega (arith, c.loop-opening.answers.ok))
      c.loop-opening-test.true c.opening-item.is in
      subst (λ (l : List (Option ℕ)). OpensFirst c.args.plan.now l [] None
      (g.F.Files.shows c.args.files.now) (g.F.Files.shows c.open_input.new.files))
      (sym {A = List (Option ℕ)} c.push_reserved.ensures.items)
      (input_more c.args.plan.now (g.F.Files.shows c.args.files.now)
      (g.F.Files.shows c.loop-opening.files) (g.F.Files.shows c.open_input.new.files)
      c.loop-opening.answers.items c.in_ok-open_input.field-0 c.opening-item.result at
      c.in_ok-open_input.ensures.opens c.loop-opening.invariant.opens);
  contents = contents_on (g.F.Files.shows c.args.files.now) (g.F.Files.shows c.loop-opening.files)
      (g.F.Files.shows c.open_input.new.files) c.loop-opening.invariant.contents
      (input_contents c.opening-item.result (g.F.Files.shows c.loop-opening.files)
      (g.F.Files.shows c.open_input.new.files) c.open_input.result c.open_input.ensures.opens);
  whole = subst (λ (l : List (Option ℕ)). AreWhole l (g.F.Files.shows c.args.files.now)
      (g.F.Files.shows c.open_input.new.files))
      (sym {A = List (Option ℕ)} c.push_reserved.ensures.items)
      (whole_more c.args.plan.now c.loop-opening.answers.items c.opening-item.result
      (g.F.Files.shows c.args.files.now) (g.F.Files.shows c.loop-opening.files)
      (g.F.Files.shows c.open_input.new.files) c.loop-opening.invariant.opens
      c.loop-opening.invariant.whole c.in_ok-open_input.field-0
      c.in_ok-open_input.ensures.opens);
  names = c.in_ok-open_input.ensures.names ∙ c.loop-opening.invariant.names;
  held = λ t.
      let at = at_place c.inputs-opening-items.result.now c.args.plan.now.inputs
      c.loop-opening.opening-index (length c.loop-opening.answers.items) c.opening-item.result
      c.inputs-opening-items.ensures (omega (arith, c.loop-opening.answers.ok))
      c.loop-opening-test.true c.opening-item.is in
      subst (λ (l : List (Option ℕ)). HoldsWhole c.args.plan.now l
      (g.F.Files.shows c.args.files.now) (g.F.Files.shows c.open_input.new.files))
      (sym {A = List (Option ℕ)} c.push_reserved.ensures.items)
      (inputs_more c.args.plan.now c.loop-opening.answers.items c.opening-item.result
      (g.F.Files.shows c.args.files.now) (g.F.Files.shows c.loop-opening.files)
      (g.F.Files.shows c.open_input.new.files)
      at c.loop-opening.invariant.opens c.loop-opening.invariant.contents
      (c.loop-opening.invariant.held t) c.in_ok-open_input.field-0
      c.in_ok-open_input.ensures.opens (c.in_ok-open_input.ensures.held t));
}

pub returns-in_err-open_input-clause-err : goal.returns-in_err-open_input-clause-err
returns-in_err-open_input-clause-err g c =
    let at = at_place c.inputs-opening-items.result.now c.args.plan.now.inputs
    c.loop-opening.opening-index (length c.loop-opening.answers.items) c.opening-item.result
    c.inputs-opening-items.ensures (omega (arith, c.loop-opening.answers.ok))
    c.loop-opening-test.true c.opening-item.is in
    let p = err_from_is_err_and c.from_residual.result c.from_residual.ensures.1 in
    rw (p.1, p.2) (input_fails c.args.plan.now (g.F.Files.shows c.args.files.now)
    (g.F.Files.shows c.loop-opening.files) (g.F.Files.shows c.open_input.new.files)
    c.loop-opening.answers.items c.opening-item.result c.in_err-open_input.field-0.0 at
    c.in_err-open_input.ensures.opens c.loop-opening.invariant.opens
    (contents_on (g.F.Files.shows c.args.files.now) (g.F.Files.shows c.loop-opening.files)
    (g.F.Files.shows c.open_input.new.files) c.loop-opening.invariant.contents
    (input_contents c.opening-item.result (g.F.Files.shows c.loop-opening.files)
    (g.F.Files.shows c.open_input.new.files) c.open_input.result c.open_input.ensures.opens)))

pub returns-in_err-open_input-clause-contents : goal.returns-in_err-open_input-clause-contents
returns-in_err-open_input-clause-contents g c =
    contents_on (g.F.Files.shows c.args.files.now) (g.F.Files.shows c.loop-opening.files)
    (g.F.Files.shows c.open_input.new.files) c.loop-opening.invariant.contents
    (input_contents c.opening-item.result (g.F.Files.shows c.loop-opening.files)
    (g.F.Files.shows c.open_input.new.files) c.open_input.result c.open_input.ensures.opens)
