use Rattle.std.proofs.Common.{List, ℕ, None, length, sym, ap, subst, arith, ◌∙◌}
use Rattle.std.proofs.lemmas.Result.{err_from_is_err_and}
use Rattle.collector.proofs.TouchLaws.{held_none, held_on}
use Rattle.openings.specs.Openings.{OpensFirst}
use Rattle.openings.proofs.AnswerLaws.{at_place}
use Rattle.openings.specs.Destinations.{OpensDestinations}
use Rattle.openings.proofs.lemmas.DestinationLaws.{destinations_none, destinations_more}
use Rattle.openings.proofs.lemmas.DestinationLaws.{destinations_from, failed_output}
use Rattle.openings.proofs.lemmas.HeldLaws.{output_held}
use Rattle.openings.proofs.lemmas.MoreOpenings.{output_more, output_fails}
use Rattle.openings.proofs.opening.open_outputs.Goals as goal

pub loop-opening-init : goal.loop-opening-init
loop-opening-init g c = record {
  room = c.requires.room;
  count = omega (arith, ap length c.requires.empty, c.args.answers.now.ok);
  opens = λ first inputs full was. subst
      (λ (l : List ℕ). OpensFirst c.args.plan.now inputs l None first
      (g.F.Files.shows c.args.files.now)) (sym c.requires.empty) was;
  holds = λ t. subst (λ (l : List ℕ). OpensDestinations c.args.plan.now.outputs l
      (g.F.Files.shows c.args.files.now) (g.F.Files.shows c.args.files.now)) (sym c.requires.empty)
      (destinations_none c.args.plan.now.outputs (g.F.Files.shows c.args.files.now));
  held = held_none (g.F.Files.shows c.args.files.now);
  names = c.requires.names;
}

pub loop-opening-preserved : goal.loop-opening-preserved
loop-opening-preserved g c = record {
  room = omega arith;
  count = omega arith;
  opens = λ first inputs full was.
      let at = at_place c.outputs-opening-items.result.now c.args.plan.now.outputs
      c.loop-opening.opening-index (length c.loop-opening.answers.items) c.opening-item.result
      c.outputs-opening-items.ensures (omega (arith, c.loop-opening.answers.ok))
      c.loop-opening-test.true c.opening-item.is in
      subst (λ (l : List ℕ). OpensFirst c.args.plan.now inputs l None first
      (g.F.Files.shows c.open_output.new.files))
      (sym {A = List ℕ} c.push_reserved.ensures.items)
      (output_more c.args.plan.now first (g.F.Files.shows c.loop-opening.files)
      (g.F.Files.shows c.open_output.new.files)
      inputs c.loop-opening.answers.items c.in_ok-open_output.field-0 c.opening-item.result full at
      c.in_ok-open_output.ensures.opens (c.loop-opening.invariant.opens first inputs full was));
  holds = λ t.
      let at = at_place c.outputs-opening-items.result.now c.args.plan.now.outputs
      c.loop-opening.opening-index (length c.loop-opening.answers.items) c.opening-item.result
      c.outputs-opening-items.ensures (omega (arith, c.loop-opening.answers.ok))
      c.loop-opening-test.true c.opening-item.is in
      subst (λ (l : List ℕ). OpensDestinations c.args.plan.now.outputs l
      (g.F.Files.shows c.args.files.now) (g.F.Files.shows c.open_output.new.files))
      (sym {A = List ℕ} c.push_reserved.ensures.items)
      (destinations_more c.args.plan.now.outputs c.loop-opening.answers.items
      c.in_ok-open_output.field-0 c.opening-item.result (g.F.Files.shows c.args.files.now)
      (g.F.Files.shows c.loop-opening.files) (g.F.Files.shows c.open_output.new.files)
      at c.in_ok-open_output.ensures.opens (c.in_ok-open_output.ensures.holds t)
      (c.loop-opening.invariant.holds t));
  held = held_on (g.F.Files.shows c.args.files.now) (g.F.Files.shows c.loop-opening.files)
      (g.F.Files.shows c.open_output.new.files) c.loop-opening.invariant.held
      (output_held c.opening-item.result (g.F.Files.shows c.loop-opening.files)
      (g.F.Files.shows c.open_output.new.files) c.open_output.result
      c.open_output.ensures.opens);
  names = c.in_ok-open_output.ensures.names ∙ c.loop-opening.invariant.names;
}

pub returns-in_err-open_output-clause-err : goal.returns-in_err-open_output-clause-err
returns-in_err-open_output-clause-err g c =
    let at = at_place c.outputs-opening-items.result.now c.args.plan.now.outputs
    c.loop-opening.opening-index (length c.loop-opening.answers.items) c.opening-item.result
    c.outputs-opening-items.ensures (omega (arith, c.loop-opening.answers.ok))
    c.loop-opening-test.true c.opening-item.is in
    let p = err_from_is_err_and c.from_residual.result c.from_residual.ensures.1 in
    let mid = g.F.Files.shows c.loop-opening.files in
    let now = g.F.Files.shows c.open_output.new.files in
    rw (p.1, p.2)
    (λ strict first inputs full none was same. output_fails c.args.plan.now first mid now
    g.F.Files.contents_known strict inputs c.loop-opening.answers.items c.opening-item.result
    c.in_err-open_output.field-0.0 full none at c.in_err-open_output.ensures.opens
    (c.loop-opening.invariant.opens first inputs full was)
    (λ t. destinations_from c.args.plan.now.outputs c.loop-opening.answers.items first
    (g.F.Files.shows c.args.files.now) now same
    (failed_output c.args.plan.now.outputs c.loop-opening.answers.items c.opening-item.result
    c.in_err-open_output.field-0.0 (g.F.Files.shows c.args.files.now) mid now
    (c.loop-opening.invariant.holds t) c.in_err-open_output.ensures.opens)))

pub returns-in_err-open_output-clause-held : goal.returns-in_err-open_output-clause-held
returns-in_err-open_output-clause-held g c =
    held_on (g.F.Files.shows c.args.files.now) (g.F.Files.shows c.loop-opening.files)
    (g.F.Files.shows c.open_output.new.files) c.loop-opening.invariant.held
    (output_held c.opening-item.result (g.F.Files.shows c.loop-opening.files)
    (g.F.Files.shows c.open_output.new.files) c.open_output.result c.open_output.ensures.opens)
