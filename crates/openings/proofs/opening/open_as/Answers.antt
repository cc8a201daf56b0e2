use Rattle.std.proofs.Common.{◌∙◌, ℕ, List, Option, [], true, length, ap, arith, inl, inr, subst}
use Rattle.std.proofs.Common.{sym}
use Rattle.std.specs.List.{slice_get}
use Rattle.std.proofs.lemmas.Result.{err_from_is_err_and}
use Rattle.openings.specs.Answers.{missing_places}
use Rattle.openings.specs.Openings.{NamesMissing}
use Rattle.openings.specs.declared.fault.OpenFault.TheVariants as fault
use Rattle.openings.proofs.lemmas.MoreOpenings.{all_unwritten, lacks_operand, nothing_tried}
use Rattle.openings.proofs.lemmas.MoreOpenings.{opens_unwritten}
use Rattle.openings.proofs.lemmas.DestinationLaws.{ahead_leaves, contents_none, destinations_from}
use Rattle.openings.proofs.lemmas.DestinationLaws.{destinations_still}
use Rattle.openings.proofs.lemmas.FrontLaws.{fronts_left, whole_still}
use Rattle.openings.proofs.lemmas.HeldLaws.{inputs_still}
use Rattle.openings.proofs.lemmas.PartLaws.{inputs_left, new_unread, opens_still}
use Rattle.openings.specs.inner.LeftParts.{AreUnread, LeavesParts}
use Rattle.openings.specs.inner.Needs.{AreNeeds}
use Rattle.openings.proofs.opening.open_as.Goals as goal

pub returns-in_err-needs-clause-opens : goal.returns-in_err-needs-clause-opens
returns-in_err-needs-clause-opens g c =
    let s = g.F.Files.shows c.args.files.now in
    let p = err_from_is_err_and c.from_residual.result c.from_residual.ensures.1 in
    rw (p.1, p.2)
    (inl (ahead_leaves c.args.strict c.args.plan.now s s fault.NoMemory
    (nothing_tried c.args.plan.now s (contents_none s))).0)

pub returns-in_err-needs-clause-refused : goal.returns-in_err-needs-clause-refused
returns-in_err-needs-clause-refused g c = λ t.
    let s = g.F.Files.shows c.args.files.now in
    let p = err_from_is_err_and c.from_residual.result c.from_residual.ensures.1 in
    rw (p.1, p.2)
    (inl (ahead_leaves c.args.strict c.args.plan.now s s fault.NoMemory
    (nothing_tried c.args.plan.now s (contents_none s))))

pub returns-in_err-tables-clause-opens : goal.returns-in_err-tables-clause-opens
returns-in_err-tables-clause-opens g c =
    let s = g.F.Files.shows c.args.files.now in
    let p = err_from_is_err_and c.from_residual-in_err-tables.result
    c.from_residual-in_err-tables.ensures.1 in
    rw (p.1, p.2)
    (inl (ahead_leaves c.args.strict c.args.plan.now s s fault.NoMemory
    (nothing_tried c.args.plan.now s (contents_none s))).0)

pub returns-in_err-tables-clause-refused : goal.returns-in_err-tables-clause-refused
returns-in_err-tables-clause-refused g c = λ t.
    let s = g.F.Files.shows c.args.files.now in
    let p = err_from_is_err_and c.from_residual-in_err-tables.result
    c.from_residual-in_err-tables.ensures.1 in
    rw (p.1, p.2)
    (inl (ahead_leaves c.args.strict c.args.plan.now s s fault.NoMemory
    (nothing_tried c.args.plan.now s (contents_none s))))

pub returns-in_err-names-clause-opens : goal.returns-in_err-names-clause-opens
returns-in_err-names-clause-opens g c =
    let s = g.F.Files.shows c.args.files.now in
    let p = err_from_is_err_and c.from_residual-in_err-names.result
    c.from_residual-in_err-names.ensures.1 in
    rw (p.1, p.2)
    (inl (ahead_leaves c.args.strict c.args.plan.now s s fault.NoMemory
    (nothing_tried c.args.plan.now s (contents_none s))).0)

pub returns-in_err-names-clause-refused : goal.returns-in_err-names-clause-refused
returns-in_err-names-clause-refused g c = λ t.
    let s = g.F.Files.shows c.args.files.now in
    let p = err_from_is_err_and c.from_residual-in_err-names.result
    c.from_residual-in_err-names.ensures.1 in
    rw (p.1, p.2)
    (inl (ahead_leaves c.args.strict c.args.plan.now s s fault.NoMemory
    (nothing_tried c.args.plan.now s (contents_none s))))

pub returns-in_err-open_inputs-clause-opens : goal.returns-in_err-open_inputs-clause-opens
returns-in_err-open_inputs-clause-opens g c =
    let p = err_from_is_err_and c.from_residual-in_err-open_inputs.result
    c.from_residual-in_err-open_inputs.ensures.1 in
    rw (p.1, p.2)
    (inl (ahead_leaves c.args.strict c.args.plan.now (g.F.Files.shows c.args.files.now)
    (g.F.Files.shows c.open_inputs.new.files) c.in_err-open_inputs.field-0.0
    c.in_err-open_inputs.ensures.err).0)

pub returns-in_err-open_inputs-clause-refused : goal.returns-in_err-open_inputs-clause-refused
returns-in_err-open_inputs-clause-refused g c = λ t.
    let p = err_from_is_err_and c.from_residual-in_err-open_inputs.result
    c.from_residual-in_err-open_inputs.ensures.1 in
    rw (p.1, p.2)
    (inl (ahead_leaves c.args.strict c.args.plan.now (g.F.Files.shows c.args.files.now)
    (g.F.Files.shows c.open_inputs.new.files) c.in_err-open_inputs.field-0.0
    c.in_err-open_inputs.ensures.err))

pub returns-in_err-open_inputs-clause-written : goal.returns-in_err-open_inputs-clause-written
returns-in_err-open_inputs-clause-written g c =
    let ahead = c.in_err-open_inputs.ensures.err in
    all_unwritten true c.args.plan.now (g.F.Files.shows c.args.files.now)
    (g.F.Files.shows c.open_inputs.new.files) c.in_err-open_inputs.field-0.0 ahead.fails

pub returns-in_err-refuse_missing-clause-opens : goal.returns-in_err-refuse_missing-clause-opens
returns-in_err-refuse_missing-clause-opens g c =
    let p = err_from_is_err_and c.from_residual-in_err-refuse_missing.result
    c.from_residual-in_err-refuse_missing.ensures.1 in
    let lacks = c.in_err-refuse_missing.ensures.err in
    rw (p.1, p.2) (inr (
      lacks.0,
      lacks_operand c.args.plan.now c.open_inputs.new.answers.items
          (g.F.Files.shows c.args.files.now)
          (g.F.Files.shows c.open_inputs.new.files) c.in_err-refuse_missing.field-0.0
          c.in_ok-open_inputs.ensures.count c.in_ok-open_inputs.ensures.ok
          c.in_ok-open_inputs.ensures.contents
          (subst (λ l. NamesMissing c.args.plan.now l c.in_err-refuse_missing.field-0.0)
          c.as_slice.ensures.value lacks.1),
    ))

pub returns-in_err-refuse_missing-clause-refused : goal.returns-in_err-refuse_missing-clause-refused
returns-in_err-refuse_missing-clause-refused g c = λ t.
    let p = err_from_is_err_and c.from_residual-in_err-refuse_missing.result
    c.from_residual-in_err-refuse_missing.ensures.1 in
    let lacks = c.in_err-refuse_missing.ensures.err in
    rw (p.1, p.2) (inr (
      lacks.0,
      lacks_operand c.args.plan.now c.open_inputs.new.answers.items
          (g.F.Files.shows c.args.files.now)
          (g.F.Files.shows c.open_inputs.new.files) c.in_err-refuse_missing.field-0.0
          c.in_ok-open_inputs.ensures.count c.in_ok-open_inputs.ensures.ok
          c.in_ok-open_inputs.ensures.contents
          (subst (λ l. NamesMissing c.args.plan.now l c.in_err-refuse_missing.field-0.0)
          c.as_slice.ensures.value lacks.1),
    ))

pub returns-in_err-refuse_missing-clause-written : goal.returns-in_err-refuse_missing-clause-written
returns-in_err-refuse_missing-clause-written g c =
    let opens = c.in_ok-open_inputs.ensures.ok in
    opens_unwritten (slice_get []) (g.F.Files.shows c.args.files.now)
    (g.F.Files.shows c.open_inputs.new.files) opens.output_logs

pub returns-in_err-open_outputs-clause-opens : goal.returns-in_err-open_outputs-clause-opens
returns-in_err-open_outputs-clause-opens g c =
    let p = err_from_is_err_and c.from_residual-in_err-open_outputs.result
    c.from_residual-in_err-open_outputs.ensures.1 in
    rw (p.1, p.2)
    (inl (c.in_err-open_outputs.ensures.err c.args.strict
    (g.F.Files.shows c.args.files.now) c.open_inputs.new.answers.items
    c.in_ok-open_inputs.ensures.count
    (λ t. ap missing_places (sym c.as_slice.ensures.value)
    ∙ c.in_ok-refuse_missing.ensures.ok t) c.in_ok-open_inputs.ensures.ok
    c.in_ok-open_inputs.ensures.contents).0)

pub returns-in_err-open_outputs-clause-refused : goal.returns-in_err-open_outputs-clause-refused
returns-in_err-open_outputs-clause-refused g c = λ t.
    let p = err_from_is_err_and c.from_residual-in_err-open_outputs.result
    c.from_residual-in_err-open_outputs.ensures.1 in
    let fails = c.in_err-open_outputs.ensures.err c.args.strict
    (g.F.Files.shows c.args.files.now) c.open_inputs.new.answers.items
    c.in_ok-open_inputs.ensures.count
    (λ u. ap missing_places (sym c.as_slice.ensures.value)
    ∙ c.in_ok-refuse_missing.ensures.ok u) c.in_ok-open_inputs.ensures.ok
    c.in_ok-open_inputs.ensures.contents in
    rw (p.1, p.2) (inl (fails.0, fails.1 t))

pub returns-in_err-open_outputs-clause-written : goal.returns-in_err-open_outputs-clause-written
returns-in_err-open_outputs-clause-written g c =
    let fails = c.in_err-open_outputs.ensures.err c.args.strict
    (g.F.Files.shows c.args.files.now) c.open_inputs.new.answers.items
    c.in_ok-open_inputs.ensures.count
    (λ t. ap missing_places (sym c.as_slice.ensures.value)
    ∙ c.in_ok-refuse_missing.ensures.ok t) c.in_ok-open_inputs.ensures.ok
    c.in_ok-open_inputs.ensures.contents in
    all_unwritten c.args.strict c.args.plan.now (g.F.Files.shows c.args.files.now)
    (g.F.Files.shows c.open_outputs.new.files) c.in_err-open_outputs.field-0.0 fails.0

pub leave_out_parts-requires-clause-needs : goal.leave_out_parts-requires-clause-needs
leave_out_parts-requires-clause-needs g c =
    subst (AreNeeds c.args.plan.now) (sym c.as_slice-2.ensures.value) c.in_ok-needs.ensures

pub leave_out_parts-requires-clause-unread : goal.leave_out_parts-requires-clause-unread
leave_out_parts-requires-clause-unread g c =
    let opens = c.in_ok-open_outputs.ensures.ok
    (g.F.Files.shows c.args.files.now) c.open_inputs.new.answers.items
    c.in_ok-open_inputs.ensures.count c.in_ok-open_inputs.ensures.ok in
    subst (λ (l : List (Option ℕ)). AreUnread l (g.F.Files.shows c.open_outputs.new.files))
    (sym c.as_slice-3.ensures.value)
    (new_unread c.args.plan.now c.open_inputs.new.answers.items c.open_outputs.new.answers.items
    (g.F.Files.shows c.args.files.now) (g.F.Files.shows c.open_outputs.new.files) opens)

pub returns-clause-opens : goal.returns-clause-opens
returns-clause-opens g c = (
  record {
    inputs = ap length c.filled.ensures.inputs ∙ c.in_ok-open_inputs.ensures.count;
    outputs = ap length c.filled.ensures.outputs ∙ c.in_ok-open_outputs.ensures.count;
    opens =
        let mid = g.F.Files.shows c.open_outputs.new.files in
        let now = g.F.Files.shows c.leave_out_parts.new.files in
        let fronts =
        subst (λ (l : List (Option ℕ)). LeavesParts c.args.plan.now l (length l) mid now)
        c.as_slice-3.ensures.value c.leave_out_parts.ensures in
        rw (c.filled.ensures.inputs, c.filled.ensures.outputs)
        (opens_still c.args.plan.now c.open_inputs.new.answers.items
        (g.F.Files.shows c.args.files.now) mid now
        (length c.open_inputs.new.answers.items) fronts c.open_outputs.new.answers.items
        (c.in_ok-open_outputs.ensures.ok (g.F.Files.shows c.args.files.now)
        c.open_inputs.new.answers.items c.in_ok-open_inputs.ensures.count
        c.in_ok-open_inputs.ensures.ok));
    own = c.filled.ensures.own;
  },
  λ t. ap missing_places c.filled.ensures.inputs ∙ ap missing_places (sym c.as_slice.ensures.value)
      ∙ c.in_ok-refuse_missing.ensures.ok t,
)

pub returns-clause-written : goal.returns-clause-written
returns-clause-written g c =
    let mid = g.F.Files.shows c.open_outputs.new.files in
    let now = g.F.Files.shows c.leave_out_parts.new.files in
    let fronts = subst (λ (l : List (Option ℕ)). LeavesParts c.args.plan.now l (length l) mid now)
    c.as_slice-3.ensures.value c.leave_out_parts.ensures in
    let opens = opens_still c.args.plan.now c.open_inputs.new.answers.items
    (g.F.Files.shows c.args.files.now) mid now
    (length c.open_inputs.new.answers.items) fronts c.open_outputs.new.answers.items
    (c.in_ok-open_outputs.ensures.ok (g.F.Files.shows c.args.files.now)
    c.open_inputs.new.answers.items c.in_ok-open_inputs.ensures.count
    c.in_ok-open_inputs.ensures.ok) in
    opens_unwritten (slice_get c.open_outputs.new.answers.items)
    (g.F.Files.shows c.args.files.now) now opens.output_logs

pub returns-clause-holds : goal.returns-clause-holds
returns-clause-holds g c = λ t.
    let mid = g.F.Files.shows c.open_outputs.new.files in
    let now = g.F.Files.shows c.leave_out_parts.new.files in
    rw c.filled.ensures.outputs
    (destinations_still c.args.plan.now.outputs c.open_outputs.new.answers.items
    (g.F.Files.shows c.args.files.now) mid now
    (destinations_from c.args.plan.now.outputs c.open_outputs.new.answers.items
    (g.F.Files.shows c.args.files.now) (g.F.Files.shows c.open_inputs.new.files) mid
    c.in_ok-open_inputs.ensures.contents (c.in_ok-open_outputs.ensures.holds t))
    c.leave_out_parts.ensures.contents c.leave_out_parts.ensures.outputs)

pub returns-clause-fronts : goal.returns-clause-fronts
returns-clause-fronts g c =
    let mid = g.F.Files.shows c.open_outputs.new.files in
    let now = g.F.Files.shows c.leave_out_parts.new.files in
    let fronts = subst (λ (l : List (Option ℕ)). LeavesParts c.args.plan.now l (length l) mid now)
    c.as_slice-3.ensures.value c.leave_out_parts.ensures in
    rw c.filled.ensures.inputs
    (fronts_left c.args.plan.now c.open_inputs.new.answers.items
    (length c.open_inputs.new.answers.items) (g.F.Files.shows c.args.files.now) mid now
    (whole_still c.open_inputs.new.answers.items (g.F.Files.shows c.args.files.now)
    (g.F.Files.shows c.open_inputs.new.files) mid c.in_ok-open_outputs.ensures.held.left_out
    c.in_ok-open_inputs.ensures.whole) fronts)

pub returns-clause-held : goal.returns-clause-held
returns-clause-held g c = λ t.
    let mid = g.F.Files.shows c.open_outputs.new.files in
    let now = g.F.Files.shows c.leave_out_parts.new.files in
    let fronts = subst (λ (l : List (Option ℕ)). LeavesParts c.args.plan.now l (length l) mid now)
    c.as_slice-3.ensures.value c.leave_out_parts.ensures in
    rw c.filled.ensures.inputs
    (inputs_left c.args.plan.now c.open_inputs.new.answers.items
    (g.F.Files.shows c.args.files.now) mid now (length c.open_inputs.new.answers.items) fronts
    (omega arith)
    (inputs_still c.args.plan.now c.open_inputs.new.answers.items (g.F.Files.shows c.args.files.now)
    (g.F.Files.shows c.open_inputs.new.files) mid
    c.in_ok-open_outputs.ensures.held.held (c.in_ok-open_inputs.ensures.held t)))
