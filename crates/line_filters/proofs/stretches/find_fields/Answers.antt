use Rattle.std.proofs.Common.{◌∙◌, ap, List, ℕ, cond, [], ◌∷◌, ◌++◌, ◌-◌, ◌+◌, ◌≤◌, length, drop}
use Rattle.std.proofs.Common.{take, arith, refl}
use Rattle.std.proofs.lemmas.List.{take_rest}
use Rattle.lanes.specs.inner.Prefixes.{prefix_bytes}
use Rattle.commands.specs.Cut.{fields}
use Rattle.line_filters.specs.inner.FieldPlaces.{FieldsBefore, FieldsOf, AllFieldsOf}
use Rattle.line_filters.specs.inner.Stretches.{kept_of}
use Rattle.line_filters.proofs.lemmas.FieldLaws.{led_fields, put_more, put_short, put_rest}
use Rattle.line_filters.proofs.lemmas.FieldLaws.{put_over}
use Rattle.line_filters.proofs.lemmas.StretchLaws.{stretch_added}
use Rattle.line_filters.proofs.lemmas.WalkedLaws.{as_walked}
use Rattle.line_filters.proofs.stretches.find_fields.Goals as goal

pub returns-in_default-field_start-clause-fields : goal.returns-in_default-field_start-clause-fields
returns-in_default-field_start-clause-fields c =
    let l = c.loop-range in
    let content = prefix_bytes c.args.content in
    put_short c.args.ranges.now.ranges.items c.args.delimiter content l.at l.number l.passed l.first
    [] (kept_of l.stretches.items content) c.in-Some.range l.invariant.0 c.in-Some.ensures.range
    (as_walked (λ b x k. length (fields b (drop k x)) ≤ c.in-Some.range.first - l.number) l.walk
    content c.args.delimiter l.at l.invariant.1 l.invariant.2 l.invariant.3
    c.in_default-field_start.ensures)

pub returns-in_default-range_end-clause-fields : goal.returns-in_default-range_end-clause-fields
returns-in_default-range_end-clause-fields c =
    let l = c.loop-range in
    let content = prefix_bytes c.args.content in
    let d = c.args.delimiter in
    let range = c.in-Some.range in
    let start = c.in-Some-field_start.start in
    let b = c.in-Some-field_start.ensures in
    let w = c.field_start.new.walk in
    let fb = as_walked (λ e x k. FieldsBefore e (range.first - l.number) x k start) l.walk content d
    l.at l.invariant.1 l.invariant.2 l.invariant.3 b.0 in
    let added = stretch_added l.first d content l.at start c.len.result l.stretches.items
    c.add_stretch.new.stretches.items l.invariant.5 l.invariant.6 l.invariant.4
    (led_fields l.first d content l.at start (range.first - l.number) l.invariant.4 fb)
    (omega (arith, fb.many)) (omega (arith, fb.within, c.len.ensures))
    c.in_ok-add_stretch.ensures in
    put_rest c.args.ranges.now.ranges.items d content l.at l.number l.passed start l.first []
    (kept_of l.stretches.items content)
    (kept_of c.add_stretch.new.stretches.items content) range l.invariant.0
    c.in-Some.ensures.range
    fb
    (as_walked (λ e x k. AllFieldsOf range e x k) w content d start (b.1.bytes
    ∙ l.invariant.1) (b.1.byte ∙ l.invariant.2) b.1.from c.in_default-range_end.ensures)
    (added.kept
    ∙ (ap (λ (n : ℕ). kept_of l.stretches.items content ++ cond l.first
    (take (n - start) (drop start content)) (d ∷ take (n - start) (drop start content)))
    c.len.ensures
    ∙ ap (λ (x : List ℕ). kept_of l.stretches.items content ++ cond l.first x (d ∷ x))
    (take_rest content start)))

pub returns-in_default-range_end-clause-within : goal.returns-in_default-range_end-clause-within
returns-in_default-range_end-clause-within c =
    let l = c.loop-range in
    let content = prefix_bytes c.args.content in
    let d = c.args.delimiter in
    let start = c.in-Some-field_start.start in
    let b = c.in-Some-field_start.ensures in
    let fb = as_walked (λ e x k. FieldsBefore e (c.in-Some.range.first - l.number) x k start) l.walk
    content d l.at l.invariant.1 l.invariant.2 l.invariant.3 b.0 in
    let added = stretch_added l.first d content l.at start c.len.result l.stretches.items
    c.add_stretch.new.stretches.items l.invariant.5 l.invariant.6 l.invariant.4
    (led_fields l.first d content l.at start (c.in-Some.range.first - l.number) l.invariant.4 fb)
    (omega (arith, fb.many)) (omega (arith, fb.within, c.len.ensures))
    c.in_ok-add_stretch.ensures in
    omega (arith, added.reach, c.len.ensures)

pub loop-range-preserved : goal.loop-range-preserved
loop-range-preserved c =
    let l = c.loop-range in
    let content = prefix_bytes c.args.content in
    let d = c.args.delimiter in
    let range = c.in-Some.range in
    let start = c.in-Some-field_start.start in
    let end = c.in-Some-range_end.end in
    let next = c.in-Some-range_end.next in
    let b = c.in-Some-field_start.ensures in
    let f = c.in-Some-range_end.ensures in
    let w = c.field_start.new.walk in
    let fb = as_walked (λ e x k. FieldsBefore e (range.first - l.number) x k start) l.walk content d
    l.at l.invariant.1 l.invariant.2 l.invariant.3 b.0 in
    let fo = as_walked (λ e x k. FieldsOf range e x k end next) w content d start (b.1.bytes
    ∙ l.invariant.1) (b.1.byte ∙ l.invariant.2) b.1.from f.0 in
    let added = stretch_added l.first d content l.at start end l.stretches.items
    c.add_stretch-in-Some.new.stretches.items l.invariant.5 l.invariant.6 l.invariant.4
    (led_fields l.first d content l.at start (range.first - l.number) l.invariant.4 fb)
    (omega (arith, fb.many)) (omega (arith, fo.some, fo.places.many))
    c.in_ok-add_stretch-2.ensures in (
      put_more c.args.ranges.now.ranges.items d content l.at l.number l.passed
          (c.next_range.new.passed + 1) start end next l.first []
          (kept_of l.stretches.items content)
          (kept_of c.add_stretch-in-Some.new.stretches.items content) range l.invariant.0
          c.in-Some.ensures.range
          (c.in-Some.ensures.ended next (omega (arith, c.in-Some.ensures.range.after, fo.some))
          fo.ends)
          fb fo added.kept,
      f.1.bytes ∙ (b.1.bytes ∙ l.invariant.1),
      f.1.byte ∙ (b.1.byte ∙ l.invariant.2),
      f.1.from,
      λ _. fo.places.led,
      omega (arith, added.reach),
      refl,
    )

pub returns-clause-fields : goal.returns-clause-fields
returns-clause-fields c =
    let l = c.loop-range in
    let content = prefix_bytes c.args.content in
    put_over c.args.ranges.now.ranges.items c.args.delimiter content l.at l.number l.passed l.first
    [] (kept_of l.stretches.items content) l.invariant.0 c.in_default.ensures.range
