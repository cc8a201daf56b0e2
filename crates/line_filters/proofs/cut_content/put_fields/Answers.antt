use Rattle.std.proofs.Common.{◌∙◌, ap, List, ℕ, cond, ◌∷◌, ◌++◌, ◌-◌, ◌+◌, ◌≤◌, length, drop, take}
use Rattle.std.proofs.Common.{arith}
use Rattle.std.proofs.lemmas.List.{take_rest}
use Rattle.lanes.specs.inner.Prefixes.{prefix_bytes}
use Rattle.commands.specs.Cut.{fields}
use Rattle.line_filters.specs.inner.FieldPlaces.{FieldsBefore, FieldsOf, AllFieldsOf}
use Rattle.line_filters.proofs.lemmas.FieldLaws.{lead, led_fields, with_lead, put_more, put_short}
use Rattle.line_filters.proofs.lemmas.FieldLaws.{put_rest, put_over}
use Rattle.line_filters.proofs.lemmas.WalkedLaws.{as_walked}
use Rattle.line_filters.proofs.cut_content.put_fields.Goals as goal

pub returns-in_default-field_start : goal.returns-in_default-field_start
returns-in_default-field_start c =
    let l = c.loop-range in
    let content = prefix_bytes c.args.content in
    put_short c.args.ranges.now.ranges.items c.args.delimiter content l.at l.number l.passed l.first
    c.args.made.now l.made c.in-Some.range l.invariant.0 c.in-Some.ensures.range
    (as_walked (λ b x k. length (fields b (drop k x)) ≤ c.in-Some.range.first - l.number) l.walk
    content c.args.delimiter l.at l.invariant.1 l.invariant.2 l.invariant.3
    c.in_default-field_start.ensures)

pub returns-in_default-range_end : goal.returns-in_default-range_end
returns-in_default-range_end c =
    let l = c.loop-range in
    let content = prefix_bytes c.args.content in
    let d = c.args.delimiter in
    let range = c.in-Some.range in
    let start = c.in-Some-field_start.start in
    let b = c.in-Some-field_start.ensures in
    let w = c.field_start.new.walk in
    let fb = as_walked (λ e x k. FieldsBefore e (range.first - l.number) x k start) l.walk content d
    l.at l.invariant.1 l.invariant.2 l.invariant.3 b.0 in
    put_rest c.args.ranges.now.ranges.items d content l.at l.number l.passed start l.first
    c.args.made.now l.made c.put_range.new.made range l.invariant.0 c.in-Some.ensures.range
    fb
    (as_walked (λ e x k. AllFieldsOf range e x k) w content d start (b.1.bytes
    ∙ l.invariant.1) (b.1.byte ∙ l.invariant.2) b.1.from c.in_default-range_end.ensures)
    (c.in_ok-put_range.ensures
    ∙ (ap (λ (n : ℕ). l.made ++ take (n - lead l.first start) (drop (lead l.first start) content))
    c.len.ensures
    ∙ (ap (λ (x : List ℕ). l.made ++ x)
    (with_lead l.first d content start (length content)
    (led_fields l.first d content l.at start (range.first - l.number) l.invariant.4 fb)
    fb.within)
    ∙ ap (λ (x : List ℕ). l.made ++ cond l.first x (d ∷ x)) (take_rest content start))))

pub loop-range-preserved : goal.loop-range-preserved
loop-range-preserved c =
    let l = c.loop-range in
    let content = prefix_bytes c.args.content in
    let d = c.args.delimiter in
    let range = c.in-Some.range in
    let start = c.in-Some-field_start.start in
    let end = c.in-Some-range_end.end in
    let next = c.in-Some-range_end.next in
    let b = c.in-Some-field_start.ensures in
    let f = c.in-Some-range_end.ensures in
    let w = c.field_start.new.walk in
    let fb = as_walked (λ e x k. FieldsBefore e (range.first - l.number) x k start) l.walk content d
    l.at l.invariant.1 l.invariant.2 l.invariant.3 b.0 in
    let fo = as_walked (λ e x k. FieldsOf range e x k end next) w content d start (b.1.bytes
    ∙ l.invariant.1) (b.1.byte ∙ l.invariant.2) b.1.from f.0 in (
      put_more c.args.ranges.now.ranges.items d content l.at l.number l.passed
          (c.next_range.new.passed + 1) start end next l.first c.args.made.now l.made
          c.put_range-in-Some.new.made range l.invariant.0 c.in-Some.ensures.range
          (c.in-Some.ensures.ended next (omega (arith, c.in-Some.ensures.range.after, fo.some))
          fo.ends)
          fb fo
          (c.in_ok-put_range-2.ensures
          ∙ ap (λ (x : List ℕ). l.made ++ x)
          (with_lead l.first d content start end
          (led_fields l.first d content l.at start (range.first - l.number) l.invariant.4 fb)
          (omega (arith, fo.some, fo.places.many)))),
      f.1.bytes ∙ (b.1.bytes ∙ l.invariant.1),
      f.1.byte ∙ (b.1.byte ∙ l.invariant.2),
      f.1.from,
      λ _. fo.places.led,
    )

pub returns : goal.returns
returns c =
    let l = c.loop-range in
    put_over c.args.ranges.now.ranges.items c.args.delimiter
    (prefix_bytes c.args.content) l.at l.number l.passed l.first c.args.made.now l.made
    l.invariant.0 c.in_default.ensures.range
