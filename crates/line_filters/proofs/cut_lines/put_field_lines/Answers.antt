use Rattle.std.proofs.Common.{◌∙◌, ◌+◌, ◌-◌, List, ℕ, subst, length, take, drop, arith}
use Rattle.std.proofs.lemmas.List.{take_rest}
use Rattle.commands.specs.declared.cut_words.Parts.TheVariants.{Fields}
use Rattle.commands.specs.Cut.{cut_line}
use Rattle.commands.specs.Selections.{is_selected}
use Rattle.line_filters.specs.inner.Walked.{Walked}
use Rattle.line_filters.proofs.lemmas.NearLaws.{walked_on, walked_over}
use Rattle.line_filters.proofs.cut_lines.put_field_lines.Goals as goal

pub loop-at-preserved : goal.loop-at-preserved
loop-at-preserved c =
    let l = c.loop-at in
    let bytes = c.args.bytes.now in
    let of_line = cut_line (is_selected c.args.ranges.now.ranges.items)
    (Fields c.args.delimiter c.args.only_delimited) in
    let near = l.at + c.in_ok-at.field-0 in
    let old = c.args.partial.now.items in
    let p = l.partial.items in
    let more =
    subst (λ (x : List ℕ). Walked of_line p p x c.in_ok-at.field-0 l.made
    c.put_if_near.new.made) (take_rest bytes l.at)
    (subst (λ (q : List ℕ). Walked of_line q q
    (take (length bytes - l.at) (drop l.at bytes)) c.in_ok-at.field-0 l.made
    c.put_if_near.new.made) c.deref.ensures.value c.in_ok-at.ensures.lines) in
    let far =
    subst
    (λ (x : List ℕ). Walked of_line p c.put_far_lines.new.partial.items x
    c.in_ok-at-2.field-0 c.put_if_near.new.made c.put_far_lines.new.made)
    (take_rest bytes near) c.in_ok-at-2.ensures.lines in (
      walked_on of_line old p c.put_far_lines.new.partial.items bytes near c.in_ok-at-2.field-0
          c.args.made.now c.put_if_near.new.made c.put_far_lines.new.made
          (walked_on of_line old p p bytes l.at c.in_ok-at.field-0 c.args.made.now l.made
          c.put_if_near.new.made l.invariant.0 more) far,
      c.in_ok-at.ensures.long ∙ l.invariant.1,
    )

pub returns : goal.returns
returns c =
    let l = c.loop-at in
    walked_over (cut_line (is_selected c.args.ranges.now.ranges.items)
    (Fields c.args.delimiter c.args.only_delimited)) c.args.partial.now.items l.partial.items
    c.args.bytes.now l.at c.args.made.now l.made l.invariant.0
    (omega (arith, c.loop-at-test.false))
