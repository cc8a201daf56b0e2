use Rattle.std.proofs.Common.{◌+◌, ◌≡◌, ◌∙◌, ◌++◌, [], List, ℕ, ap, sym, subst, take}
use Rattle.std.proofs.lemmas.List.{take_rest}
use Rattle.commands.specs.declared.cut_words.Parts.TheVariants.{Fields}
use Rattle.commands.specs.Cut.{cut_content, cut_line}
use Rattle.commands.specs.Selections.{is_selected}
use Rattle.line_filters.specs.inner.Walked.{Walked}
use Rattle.line_filters.proofs.lemmas.NearLaws.{near_more, near_out}
use Rattle.line_filters.proofs.near_lines.put_near_lines.Goals as goal

pub returns-in_default-clause-lines : goal.returns-in_default-clause-lines
returns-in_default-clause-lines c =
    let l = c.loop-at in
    let of_line = cut_line (is_selected c.args.ranges.now.ranges.items)
    (Fields c.args.delimiter c.args.only_delimited) in
    let count = c.in_ok-count.count in
    let same : c.emptied.new.made ++ take count c.put_near_line.new.few
    ≡ l.made ++ take l.count l.few =
    ap (λ (x : List ℕ). c.emptied.new.made ++ take count x) c.in_default.ensures.line
    ∙ c.in_ok-count.ensures.1 in
    near_out of_line c.args.bytes.now l.at c.args.made.now c.emptied.new.made c.put_few_out.new.made
    (take count c.put_near_line.new.few) c.put_few_out.result c.put_few_out.ensures
    (subst (λ (m : List ℕ). Walked of_line [] [] c.args.bytes.now l.at c.args.made.now m)
    (sym same) l.invariant.0)

pub loop-at-preserved : goal.loop-at-preserved
loop-at-preserved c =
    let l = c.loop-at in
    let bytes = c.args.bytes.now in
    let line = c.in-Some.ensures.line in
    let walked =
    near_more (cut_content (is_selected c.args.ranges.now.ranges.items)
    (Fields c.args.delimiter c.args.only_delimited)) bytes _ l.at c.in-Some.end c.args.made.now
    (l.made ++ take l.count l.few) c.emptied.new.made (take c.in_ok-count.count l.few)
    (take c.in-Some.to c.put_near_line.new.few) l.invariant.0
    (take_rest bytes l.at) line.0 c.in_ok-count.ensures.1 line.2 in (
      walked,
      walked.within,
      line.1,
      c.in-Some.ensures.long ∙ l.invariant.3,
    )

pub returns-then-was_without-clause-lines : goal.returns-then-was_without-clause-lines
returns-then-was_without-clause-lines c =
    let l = c.loop-at in
    let bytes = c.args.bytes.now in
    let line = c.in-Some.ensures.line in
    let of = cut_content (is_selected c.args.ranges.now.ranges.items)
    (Fields c.args.delimiter c.args.only_delimited) in
    near_out (cut_line (is_selected c.args.ranges.now.ranges.items)
    (Fields c.args.delimiter c.args.only_delimited)) bytes
    (l.at + (c.in-Some.end + 1)) c.args.made.now c.emptied.new.made
    c.put_few_out-then-was_without.new.made
    (take c.in-Some.to c.put_near_line.new.few) c.put_few_out-then-was_without.result
    c.put_few_out-then-was_without.ensures
    (near_more of bytes _ l.at c.in-Some.end c.args.made.now
    (l.made ++ take l.count l.few) c.emptied.new.made (take c.in_ok-count.count l.few)
    (take c.in-Some.to c.put_near_line.new.few) l.invariant.0
    (take_rest bytes l.at) line.0 c.in_ok-count.ensures.1 line.2)

pub returns-clause-lines : goal.returns-clause-lines
returns-clause-lines c =
    let l = c.loop-at in
    near_out (cut_line (is_selected c.args.ranges.now.ranges.items)
    (Fields c.args.delimiter c.args.only_delimited)) c.args.bytes.now l.at c.args.made.now
    l.made c.put_few_out-2.new.made (take l.count l.few) c.put_few_out-2.result
    c.put_few_out-2.ensures l.invariant.0
