use Rattle.std.proofs.Common.{[], ◌≡◌, List, ℕ, sym, subst}
use Rattle.std.specs.Prelude.{IfOk}
use Rattle.commands.specs.declared.cut_words.Parts.TheVariants.{Fields}
use Rattle.commands.specs.Cut.{cut_line}
use Rattle.commands.specs.Selections.{is_selected}
use Rattle.line_filters.specs.inner.Walked.{Walked}
use Rattle.line_filters.proofs.lemmas.NearLaws.{no_bytes}
use Rattle.line_filters.proofs.cut_lines.put_if_near.Goals as goal

pub returns-clause-lines : goal.returns-clause-lines
returns-clause-lines c =
    let none : c.args.partial.now ≡ [] =
    no_bytes c.args.partial.now c.is_empty.result c.is_empty.ensures c.if-not-is_empty.false in
    subst (λ (p : List ℕ). IfOk c.put_near_lines.result
    (λ count. Walked (cut_line (is_selected c.args.ranges.now.ranges.items)
    (Fields c.args.delimiter c.args.only_delimited)) p p c.args.bytes.now count c.args.made.now
    c.put_near_lines.new.made)) (sym none) c.put_near_lines.ensures.lines
