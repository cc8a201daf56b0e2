use Rattle.std.proofs.Common.{◌∙◌, ◌++◌, List, ℕ, ap, arith}
use Rattle.machine.specs.Pieces.{contents}
use Rattle.commands.specs.declared.cut_words.Parts.TheVariants.{Fields}
use Rattle.commands.specs.Cut.{cut_content, cut_line}
use Rattle.commands.specs.Selections.{is_selected}
use Rattle.line_filters.proofs.lemmas.LongLaws.{last_out}
use Rattle.line_filters.proofs.long_lines.put_last_fields.Goals as goal

pub returns-clause-ok : goal.returns-clause-ok
returns-clause-ok c =
    λ passed.
    let s = is_selected c.args.ranges.now.ranges.items in
    let p = c.args.partial.now.items in
    last_out (cut_line s (Fields c.args.delimiter c.args.only_delimited)) p
    c.put_content.new.line.items (contents c.args.out.now) (contents c.put_content.new.out)
    (omega arith) c.in_ok-put_content.ensures.line
    (c.in_ok-put_content.ensures.ok
    ∙ ap (λ (x : List ℕ). contents c.args.out.now ++ cut_content s
    (Fields c.args.delimiter c.args.only_delimited) x) c.strip_newline.ensures)
